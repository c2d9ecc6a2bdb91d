-- How a scope was closed, by its row.
use Rattle.std.proofs.Common.{ℕ, ◌&&◌, ◌∙◌, ◌≡◌, ap, cond, is_some, not}
use Rattle.realm_state.specs.{History, IsScopeRow, NotJoined, Plain, ScopeRow, Violated, counts_some, has_tasks, joined, verdict}
use Rattle.realm_state.proofs.Words.{joined_is_some, tasks_by_counts}

-- the verdict goes by the row's marks and counts
pub verdict_where : (h : History) (s : ℕ) (r : ScopeRow) → IsScopeRow h s r → verdict h s ≡ cond r.violated Violated (cond (counts_some r.counts && not (is_some r.joined)) NotJoined Plain)
unfolding verdict
verdict_where h s r row =
    ap (λ b. cond b Violated (cond (has_tasks h s && not (joined h s)) NotJoined Plain)) row.violated
    ∙ (ap (λ b. cond r.violated Violated (cond (b && not (joined h s)) NotJoined Plain)) (tasks_by_counts h s ∙ ap counts_some row.counts)
    ∙ ap (λ b. cond r.violated Violated (cond (counts_some r.counts && not b) NotJoined Plain)) (joined_is_some h s ∙ ap is_some row.joined))
