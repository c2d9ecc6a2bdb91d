-- A move of a deadline: taken away, still to come, or passed.
use Rattle.std.proofs.Common.{[], ℕ, ◌-◌, ◌<◌, ◌∙◌, ◌∷◌, ◌≡◌, ◌≤◌, List, None, Option, Some, ap, arith, cond, false, length, nat_le, refl, subst, suc, sym, zero}
use Rattle.cancel_tree.proofs.RowLaws.{altered_length}
use Rattle.cancel_tree.specs.Rows.{altered}
use Rattle.scope_index.specs.{CancelTable, Deadline, HasRow, IsLatest, IsMoved, ScopeNode, cancel_at, cancelled, changed, deadlined, with_deadline, with_own}
use Rattle.scope_index.proofs.Words.{latest_deadline, le-leb, lt-leb}
use Rattle.scope_index.proofs.CancelSteps.{moved_next}

altered_twice : (f g : ScopeNode → ScopeNode) (ts : List ScopeNode) (i : ℕ) → altered g (altered f ts i) i ≡ altered (λ t. g (f t)) ts i
altered_twice f g [] i = refl
altered_twice f g (t ∷ ts) zero = refl
altered_twice f g (t ∷ ts) (suc i) = ap (λ us. t ∷ us) (altered_twice f g ts i)

pub moved_away : (old new : CancelTable) (s place : ℕ) → HasRow old s → new ≡ deadlined old s None → IsMoved old new s None place
moved_away old new s place has is L h legal was at unjoined = moved_next L h s None old new legal was has unjoined is

not_past : (now d : ℕ) → now < d → nat_le d now ≡ false
not_past now d coming = lt-leb d now coming

pub moved_on : (old new : CancelTable) (s d place : ℕ) → HasRow old s → old.moment < d → new ≡ deadlined old s (Some d) → IsMoved old new s (Some d) place
moved_on old new s d place has coming is L h legal was at unjoined =
    moved_next L h s (Some d) old new legal was has unjoined
    (is ∙ ap (λ b. record old { nodes = changed old.nodes (s - old.before) (λ t. cond b (with_own (cancel_at (length h.events) (s - old.before) Deadline) (with_deadline (Some d) t)) (with_deadline (Some d) t)) }) (sym (not_past old.moment d coming)))

pub moved_past : (old mid new : CancelTable) (s d place : ℕ) → HasRow old s → d ≤ old.moment → mid ≡ deadlined old s (Some d) → new ≡ cancelled mid s Deadline place → IsMoved old new s (Some d) place
moved_past old mid new s d place has past between is L h legal was at unjoined =
    let n = s - old.before in
    moved_next L h s (Some d) old new legal was has unjoined
    (is
    ∙ (ap (λ m. cancelled m s Deadline place) between
    ∙ (ap (λ rs. record old { nodes = rs }) (altered_twice (with_deadline (Some d)) (with_own (cancel_at place n Deadline)) old.nodes (n - 1))
    ∙ (ap (λ p. record old { nodes = changed old.nodes n (λ t. with_own (cancel_at p n Deadline) (with_deadline (Some d) t)) }) at
    ∙ ap (λ b. record old { nodes = changed old.nodes n (λ t. cond b (with_own (cancel_at (length h.events) n Deadline) (with_deadline (Some d) t)) (with_deadline (Some d) t)) }) (sym (le-leb d old.moment past))))))

-- a deadline that is set leaves the rows that there are
pub has_deadlined : (old new : CancelTable) (s : ℕ) (d : Option ℕ) → HasRow old s → new ≡ deadlined old s d → HasRow new s
has_deadlined old new s d has is =
    let same = altered_length (with_deadline d) old.nodes (s - old.before - 1) in
    subst (λ t. HasRow t s) (sym is) (record { after = has.after; within = omega (arith, has.within, same) })

-- and no own cancel moves
pub latest_deadlined : (old new : CancelTable) (s place : ℕ) (d : Option ℕ) → HasRow old s → new ≡ deadlined old s d → IsLatest old.nodes place → IsLatest new.nodes place
latest_deadlined old new s place d has is latest =
    subst (λ (t : CancelTable). IsLatest t.nodes place) (sym is) (latest_deadline old.nodes place (s - old.before) d (omega (arith, has.after)) latest)
