-- From its join on, the tasks of a scope, their states and what can be read first stay.
use Rattle.std.proofs.Common.{ℕ, ◌++◌, ◌+◌, ◌<◌, ◌==◌, ◌∙◌, ◌≡◌, Bool, Some, ap, arith, false, length, refl, slice_get, subst, sym, true}
use Rattle.scope_index.specs.{Accepts, Completion, Event, Fork, History, Join, Legal, Limits, before, first_read, followed, joined, joining, joins, ready, row_check, state, tasks, tasks_of}
use Rattle.scope_index.proofs.Words.{IsOpened, IsTask, append-nil, both_ways, checks_at, eq-eqb, eqb-true, false_from_ne_true, joined_grows, joined_stays, joining_entry, legal_before, not_not, not_refused, or_right, scope_passed}
use Rattle.scope_index.proofs.Words.{take_at}
use Rattle.scope_index.proofs.{Over.IsOver, Over.forks_for, Over.over_ready, Over.over_states, Over.over_stays, Over.task_before, Readings.first_over, Since.since, TaskLists.if_one, TaskLists.tasks_forked, TaskLists.tasks_kept}

-- the later history h says of scope s what g says
pub record IsLike (g : History) (s : ℕ) (h : History) : Type 0 where
  pub over : IsOver h s
  pub tasks : tasks_of h s ≡ tasks_of g s
  pub states : (k : ℕ) → IsTask h s k → state h k ≡ state g k
  pub reads : (test : Completion → Bool) → first_read test h s ≡ first_read test g s

-- an event that forks no task in the scope leaves its tasks
tasks_unforked : (h : History) (e : Event) (s : ℕ) → forks_for s e ≡ false → tasks_of (followed h e) s ≡ tasks_of h s
tasks_unforked h (Fork a n label) s none = tasks_forked h a n s label ∙ (ap (λ b. tasks_of h s ++ if_one b (tasks h + 1)) none ∙ append-nil (tasks_of h s))
tasks_unforked h e s none = tasks_kept h e s refl

like_next : (L : Limits) (g : History) (s : ℕ) (h : History) (e : Event) → Legal L h → Accepts L h e → forks_for s e ≡ false → IsLike g s h → IsLike g s (followed h e)
like_next L g s h e legal ok none was = record {
  over = over_stays L h e s legal none was.over;
  tasks = tasks_unforked h e s none ∙ was.tasks;
  states = λ k it.
      let old = task_before h e s k it.forked none it.is it.of in
      over_states L h e s k it.forked legal ok was.over old it.of ∙ was.states k (record { forked = it.forked; is = old; of = it.of });
  reads = λ test. first_over L test h e s legal ok was.over ∙ was.reads test;
}

-- no task is forked in a joined scope
no_fork_joined : (L : Limits) (h : History) (e : Event) (s : ℕ) → Accepts L h e → joined h s ≡ true → forks_for s e ≡ false
unfolding row_check
no_fork_joined L h (Fork a n label) s ok is =
    false_from_ne_true (n == s) (λ same. both_ways (joined h n) (not_refused _ _ (checks_at _ 4 _ ok.passed refl)) (ap (joined h) (eqb-true n s same) ∙ is))
no_fork_joined L h e s ok is = refl

record IsLikeJoined (g : History) (s : ℕ) (h : History) : Type 0 where
  joined : joined h s ≡ true
  like : IsLike g s h

joined_next : (L : Limits) (g : History) (s : ℕ) (h : History) (e : Event) → Legal L h → Accepts L h e → IsLikeJoined g s h → IsLikeJoined g s (followed h e)
joined_next L g s h e legal ok was = record { joined = joined_stays h e s was.joined; like = like_next L g s h e legal ok (no_fork_joined L h e s ok was.joined) was.like }

-- the event that joins a scope, at its place
pub record JoinAt (h : History) (s i : ℕ) : Type 0 where
  pub actor : ℕ
  pub at : slice_get h.events i ≡ Some (Join actor s)
  pub within : i < length h.events

join_by : (h : History) (s i : ℕ) (e : Event) → joins s e ≡ true → slice_get h.events i ≡ Some e → i < length h.events → JoinAt h s i
join_by h s i (Join actor scope) so at within = record { actor = actor; at = at ∙ ap (λ n. Some (Join actor n)) (eqb-true scope s so); within = within }
join_by h s i _ so at within = absurd cc

-- a join stands at the place of the join
pub join_at : (h : History) (s i : ℕ) → joining h s ≡ Some i → JoinAt h s i
join_at h s i is = let it = joining_entry h s i is in join_by h s i it.0 it.2 it.1 it.3

-- what is accepted to be joined was opened, and is ready
pub join_wants : (L : Limits) (h : History) (a s : ℕ) → Accepts L h (Join a s) → IsOpened h s × (ready h s ≡ true)
unfolding row_check
join_wants L h a s ok = (scope_passed h s (checks_at _ 1 _ ok.passed refl), not_not _ (not_refused _ _ (checks_at _ 5 _ ok.passed refl)))

-- the history is like what stood before the join
pub like_at_join : (L : Limits) (h : History) (s i : ℕ) → Legal L h → joining h s ≡ Some i → IsLike (before h i) s h
unfolding Legal
like_at_join L h s i legal is =
    let it = join_at h s i is in
    let g = before h i in
    let lawful = legal_before L h i legal in
    let ok : Accepts L g (Join it.actor s) = legal i (Join it.actor s) it.at in
    let start : IsLike g s g = record { over = over_ready g s (join_wants L g it.actor s ok).1; tasks = refl; states = λ k task. refl; reads = λ test. refl } in
    let first : IsLikeJoined g s (followed g (Join it.actor s)) = record {
      joined = joined_grows g (Join it.actor s) s ∙ or_right (joined g s) (s == s) (eq-eqb s s refl);
      like = like_next L g s g (Join it.actor s) lawful ok refl start;
    } in
    let next : before h (i + 1) ≡ followed g (Join it.actor s) = ap (λ es. record { base = h.base; events = es }) (take_at h.events i (Join it.actor s) it.at) in
    (since L (IsLikeJoined g s) (λ k e lawful_k ok_k was. joined_next L g s k e lawful_k ok_k was) h (i + 1) (omega (arith, it.within)) legal (subst (λ (k : History). IsLikeJoined g s k) (sym next) first)).like
