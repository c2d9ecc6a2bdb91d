-- Rows that agree with a history give what each call wants, for an event that was accepted.
use Rattle.std.proofs.Common.{ℕ, ◌&&◌, ◌+◌, ◌∙◌, ◌≡◌, ◌≤◌, Bool, IfSome, None, Option, Some, ap, arith, cond, count_by, false, refl, subst, suc, sym, true, zero}
use Rattle.scope_rows.specs.{Accepts, AreLinked, AreRowsOf, BeginClose, CanBeTaken, CanBeginClose, CanEndClose, CanFinish, CanFork, CanOpen, EndClose, Event, Finish, Finished, Fork, Forking, HasCountRoom, HasScope}
use Rattle.scope_rows.specs.{HasScopeNumbers, HasSmallNumbers, HasTaskNumbers, History, Legal, Limits, Never, Open, Reject, RowTable, Running, ScopeRow, Stage, Start, TASK_LIMIT, Waiting, before, counts, counts_of, forked_count}
use Rattle.scope_rows.specs.{forking, innermost, innermost_of, is_at, is_fork, is_stage, no_counts, option_map_or, range_with_len, scope_of, stage, task_numbers}
use Rattle.scope_rows.proofs.Words.{along, any_counted, begin_close_passed, count_by-cons, count_push, end_close_passed, eq-eqb, finish_passed, fork_number, fork_passed, forked_after, forked_opened, innermost_unclosed, ltb-true}
use Rattle.scope_rows.proofs.Words.{open_number, open_passed, opened_after, opening_number, range_any, reject_passed, running_forked, start_passed, tally, waiting_forked}
use Rattle.scope_rows.proofs.{Actors.actor_has, CountMoves.unit_is, Frames.tallies_of, Places.forked_has, Places.opened_has, Places.scope_of_is, Places.scope_row_is, Places.scope_there, Reading.innermost_says, TaskLaws.running_is}
use Rattle.scope_rows.proofs.{TaskLaws.waiting_is}

-- ---- numbers

-- if a history has small numbers, so have its rows
pub scope_numbers_fit : (h : History) (t : RowTable) → AreRowsOf h t → HasSmallNumbers h → HasScopeNumbers t
scope_numbers_fit h t are small = omega (arith, are.scopes_before, are.scope_count, small.scopes)

-- and its tasks
pub task_numbers_fit : (h : History) (t : RowTable) → AreRowsOf h t → HasSmallNumbers h → HasTaskNumbers t
task_numbers_fit h t are small = omega (arith, are.tasks_before, are.task_count, small.tasks)

-- ---- counts

-- one at the most is counted more
one_more : (b : Bool) (m n : ℕ) → m ≤ n → cond {A = ℕ} b 1 0 + m ≤ n + 1
one_more true m n less = omega (arith, less)
one_more false m n less = omega (arith, less)

-- no more numbers are counted than there are
counted_within : (p : ℕ → Bool) (a n : ℕ) → count_by p (range_with_len a n) ≤ n
counted_within p a zero = omega arith
counted_within p a (suc n) =
    let rest = one_more (p a) (count_by p (range_with_len (a + 1) n)) n (counted_within p (a + 1) n) in
    omega (arith, count_by-cons p a (range_with_len (a + 1) n), rest)

-- an accepted event keeps to the limit of tasks
forks_step : (L : Limits) (h : History) (e : Event) → Accepts L h e → forked_count h ≤ L.tasks → forked_count h + cond {A = ℕ} (is_fork e) 1 0 ≤ L.tasks
forks_step L h (Fork actor scope label) ok was = omega (arith, (fork_number L h actor scope label ok.passed).0)
forks_step L h _ ok was = omega (arith, was)

-- in a legal history no more tasks are forked than the limit says
pub forks_within : (L : Limits) (h : History) → Legal L h → forked_count h ≤ L.tasks
forks_within L h legal =
    along L (λ g. forked_count g ≤ L.tasks) (λ b. omega arith)
    (λ g e lawful ok was. omega (arith, count_push is_fork g.events e, forks_step L g e ok was)) h legal

-- the counts of a scope are those of its row
pub counts_are : (h : History) (t : RowTable) (s : ℕ) → AreRowsOf h t → HasScope t s → counts h s ≡ counts_of t s
counts_are h t s are has =
    let it = scope_there h t s are has in
    it.says.counts ∙ sym (ap (λ (o : Option ScopeRow). option_map_or (λ (r : ScopeRow). r.counts) o no_counts) (scope_row_is h t s it))

-- in a legal history one task more can be counted at each stage
pub counts_have_room : (L : Limits) (h : History) (t : RowTable) (s : ℕ) → Legal L h → AreRowsOf h t → HasScope t s → HasCountRoom (counts_of t s)
counts_have_room L h t s legal are has =
    let n = tallies_of h s (counts_of t s) (counts_are h t s are has) in
    let few : forked_count h ≤ TASK_LIMIT = omega (arith, forks_within L h legal, L.tasks_in_range) in
    let bound : (x : Stage) → tally h s x ≤ forked_count h = λ x. counted_within (is_at h s x) (h.base.tasks + 1) (forked_count h) in
    record {
      never = omega (arith, n.never, few, bound Never);
      waiting = omega (arith, n.waiting, few, bound Waiting);
      running = omega (arith, n.running, few, bound Running);
      finished = omega (arith, n.finished, few, bound Finished);
    }

-- a task at a stage is counted in its scope
counted_one : (h : History) (k : ℕ) (f : Forking) (x : Stage) → forking h k ≡ Some f → stage h k ≡ x → is_stage x x ≡ true → 1 ≤ tally h f.scope x
counted_one h k f x is at same =
    let number = forked_after h k f is in
    let unit : is_at h f.scope x k ≡ true = unit_is h f.scope x k f x is at ∙ (ap (λ b. b && is_stage x x) (eq-eqb f.scope f.scope refl) ∙ same) in
    let found = range_any (is_at h f.scope x) (h.base.tasks + 1) (forked_count h) number.0 number.1 (ap (is_at h f.scope x) number.2 ∙ unit) in
    let more = ltb-true 0 (tally h f.scope x) (sym (any_counted (is_at h f.scope x) (task_numbers h)) ∙ found) in
    omega (arith, more)

-- ---- what the calls want

-- what an open wants
pub can_open : (L : Limits) (h : History) (t : RowTable) (a : ℕ) (policy options : _) → Accepts L h (Open a policy options) → AreRowsOf h t → CanOpen t a
can_open L h t a policy options ok are = record {
  actor = actor_has h t a are (open_passed L h a policy options ok);
  number = let few = (open_number L h a policy options ok.passed).1 in omega (arith, are.scopes_before, are.scope_count, few);
}

-- what a fork wants
pub can_fork : (L : Limits) (h : History) (t : RowTable) (a s : ℕ) (label : _) → Legal L h → Accepts L h (Fork a s label) → AreRowsOf h t → CanFork t s
can_fork L h t a s label legal ok are =
    let owner = (fork_passed L h a s label ok).owner in
    let has = opened_has h t s are (record { opened = owner.opened; is = owner.is }) in
    record { scope = has; room = counts_have_room L h t s legal are has }

-- the scope of a forked task has a row
task_scope : (L : Limits) (h : History) (t : RowTable) (k : ℕ) (f : Forking) → Legal L h → AreRowsOf h t → forking h k ≡ Some f → HasScope t (scope_of t k)
task_scope L h t k f legal are is = subst (HasScope t) (sym (scope_of_is h t k f are is)) (opened_has h t f.scope are (forked_opened L h k f legal is))

-- a task at a stage is counted in the row of its scope
counted_in : (L : Limits) (h : History) (t : RowTable) (k : ℕ) (f : Forking) (x : Stage) → Legal L h → AreRowsOf h t → forking h k ≡ Some f → stage h k ≡ x → is_stage x x ≡ true → 1 ≤ tally h (scope_of t k) x
counted_in L h t k f x legal are is at same = subst (λ s. 1 ≤ tally h s x) (sym (scope_of_is h t k f are is)) (counted_one h k f x is at same)

-- a task that waits can be taken
can_be_taken : (L : Limits) (h : History) (t : RowTable) (k : ℕ) (f : Forking) → Legal L h → AreRowsOf h t → forking h k ≡ Some f → stage h k ≡ Waiting → CanBeTaken t k
can_be_taken L h t k f legal are is at =
    let has = task_scope L h t k f legal are is in
    record {
      task = forked_has h t k are (record { forked = f; is = is });
      scope = has;
      waits = let n = (tallies_of h (scope_of t k) (counts_of t (scope_of t k)) (counts_are h t (scope_of t k) are has)).waiting in omega (arith, counted_in L h t k f Waiting legal are is at refl, n);
      room = counts_have_room L h t (scope_of t k) legal are has;
    }

-- what a reject wants
pub can_reject : (L : Limits) (h : History) (t : RowTable) (k : ℕ) → Legal L h → Accepts L h (Reject k) → AreRowsOf h t → CanBeTaken t k
can_reject L h t k legal ok are =
    let waits = reject_passed L h k ok in
    let it = waiting_forked h k waits in
    can_be_taken L h t k it.forked legal are it.is (waiting_is (stage h k) waits)

-- what a start wants
pub can_start : (L : Limits) (h : History) (t : RowTable) (k : ℕ) → Legal L h → Accepts L h (Start k) → AreRowsOf h t → CanBeTaken t k
can_start L h t k legal ok are =
    let waits = start_passed L h k ok in
    let it = waiting_forked h k waits in
    can_be_taken L h t k it.forked legal are it.is (waiting_is (stage h k) waits)

-- what an end wants
pub can_finish : (L : Limits) (h : History) (t : RowTable) (k : ℕ) (end : _) → Legal L h → Accepts L h (Finish k end) → AreRowsOf h t → CanFinish t k
can_finish L h t k end legal ok are =
    let runs = (finish_passed L h k end ok).runs in
    let it = running_forked h k runs in
    let has = task_scope L h t k it.forked legal are it.is in
    record {
      task = forked_has h t k are (record { forked = it.forked; is = it.is });
      scope = has;
      runs = let n = (tallies_of h (scope_of t k) (counts_of t (scope_of t k)) (counts_are h t (scope_of t k) are has)).running in omega (arith, counted_in L h t k it.forked Running legal are it.is (running_is (stage h k) runs) refl, n);
      room = counts_have_room L h t (scope_of t k) legal are has;
    }

-- each scope is below those after it alone
pub rows_linked : (h : History) (t : RowTable) → AreRowsOf h t → AreLinked t.scopes_before t.scopes
rows_linked h t are i r b at below =
    let it = are.scopes i r at in
    let found = innermost_unclosed (before h r.opening.place) r.opening.actor b (it.below ∙ below) in
    let number = opened_after (before h r.opening.place) b found.opened found.is in
    let own = opening_number h ((t.scopes_before + 1) + i) r.opening it.opening in
    (omega (arith, number.2, are.scopes_before), omega (arith, number.1, number.2, own))

-- an actor's innermost scope has a row
inner_by : (h : History) (t : RowTable) (a : ℕ) (o : Option ℕ) → AreRowsOf h t → innermost h a ≡ o → IfSome o (HasScope t)
inner_by h t a None are is = tt
inner_by h t a (Some s) are is = let it = innermost_unclosed h a s is in opened_has h t s are (record { opened = it.opened; is = it.is })

-- what the beginning of a close wants
pub can_begin_close : (L : Limits) (h : History) (t : RowTable) (a s : ℕ) → Legal L h → Accepts L h (BeginClose a s) → AreRowsOf h t → CanBeginClose t a s
can_begin_close L h t a s legal ok are =
    let row = begin_close_passed L h a s ok in
    record {
      actor = actor_has h t a are row.acts;
      scope = opened_has h t s are (record { opened = row.owner.opened; is = row.owner.is });
      linked = rows_linked h t are;
      inner = inner_by h t a (innermost_of t a) are (sym (innermost_says L h t a legal are));
    }

-- what the end of a close wants
pub can_end_close : (L : Limits) (h : History) (t : RowTable) (a s : ℕ) → Accepts L h (EndClose a s) → AreRowsOf h t → CanEndClose t a s
can_end_close L h t a s ok are =
    let row = end_close_passed L h a s ok in
    record {
      actor = actor_has h t a are row.acts;
      scope = opened_has h t s are (record { opened = row.owner.opened; is = row.owner.is });
    }
