-- The rows after a reject, a start and an end of a task.
use Rattle.std.proofs.Common.{ℕ, ◌==◌, ◌∙◌, ◌≡◌, Bool, None, Some, ap, cond, false, length, refl, subst, sym, true}
use Rattle.scope_rows.specs.{Accepts, AreRowsOf, Counts, EndValue, Event, Finish, Finished, Forking, History, IsScopeRow, IsTaskRow, Legal, Limits, Never, Reject, RowTable, Running, ScopeRow, Stage, Start, Steps.finished, TaskRow}
use Rattle.scope_rows.specs.{Unavailable, Waiting, altered, begins_closing, begins_for, count_finish, count_taken, counts, ended_row, ending_of, ends, followed, forking, innermost, is_cancelled, is_fork, is_open, is_running}
use Rattle.scope_rows.specs.{is_waiting, joins, moved, place_of, recount, rejected, scope_of, stage, stage_row, started, state_at_end, state_by_end, taken}
use Rattle.scope_rows.proofs.Words.{eq-eqb, finish_passed, forked_opened, innermost_same, ne_eqb, reject_passed, running_forked, running_task, stage_finished, stage_rejected, stage_started, start_passed, state_ended, state_stays}
use Rattle.scope_rows.proofs.Words.{waiting_forked}
use Rattle.scope_rows.proofs.{Altering.altered_length, CountMoves.NamesAlone, CountMoves.counts_elsewhere, CountMoves.counts_finished, CountMoves.counts_taken, CountMoves.is_taken, Frames.closed_same, Frames.closing_same}
use Rattle.scope_rows.proofs.{Frames.joining_same, Frames.scope_index, Frames.scope_on, Frames.task_kept, Frames.task_on, Frames.violated_same, Keeping.count_same, Places.AreRight, Places.opened_has, Places.right_altered}
use Rattle.scope_rows.proofs.{Places.scope_of_is, Places.task_at}

-- what waits is at the stage of it
pub waiting_is : (x : Stage) → is_waiting x ≡ true → x ≡ Waiting
waiting_is Waiting is = refl
waiting_is _ is = absurd cc

-- what runs is at the stage of it
pub running_is : (x : Stage) → is_running x ≡ true → x ≡ Running
running_is Running is = refl
running_is _ is = absurd cc

-- an event that says nothing of scopes
record SaysNone (h : History) (e : Event) : Type 0 where
  opens_none : is_open e ≡ false
  joins_none : (s : ℕ) → joins s e ≡ false
  begins_none : (s : ℕ) → begins_closing h s e ≡ false
  violates_none : (s : ℕ) → begins_for h s e ≡ false
  ends_none : (s : ℕ) → ends s e ≡ false

-- an event that moves a task, and says nothing else
record Moves (h : History) (e : Event) (k : ℕ) (f : Forking) (row : TaskRow → TaskRow) (g : Counts → Counts) : Type 0 where
  names : NamesAlone e k
  none : SaysNone h e
  task : (r : TaskRow) → IsTaskRow h k r → IsTaskRow (followed h e) k (row r)
  counted : (s : ℕ) (n : Counts) → (f.scope == s) ≡ true → counts h s ≡ n → counts (followed h e) s ≡ g n
  elsewhere : (s : ℕ) → (f.scope == s) ≡ false → counts (followed h e) s ≡ counts h s

module _ (L : Limits) (h : History) (e : Event) (t : RowTable) (k : ℕ) (f : Forking) (row : TaskRow → TaskRow) (g : Counts → Counts) (legal : Legal L h) (are : AreRowsOf h t) (is : forking h k ≡ Some f) (so : Moves h e k f row g) where
  -- the innermost scopes stay
  inner : (a : ℕ) → innermost (followed h e) a ≡ innermost h a
  inner a = innermost_same h e a so.none.opens_none so.none.ends_none

  -- the row of the task's scope
  scope_here : (s : ℕ) (r : ScopeRow) → (f.scope == s) ≡ true → IsScopeRow h s r → IsScopeRow (followed h e) s (recount g r)
  scope_here s r of it =
      scope_on h e s r r.joined r.closing r.closed r.violated (g r.counts) it
      (joining_same h e s (so.none.joins_none s) ∙ it.joined) (closing_same h e s (so.none.begins_none s) ∙ it.closing) (closed_same h e s (so.none.ends_none s) ∙ it.closed) (violated_same h e s (so.none.violates_none s) ∙ it.violated)
      (so.counted s r.counts of it.counts)

  -- the row of another
  scope_elsewhere : (s : ℕ) (r : ScopeRow) → (f.scope == s) ≡ false → IsScopeRow h s r → IsScopeRow (followed h e) s r
  scope_elsewhere s r other it = scope_index h e s r it (so.none.joins_none s) (so.none.begins_none s) (so.none.ends_none s) (so.none.violates_none s) (so.elsewhere s other)

  -- the rows of all scopes
  moved_scopes : AreRight (IsScopeRow (followed h e)) t.scopes_before (altered (recount g) t.scopes (place_of t.scopes_before (scope_of t k)))
  moved_scopes =
      let has = opened_has h t f.scope are (forked_opened L h k f legal is) in
      subst (λ n. AreRight (IsScopeRow (followed h e)) t.scopes_before (altered (recount g) t.scopes (place_of t.scopes_before n))) (sym (scope_of_is h t k f are is))
      (right_altered (IsScopeRow h) (IsScopeRow (followed h e)) (recount g) t.scopes_before t.scopes f.scope has.0 (λ n r apart it. scope_elsewhere n r (ne_eqb f.scope n (λ same. apart (sym same))) it)
      (λ r at it. scope_here f.scope r (eq-eqb f.scope f.scope refl) it) are.scopes)

  -- the rows of all tasks
  moved_tasks : AreRight (IsTaskRow (followed h e)) t.tasks_before (altered row t.tasks (place_of t.tasks_before k))
  moved_tasks =
      let has = (task_at h t k are (record { forked = f; is = is })).has in
      right_altered (IsTaskRow h) (IsTaskRow (followed h e)) row t.tasks_before t.tasks k has.0 (λ n r apart it. let un = so.names.others n apart in task_kept L h e n r legal it un.0 un.1 un.2 (inner n)) (λ r at it. so.task r it) are.tasks

  -- the rows with the task moved agree after the event
  rows_moved : AreRowsOf (followed h e) (moved t k row g)
  rows_moved = record {
    scopes_before = are.scopes_before;
    tasks_before = are.tasks_before;
    main = inner 0 ∙ are.main;
    scope_count = altered_length (recount g) t.scopes (place_of t.scopes_before (scope_of t k)) ∙ (are.scope_count ∙ sym (count_same is_open h e so.none.opens_none));
    task_count = altered_length row t.tasks (place_of t.tasks_before k) ∙ (are.task_count ∙ sym (count_same is_fork h e so.names.forks_none));
    scopes = moved_scopes;
    tasks = moved_tasks;
  }

-- a reject names its task alone
pub names_rejected : (k : ℕ) → NamesAlone (Reject k) k
names_rejected k = record { forks_none = refl; others = λ j apart. (ne_eqb k j (λ same. apart (sym same)), refl, refl) }

-- and so does a start
pub names_started : (k : ℕ) → NamesAlone (Start k) k
names_started k = record { forks_none = refl; others = λ j apart. (refl, ne_eqb k j (λ same. apart (sym same)), refl) }

-- and an end
pub names_finished : (k : ℕ) (end : EndValue) → NamesAlone (Finish k end) k
names_finished k end = record { forks_none = refl; others = λ j apart. (refl, refl, ne_eqb k j (λ same. apart (sym same))) }

-- an event that takes a task which waits, and says nothing of how it ends
abbrev takes : Event → Bool
takes (Reject task) = true
takes (Start task) = true
takes _ = false

says_none : (h : History) (e : Event) → takes e ≡ true → SaysNone h e
says_none h (Reject task) so = record { opens_none = refl; joins_none = λ s. refl; begins_none = λ s. refl; violates_none = λ s. refl; ends_none = λ s. refl }
says_none h (Start task) so = record { opens_none = refl; joins_none = λ s. refl; begins_none = λ s. refl; violates_none = λ s. refl; ends_none = λ s. refl }
says_none h _ so = absurd cc

no_ending : (k i : ℕ) (e : Event) → takes e ≡ true → ending_of k i e ≡ None
no_ending k i (Finish task end) so = absurd cc
no_ending k i _ so = refl

-- the rows agree after an event that takes a task
rows_taken : (L : Limits) (h : History) (t u : RowTable) (k : ℕ) (e : Event) (to : Stage) → u ≡ taken t k to → Legal L h → AreRowsOf h t → is_waiting (stage h k) ≡ true → NamesAlone e k → takes e ≡ true → is_taken to ≡ true → stage (followed h e) k ≡ to → AreRowsOf (followed h e) u
rows_taken L h t u k e to written legal are waits names so may now =
    let it = waiting_forked h k waits in
    let was = waiting_is (stage h k) waits in
    let none = says_none h e so in
    subst (AreRowsOf (followed h e)) (sym written)
    (rows_moved L h e t k it.forked (stage_row to) (count_taken to) legal are it.is
    (record {
      names = names;
      none = none;
      task = λ r says. task_on h e k r to r.state r.innermost says now (state_stays L h e k says.forked legal says.is (no_ending k (length h.events) e so) ∙ says.state) (innermost_same h e k none.opens_none none.ends_none ∙ says.innermost);
      counted = λ s n of had. counts_taken L h e k it.forked s n legal it.is names of had to may was now;
      elsewhere = λ s other. counts_elsewhere L h e k it.forked Waiting to legal it.is names was now s other;
    }))

-- they agree after a reject
pub rows_rejected : (L : Limits) (h : History) (t u : RowTable) (k : ℕ) → u ≡ rejected t k → Legal L h → Accepts L h (Reject k) → AreRowsOf h t → AreRowsOf (followed h (Reject k)) u
rows_rejected L h t u k written legal ok are = rows_taken L h t u k (Reject k) Never written legal are (reject_passed L h k ok) (names_rejected k) refl refl (stage_rejected L h k legal ok)

-- and after a start
pub rows_started : (L : Limits) (h : History) (t u : RowTable) (k : ℕ) → u ≡ started t k → Legal L h → Accepts L h (Start k) → AreRowsOf h t → AreRowsOf (followed h (Start k)) u
rows_started L h t u k written legal ok are = rows_taken L h t u k (Start k) Running written legal are (start_passed L h k ok) (names_started k) refl refl (stage_started L h k legal ok)

-- and after an end, if it is known whether the task's scope is cancelled
pub rows_finished : (L : Limits) (h : History) (t : RowTable) (k : ℕ) (end : EndValue) (cancelled : Bool) → Legal L h → Accepts L h (Finish k end) → AreRowsOf h t → cancelled ≡ is_cancelled h (scope_of t k)
    → AreRowsOf (followed h (Finish k end)) (finished t k end cancelled)
rows_finished L h t k end cancelled legal ok are cut =
    let e = Finish k end in
    let runs = (finish_passed L h k end ok).runs in
    let it = running_forked h k runs in
    let was = running_is (stage h k) runs in
    let now = stage_finished L h k end legal ok in
    let of : scope_of t k ≡ it.forked.scope = scope_of_is h t k it.forked are it.is in
    let known : is_cancelled h it.forked.scope ≡ cancelled = ap (is_cancelled h) (sym of) ∙ sym cut in
    rows_moved L h e t k it.forked (ended_row (state_at_end cancelled end)) count_finish legal are it.is
    (record {
      names = names_finished k end;
      none = record { opens_none = refl; joins_none = λ s. refl; begins_none = λ s. refl; violates_none = λ s. refl; ends_none = λ s. refl };
      task = λ r says.
          task_on h e k r Finished (state_at_end cancelled end) r.innermost says now
          (state_ended L h k end it.forked legal it.is (running_task h k runs) ∙ ap (λ b. cond b Unavailable (state_by_end end)) known)
          (innermost_same h e k refl (λ n. refl) ∙ says.innermost);
      counted = λ s n of_it had. counts_finished L h e k it.forked s n legal it.is (names_finished k end) of_it had was now;
      elsewhere = λ s other. counts_elsewhere L h e k it.forked Running Finished legal it.is (names_finished k end) was now s other;
    })
