-- The stage of a task after each kind of accepted event.
use Rattle.std.proofs.Common.{[], ℕ, ◌+◌, ◌==◌, ◌||◌, ◌∙◌, ◌≡◌, ◌≢◌, Bool, None, Option, Some, ap, arith, cond, false, inl, inr, length, refl, sym, true}
use Rattle.scope_rules.specs.{Accepts, Event, Finish, Finished, Fork, Forking, History.History, History.tasks, Legal.Legal, Limits, Origin.Origin, Reject, Running, Stage, Start, Waiting, cancelled_before}
use Rattle.scope_rules.specs.{declared.types.answers.Stage.TheVariants.Never, finished, finishes, followed, forking, forking_of, is_cancelled, is_fork, is_running, is_waiting, option_map_or, option_or, rejected, rejects, stage}
use Rattle.scope_rules.specs.{stage_of, started, starts}
use Rattle.scope_rules.proofs.Words.{both_ways, cond-true, eq-eqb, false_from_ne_true, or_cases, or_from}
use Rattle.scope_rules.proofs.{ChainsGrow.cancelled_before_stays, ChainsGrow.cancelled_by_now, Forkings.IsForked, Forkings.forked_after, Growing.forking_stays, Nesting.IsOpened, OneEventMore.along, OneEventMore.finished_grows}
use Rattle.scope_rules.proofs.{OneEventMore.forking_grows, OneEventMore.forking_other, OneEventMore.forking_same, OneEventMore.rejected_grows, OneEventMore.started_grows, PassedRows.finish_passed, PassedRows.finisher_passed}
use Rattle.scope_rules.proofs.{PassedRows.fork_passed, PassedRows.reject_passed, PassedRows.rejecter_passed, PassedRows.start_passed, PassedRows.starter_passed, Stages.running_forked, Stages.same_staged, Stages.stage_grows}
use Rattle.scope_rules.proofs.{Stages.stage_is, Stages.staged, Stages.waiting_forked}

or_nothing : (b c : Bool) → c ≡ false → (b || c) ≡ b
or_nothing true c none = refl
or_nothing false c none = none

-- an event that neither takes nor finishes a forked task leaves its stage
pub stage_same : (L : Limits) (h : History) (e : Event) (k : ℕ) (f : Forking) → Legal L h → forking h k ≡ Some f → rejects k e ≡ false → starts k e ≡ false → finishes k e ≡ false → stage (followed h e) k ≡ stage h k
stage_same L h e k f legal is unrejected unstarted unfinished =
    stage_grows L h e k f legal is
    ∙ (same_staged _ _ _ _ _ _ _ _ refl (or_nothing (rejected h k) (rejects k e) unrejected) (or_nothing (finished h k) (finishes k e) unfinished) (or_nothing (started h k) (starts k e) unstarted)
    ∙ sym (stage_is h k f is))

starts_now : (c r f s b : Bool) → is_waiting (staged c r f s) ≡ true → b ≡ true → staged c (r || false) (f || false) (s || b) ≡ Running
starts_now false false false false true waits now = refl
starts_now _ _ _ _ _ waits now = absurd cc

rejects_now : (c r f s b : Bool) → is_waiting (staged c r f s) ≡ true → b ≡ true → staged c (r || b) (f || false) (s || false) ≡ Never
rejects_now false false false false true waits now = refl
rejects_now _ _ _ _ _ waits now = absurd cc

finishes_now : (c r f s b : Bool) → is_running (staged c r f s) ≡ true → b ≡ true → staged c (r || false) (f || b) (s || false) ≡ Finished
finishes_now false false false true true runs now = refl
finishes_now _ _ _ _ _ runs now = absurd cc

-- where a task that waits comes by an event
waiting_grows : (L : Limits) (h : History) (k : ℕ) (e : Event) (to : Stage) → Legal L h → is_waiting (stage h k) ≡ true
    → ((c r f s : Bool) → is_waiting (staged c r f s) ≡ true → staged c (r || rejects k e) (f || finishes k e) (s || starts k e) ≡ to) → stage (followed h e) k ≡ to
waiting_grows L h k e to legal waits comes =
    let it = waiting_forked h k waits in
    let f = it.forked in
    stage_grows L h e k f legal it.is ∙ comes (cancelled_before h f.scope f.place) (rejected h k) (finished h k) (started h k) (rw (stage_is h k f it.is) at waits)

-- a task that is started runs
pub stage_started : (L : Limits) (h : History) (k : ℕ) → Legal L h → Accepts L h (Start k) → stage (followed h (Start k)) k ≡ Running
stage_started L h k legal ok = waiting_grows L h k (Start k) Running legal (start_passed L h k ok) (λ c r f s waits. starts_now c r f s (k == k) waits (eq-eqb k k refl))

-- a task that is rejected never runs
pub stage_rejected : (L : Limits) (h : History) (k : ℕ) → Legal L h → Accepts L h (Reject k) → stage (followed h (Reject k)) k ≡ Never
stage_rejected L h k legal ok = waiting_grows L h k (Reject k) Never legal (reject_passed L h k ok) (λ c r f s waits. rejects_now c r f s (k == k) waits (eq-eqb k k refl))

-- a task that finishes is finished
pub stage_finished : (L : Limits) (h : History) (k : ℕ) (end : _) → Legal L h → Accepts L h (Finish k end) → stage (followed h (Finish k end)) k ≡ Finished
stage_finished L h k end legal ok =
    let runs = (finish_passed L h k end ok).runs in
    let it = running_forked h k runs in
    let f = it.forked in
    stage_grows L h (Finish k end) k f legal it.is ∙ finishes_now (cancelled_before h f.scope f.place) (rejected h k) (finished h k) (started h k) (k == k) (rw (stage_is h k f it.is) at runs) (eq-eqb k k refl)

-- a task that was never forked is at the stage of one that never runs
pub stage_unforked : (h : History) (k : ℕ) → forking h k ≡ None → stage h k ≡ Never
unfolding stage
stage_unforked h k none = ap (λ (o : Option Forking). option_map_or (stage_of h k) o Never) none

kept_by : (L : Limits) (h : History) (e : Event) (k : ℕ) (o : Option Forking) → Legal L h → forking h k ≡ o → forking (followed h e) k ≡ forking h k → rejects k e ≡ false → starts k e ≡ false → finishes k e ≡ false → stage (followed h e) k ≡ stage h k
kept_by L h e k None legal is same unrejected unstarted unfinished = stage_unforked (followed h e) k (same ∙ is) ∙ sym (stage_unforked h k is)
kept_by L h e k (Some f) legal is same unrejected unstarted unfinished = stage_same L h e k f legal is unrejected unstarted unfinished

-- an event that neither forks nor takes nor finishes a task leaves every stage
pub stage_kept : (L : Limits) (h : History) (e : Event) (k : ℕ) → Legal L h → is_fork e ≡ false → rejects k e ≡ false → starts k e ≡ false → finishes k e ≡ false → stage (followed h e) k ≡ stage h k
stage_kept L h e k legal unforked unrejected unstarted unfinished = kept_by L h e k (forking h k) legal refl (forking_same h e k unforked) unrejected unstarted unfinished

-- a fork leaves the stages of all tasks but the new one
pub stage_fork_other : (L : Limits) (h : History) (a s k : ℕ) (label : _) → Legal L h → tasks h + 1 ≢ k → stage (followed h (Fork a s label)) k ≡ stage h k
stage_fork_other L h a s k label legal other = kept_by L h (Fork a s label) k (forking h k) legal refl (forking_other h (Fork a s label) k other) refl refl refl

-- a mark of a task that only accepted events of forked tasks leave
module _ (L : Limits) (k : ℕ) (marked : History → Bool) (marks : Event → Bool) (grows : (h : History) (e : Event) → marked (followed h e) ≡ (marked h || marks e)) (start : (b : Origin) → marked (record { base = b; events = [] }) ≡ false) (passed : (h : History) (e : Event) → marks e ≡ true → Accepts L h e → IsForked h k) where
  marked_step : (h : History) (e : Event) → Accepts L h e → (marked h ≡ true → IsForked h k) → marked (followed h e) ≡ true → IsForked (followed h e) k
  marked_step h e ok so it =
      let was : IsForked h k = elim (or_cases (marked h) (marks e) (sym (grows h e) ∙ it)) [ inl old ↦ so old | inr now ↦ passed h e now ok ] in
      record { forked = was.forked; is = forking_stays h e k was.forked was.is }

  marked_forked : (h : History) → Legal L h → marked h ≡ true → IsForked h k
  marked_forked h legal = along L (λ g. marked g ≡ true → IsForked g k) (λ b it. absurd (both_ways (marked (record { base = b; events = [] })) (start b) it)) (λ g e lawful ok so. marked_step g e ok so) h legal

-- in a legal history what was rejected was forked
pub rejected_forked : (L : Limits) (h : History) (k : ℕ) → Legal L h → rejected h k ≡ true → IsForked h k
unfolding rejected
rejected_forked L h k legal so = marked_forked L k (λ g. rejected g k) (rejects k) (λ g e. rejected_grows g e k) (λ b. refl) (λ g e it ok. waiting_forked g k (rejecter_passed L g e k it ok)) h legal so

-- in a legal history what was started was forked
pub started_forked : (L : Limits) (h : History) (k : ℕ) → Legal L h → started h k ≡ true → IsForked h k
unfolding started
started_forked L h k legal so = marked_forked L k (λ g. started g k) (starts k) (λ g e. started_grows g e k) (λ b. refl) (λ g e it ok. waiting_forked g k (starter_passed L g e k it ok)) h legal so

-- in a legal history what finished was forked
pub finished_forked : (L : Limits) (h : History) (k : ℕ) → Legal L h → finished h k ≡ true → IsForked h k
unfolding finished
finished_forked L h k legal so = marked_forked L k (λ g. finished g k) (finishes k) (λ g e. finished_grows g e k) (λ b. refl) (λ g e it ok. running_forked g k (finisher_passed L g e k it ok).runs) h legal so

-- the number of the next task was not given yet
next_unforked : (h : History) → IsForked h (tasks h + 1) → ⊥
next_unforked h it = let number = forked_after h (tasks h + 1) it.forked it.is in absurd (omega (arith, number.1, number.2))

next_forking_by : (h : History) (o : Option Forking) → forking h (tasks h + 1) ≡ o → forking h (tasks h + 1) ≡ None
next_forking_by h None is = is
next_forking_by h (Some f) is = absurd (next_unforked h (record { forked = f; is = is }))

-- the forking of the task that a fork gives a number
pub next_forking : (h : History) (a s : ℕ) (label : _) → forking (followed h (Fork a s label)) (tasks h + 1) ≡ Some (record { place = length h.events; actor = a; scope = s; label = label })
next_forking h a s label =
    forking_grows h (Fork a s label) (tasks h + 1)
    ∙ (ap (λ (o : Option Forking). option_or o (cond (tasks h + 1 == tasks h + 1) (forking_of (length h.events) (Fork a s label)) None)) (next_forking_by h (forking h (tasks h + 1)) refl)
    ∙ cond-true (tasks h + 1 == tasks h + 1) (forking_of (length h.events) (Fork a s label)) None (eq-eqb (tasks h + 1) (tasks h + 1) refl))

unmarked : (b c : Bool) (a : Bool) → a ≡ (b || c) → b ≡ false → c ≡ false → a ≡ false
unmarked b c a is first second = is ∙ or_from b c first second

by_cancel : (b : Bool) → staged b false false false ≡ cond b Never Waiting
by_cancel true = refl
by_cancel false = refl

-- a forked task waits, or never runs if its scope is cancelled
pub stage_forked : (L : Limits) (h : History) (a s : ℕ) (label : _) → Legal L h → Accepts L h (Fork a s label) → stage (followed h (Fork a s label)) (tasks h + 1) ≡ cond (is_cancelled h s) Never Waiting
stage_forked L h a s label legal ok =
    let e = Fork a s label in
    let k = tasks h + 1 in
    let owner = (fork_passed L h a s label ok).owner in
    let opened : IsOpened h s = record { opened = owner.opened; is = owner.is } in
    let unrejected = false_from_ne_true (rejected h k) (λ so. next_unforked h (rejected_forked L h k legal so)) in
    let unstarted = false_from_ne_true (started h k) (λ so. next_unforked h (started_forked L h k legal so)) in
    let unfinished = false_from_ne_true (finished h k) (λ so. next_unforked h (finished_forked L h k legal so)) in
    stage_is (followed h e) k (record { place = length h.events; actor = a; scope = s; label = label }) (next_forking h a s label)
    ∙ (same_staged _ _ _ _ _ _ _ _
    (cancelled_before_stays L h e s (length h.events) legal opened (omega arith) ∙ cancelled_by_now h s opened)
    (unmarked (rejected h k) (rejects k e) _ (rejected_grows h e k) unrejected refl)
    (unmarked (finished h k) (finishes k e) _ (finished_grows h e k) unfinished refl)
    (unmarked (started h k) (starts k e) _ (started_grows h e k) unstarted refl)
    ∙ by_cancel (is_cancelled h s))
