-- The stage of a task, and how it goes on.
use Rattle.std.proofs.Common.{ℕ, ◌||◌, ◌∙◌, ◌≡◌, Bool, None, Option, Some, ap, arith, cond, false, refl, true}
use Rattle.scope_rules.specs.{Accepts, Event, Finished, Forking, History.History, Legal.Legal, Limits, Running, Stage, Waiting, cancelled_before, declared.types.answers.Stage.TheVariants.Never, finished, finishes, followed}
use Rattle.scope_rules.specs.{forking, is_running, is_settled, is_waiting, option_map_or, rejected, rejects, stage, stage_of, started, starts}
use Rattle.scope_rules.proofs.Words.{both_ways, false_from_ne_true}
use Rattle.scope_rules.proofs.{ChainsGrow.cancelled_before_stays, Earlier.forking_within, Forkings.IsForked, Growing.forking_stays, Nesting.forked_opened, OneEventMore.finished_grows, OneEventMore.rejected_grows}
use Rattle.scope_rules.proofs.{OneEventMore.started_grows, PassedRows.rejecter_passed}

-- the stage by whether the task was forked under a cancel, rejected, finished and started
abbrev pub staged : Bool → Bool → Bool → Bool → Stage
staged c r f s = cond (c || r) Never (cond f Finished (cond s Running Waiting))

-- the stage of a forked task
pub stage_is : (h : History) (k : ℕ) (f : Forking) → forking h k ≡ Some f → stage h k ≡ staged (cancelled_before h f.scope f.place) (rejected h k) (finished h k) (started h k)
unfolding stage stage_of
stage_is h k f is = ap (λ (o : Option Forking). option_map_or (stage_of h k) o Never) is

-- equal parts give one stage
pub same_staged : (c c' r r' f f' s s' : Bool) → c ≡ c' → r ≡ r' → f ≡ f' → s ≡ s' → staged c r f s ≡ staged c' r' f' s'
same_staged c c' r r' f f' s s' p q t u = rw p (rw q (rw t (rw u refl)))

-- the stage of a forked task after one event more
pub stage_grows : (L : Limits) (h : History) (e : Event) (k : ℕ) (f : Forking) → Legal L h → forking h k ≡ Some f
    → stage (followed h e) k ≡ staged (cancelled_before h f.scope f.place) (rejected h k || rejects k e) (finished h k || finishes k e) (started h k || starts k e)
stage_grows L h e k f legal is =
    let within = forking_within h k f is in
    stage_is (followed h e) k f (forking_stays h e k f is)
    ∙ same_staged _ _ _ _ _ _ _ _ (cancelled_before_stays L h e f.scope f.place legal (forked_opened L h k f legal is) (omega arith)) (rejected_grows h e k) (finished_grows h e k) (started_grows h e k)

settled_by : (h : History) (k : ℕ) (o : Option Forking) → forking h k ≡ o → is_settled (option_map_or (stage_of h k) o Never) ≡ false → IsForked h k
settled_by h k None is so = absurd cc
settled_by h k (Some f) is so = record { forked = f; is = is }

-- a task that waits or runs was forked
pub unsettled_forked : (h : History) (k : ℕ) → is_settled (stage h k) ≡ false → IsForked h k
unfolding stage
unsettled_forked h k so = settled_by h k (forking h k) refl so

-- what runs isn't settled
pub running_unsettled : (x : Stage) → is_running x ≡ true → is_settled x ≡ false
running_unsettled Running runs = refl
running_unsettled _ runs = absurd cc

-- what waits isn't settled
pub waiting_unsettled : (x : Stage) → is_waiting x ≡ true → is_settled x ≡ false
waiting_unsettled Waiting waits = refl
waiting_unsettled _ waits = absurd cc

-- what runs doesn't wait
pub running_not_waiting : (x : Stage) → is_running x ≡ true → is_waiting x ≡ false
running_not_waiting Running runs = refl
running_not_waiting _ runs = absurd cc

-- a task that runs was forked
pub running_forked : (h : History) (k : ℕ) → is_running (stage h k) ≡ true → IsForked h k
running_forked h k runs = unsettled_forked h k (running_unsettled (stage h k) runs)

-- a task that waits was forked
pub waiting_forked : (h : History) (k : ℕ) → is_waiting (stage h k) ≡ true → IsForked h k
waiting_forked h k waits = unsettled_forked h k (waiting_unsettled (stage h k) waits)

settled_more : (c r f s r' f' s' : Bool) → is_settled (staged c r f s) ≡ true → is_settled (staged c (r || r') (f || f') (s || s')) ≡ true
settled_more true r f s r' f' s' so = refl
settled_more false true f s r' f' s' so = refl
settled_more false false true s true f' s' so = refl
settled_more false false true s false f' s' so = refl
settled_more false false false true r' f' s' so = absurd cc
settled_more false false false false r' f' s' so = absurd cc

-- a forked task that doesn't wait or run never will
pub settled_stays : (L : Limits) (h : History) (e : Event) (k : ℕ) (f : Forking) → Legal L h → forking h k ≡ Some f → is_settled (stage h k) ≡ true → is_settled (stage (followed h e) k) ≡ true
settled_stays L h e k f legal is so =
    rw (stage_grows L h e k f legal is) (settled_more (cancelled_before h f.scope f.place) (rejected h k) (finished h k) (started h k) (rejects k e) (finishes k e) (starts k e) (rw (stage_is h k f is) at so))

running_more : (c r f s r' f' s' : Bool) → is_running (staged c r f s) ≡ true → r' ≡ false → f' ≡ false → is_running (staged c (r || r') (f || f') (s || s')) ≡ true
running_more false false false true false false s' runs unrejected unfinished = refl
running_more c r f s true f' s' runs unrejected unfinished = absurd cc
running_more c r f s r' true s' runs unrejected unfinished = absurd cc
running_more true r f s r' f' s' runs unrejected unfinished = absurd cc
running_more false true f s r' f' s' runs unrejected unfinished = absurd cc
running_more false false true s r' f' s' runs unrejected unfinished = absurd cc
running_more false false false false r' f' s' runs unrejected unfinished = absurd cc

-- a running task runs until it finishes
pub running_stays : (L : Limits) (h : History) (e : Event) (k : ℕ) → Legal L h → Accepts L h e → is_running (stage h k) ≡ true → finishes k e ≡ false → is_running (stage (followed h e) k) ≡ true
running_stays L h e k legal ok runs unfinished =
    let it = running_forked h k runs in
    let f = it.forked in
    let unrejected = false_from_ne_true (rejects k e) (λ so. both_ways (is_waiting (stage h k)) (running_not_waiting (stage h k) runs) (rejecter_passed L h e k so ok)) in
    rw (stage_grows L h e k f legal it.is) (running_more (cancelled_before h f.scope f.place) (rejected h k) (finished h k) (started h k) (rejects k e) (finishes k e) (starts k e) (rw (stage_is h k f it.is) at runs) unrejected unfinished)
