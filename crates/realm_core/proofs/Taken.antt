-- What a ticket's task is on the realm's history, and what the calls with it come to.
use Rattle.std.proofs.Common.{[], ℕ, ◌++◌, ◌∙◌, ◌∷◌, ◌≡◌, Bool, Err, Ok, Result, Some, ap, arith, false, if◌then◌else◌, is_ok, is_some, refl, subst, sym, true}
use Rattle.realm_core.specs.{Accepts, Answers, EndValue, Event, Finish, FitsTask, Forking, Grant, Happened, History, IsRunning, IsWaiting, KeeperValue, LabelValue, Limits, Realm, Refusal, Reject, Running, Start, Structure}
use Rattle.realm_core.specs.{TableId, TicketAdded, TicketAgrees, TicketOf, TicketValue, Tied, Words.Waiting, cancelled_before, check_of, checks, grant_in, grant_shown, history_of, innermost, refuse_if, row_check, stage}
use Rattle.realm_core.specs.{then_check}
use Rattle.realm_core.proofs.Words.{forked_after, given_ticket_waits, running_forked, seen_tells, started_ticket_runs, task_passes, tells_history, waiting_forked}
use Rattle.realm_core.proofs.Steps.{adds_now, stepped, tied_next}

-- a task that waits may be started, and rejected
pub may_start : (L : Limits) (h : History) (k : ℕ) → stage h k ≡ Waiting → check_of L h (Start k) ≡ Ok tt
unfolding row_check checks then_check
may_start L h k waits =
    let it = waiting_forked h k (rw waits refl) in
    rw (task_passes h k it.forked it.is, waits) refl

pub may_reject : (L : Limits) (h : History) (k : ℕ) → stage h k ≡ Waiting → check_of L h (Reject k) ≡ Ok tt
unfolding row_check checks then_check
may_reject L h k waits =
    let it = waiting_forked h k (rw waits refl) in
    rw (task_passes h k it.forked it.is, waits) refl

structure_alone : (b : Bool) (r : Refusal) → then_check (Ok tt) (then_check (Ok tt) (then_check (refuse_if b Structure) (Ok tt))) ≡ Err r → r ≡ Structure
unfolding then_check
structure_alone true r is = cc
structure_alone false r is = absurd cc

-- the end of a task that runs is refused for its scopes alone
pub only_structure : (L : Limits) (h : History) (k : ℕ) (end : EndValue) (r : Refusal) → stage h k ≡ Running → check_of L h (Finish k end) ≡ Err r → r ≡ Structure
unfolding row_check checks
only_structure L h k end r runs refusing =
    let it = running_forked h k (rw runs refl) in
    structure_alone (is_some (innermost h k)) r (rw (task_passes h k it.forked it.is, runs) at refusing)

-- if its check passes, a command that takes no memory is accepted
pub accepted_ok : {A : Type 0} (L : Limits) (h : History) (e : Event) (value : A) (result : Result A Refusal) → check_of L h e ≡ Ok tt → Answers (check_of L h e) value result → result ≡ Ok value
accepted_ok L h e value result passed said = rw passed at said

label_shown : (b : Bool) (scope : ℕ) (label : LabelValue) (f : Forking) → Some (record { scope = scope; label = label }) ≡ grant_shown b f → label ≡ f.label
label_shown true scope label f is = absurd cc
label_shown false scope label f is = let same : record { scope = scope; label = label } ≡ record { scope = f.scope; label = f.label } = cc in ap (λ (g : Grant). g.label) same

module _ (name : TableId) (realm : Realm) (keeper : KeeperValue) (tied : Tied name realm keeper) (ticket : TicketValue) (agrees : TicketAgrees ticket keeper) where
  -- a ticket that is given and not started: its task waits
  pub waits_now : IsWaiting ticket → stage realm.history ticket.task ≡ Waiting
  waits_now waiting =
      subst (λ (h : History). stage h ticket.task ≡ Waiting) tied.replay (given_ticket_waits keeper.limits ticket.task ticket.seen keeper.steps tied.lawful agrees.agrees waiting.given waiting.unstarted)

  -- one that is started and not finished: its task runs
  pub runs_now : IsRunning ticket → stage realm.history ticket.task ≡ Running
  runs_now running =
      subst (λ (h : History). stage h ticket.task ≡ Running) tied.replay (started_ticket_runs keeper.limits ticket.task ticket.seen keeper.steps tied.lawful agrees.agrees running.given running.started running.unfinished)

  pub start_accepted : IsWaiting ticket → Accepts realm.limits realm.history (Start ticket.task)
  start_accepted waiting = record { passed = may_start realm.limits realm.history ticket.task (waits_now waiting); recorded = refl }

  pub reject_accepted : IsWaiting ticket → Accepts realm.limits realm.history (Reject ticket.task)
  reject_accepted waiting = record { passed = may_reject realm.limits realm.history ticket.task (waits_now waiting); recorded = refl }

  fits_there : (fits : LabelValue → EndValue → Type 0) (label : LabelValue) (scope : ℕ) (end : EndValue) → grant_in ticket.task ticket.seen ≡ Some (record { scope = scope; label = label }) → fits label end → FitsTask fits (history_of keeper.steps) ticket.task end
  fits_there fits label scope end granted fit f is =
      let number = forked_after (history_of keeper.steps) ticket.task f is in
      let told = tells_history keeper.limits keeper.steps ticket.task tied.lawful (omega (arith, number.1, number.2)) in
      let shown = sym ((seen_tells ticket.task ticket.seen keeper.steps agrees.agrees).grant (record { scope = scope; label = label }) granted) ∙ told.grant f is in
      subst (λ (l : LabelValue). fits l end) (label_shown (cancelled_before (history_of keeper.steps) f.scope f.place) scope label f shown) fit

  -- an end that fits the ticket's label fits its task
  pub fits_now : (fits : LabelValue → EndValue → Type 0) (end : EndValue) → grant_in ticket.task ticket.seen ≡ Some (record { scope = ticket.scope; label = ticket.label }) → fits ticket.label end → FitsTask fits realm.history ticket.task end
  fits_now fits end granted fit = subst (λ (h : History). FitsTask fits h ticket.task end) tied.replay (fits_there fits ticket.label ticket.scope end granted fit)

  -- the realm and the keeper after an accepted event
  pub tied_taken : (e : Event) (result : Result (Unit {0}) Refusal) (realm' : Realm) (keeper' : KeeperValue) → Accepts realm.limits realm.history e → Answers (check_of realm.limits realm.history e) tt result → realm' ≡ (if is_ok result then stepped realm (Happened e) else realm) → keeper' ≡ record keeper { steps = keeper.steps ++ Happened e ∷ [] } → Tied name realm' keeper'
  tied_taken e result realm' keeper' ok said realm_is keeper_is =
      let accepted = accepted_ok realm.limits realm.history e tt result ok.passed said in
      rw (realm_is, accepted, keeper_is) (tied_next name realm keeper tied (Happened e) ok)

  pub adds_taken : (e : Event) (new : TicketValue) → Accepts realm.limits realm.history e → new ≡ record ticket { seen = keeper.steps ++ Happened e ∷ [] } → TicketAdded ticket new (Happened e)
  adds_taken e new ok new_is = rw new_is (refl, adds_now name realm keeper tied (TicketOf ticket.task) ticket.limits ticket.seen agrees (Happened e) ok)
