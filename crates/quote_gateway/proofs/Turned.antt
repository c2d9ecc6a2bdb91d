-- What a call leaves that was refused while a request was served, and why it was.
use Rattle.std.specs.Prelude.{◌++◌, ◌∷◌, ◌≡◌, ◌⊎◌}
use Rattle.quote_gateway.specs.{[], ℕ, Asked, Before, DidOrMemory, DoesInRoom, Err, Fork, ForkReply, ForkTurnedDown, ForkWhy, ForkedAs, ForksJob, ForksRejected, GatewayFault}
use Rattle.quote_gateway.specs.{Happened, HasLooked, HasRejected, IsBeginning, IsOfCall, IsOneOf, IsOpenHere, IsRefusedAt, IsRejectedIn, IsSome, IsTurnedDown, Join, Joined, Joins, KeepsInnermost}
use Rattle.quote_gateway.specs.{KeepsScopes, KeepsTasks, LabelValue, List, Memory, None, Open, OpensNone, Option, Options, OutOfMemory, OwnerValue, PlanValue, Policy, Pulsed, RealmStep, Refusal}
use Rattle.quote_gateway.specs.{Refused, Reject, Rejected, Result, SeesMore, Some, Thread, Tick, history_seen, nests, next_scope, refusal_of, step_check}
use Rattle.quote_gateway.proofs.Words.{◌∙◌, Ok, ap, append_assoc, found_before, inl, inr, refl, subst, sym}
use Rattle.quote_gateway.proofs.Going.{added, added_inside, begins_agreeing, begins_on, begins_same, goes_nowhere, looked, nests_find, same_actor, scopes_kept, tokens_on}
use Rattle.quote_gateway.proofs.{Asking.forked_task, Asking.here_inside, Asking.rejected_last, Ending.follows_going, Following.label_after, Following.task_after}

-- a call was refused: it was memory, or there is another cause
pub turned_down : (Why : Type 0) (refusal : Refusal) (why : GatewayFault) → IsOfCall why → (refusal ≡ Memory → why ≡ GatewayFault.Memory) → ((refusal ≡ Memory → ⊥) → Why) → IsTurnedDown Why why
turned_down Why refusal GatewayFault.Memory call memory cause = tt
turned_down Why refusal GatewayFault.Rejected call memory cause = cause (λ m. absurd (cc (memory m)))
turned_down Why refusal GatewayFault.Strange call memory cause = absurd call
turned_down Why refusal GatewayFault.Cancelled call memory cause = absurd call
turned_down Why refusal GatewayFault.Lost call memory cause = absurd call

-- the rules refused the step
pub refused_at : (old new : OwnerValue) (x : RealmStep) (refusal : Refusal) → SeesMore old new → Refused old new x refusal → (refusal ≡ Memory → ⊥) → IsRefusedAt old new x
refused_at old new x refusal same it other = record {
  seen = new.seen;
  since = begins_agreeing old.actor old.seen new.seen it.looks.agrees;
  until = begins_same new.seen;
  refusal = refusal;
  other = other;
  by = subst (λ (t : OwnerValue). step_check t.limits t.actor x (history_seen new) ≡ Err refusal) (sym same) it.by;
}

pub refused_or_memory : (old new : OwnerValue) (x : RealmStep) (refusal : Refusal) → SeesMore old new → Refused old new x refusal ⊎ OutOfMemory old new x refusal → (refusal ≡ Memory → ⊥) → IsRefusedAt old new x
refused_or_memory old new x refusal same it other = elim it [ inl by ↦ refused_at old new x refusal same by other | inr none ↦ absurd (other none.memory) ]

pub looked_by : (old new : OwnerValue) (x : RealmStep) (refusal : Refusal) → Refused old new x refusal ⊎ OutOfMemory old new x refusal → HasLooked old new
looked_by old new x refusal it = elim it [ inl by ↦ by.looks | inr none ↦ none.looks ]

-- what was refused since a later beginning was refused since an earlier one
pub refused_earlier : (old mid new : OwnerValue) (x : RealmStep) → IsBeginning old.seen mid.seen → IsRefusedAt mid new x → IsRefusedAt old new x
refused_earlier old mid new x begins it = record {
  seen = it.seen;
  since = begins_on old.seen mid.seen it.seen begins it.since;
  until = it.until;
  refusal = it.refusal;
  other = it.other;
  by = it.by;
}

-- ---- the open

pub opens_none : (old new : OwnerValue) (policy : Policy) (options : Options) (refusal : Refusal) (why : GatewayFault) → DoesInRoom old new (Happened (Open old.actor policy options)) next_scope (Err refusal) → IsOfCall why → (refusal ≡ Memory → why ≡ GatewayFault.Memory) → OpensNone old new policy options why
opens_none old new policy options refusal why it call memory =
    let x = Happened (Open old.actor policy options) in
    elim it [
      | inl did ↦
          let looks = looked_by old new x refusal did.1 in
          record {
            since = begins_agreeing old.actor old.seen new.seen looks.agrees;
            left = found_before old new (did.0, looks);
            cause = turned_down (IsRefusedAt old new x) refusal why call memory (λ other. refused_or_memory old new x refusal did.0 did.1 other);
          }
      | inr none ↦
          let same : new ≡ old = none.same in
          record {
            since = subst (λ (t : OwnerValue). IsBeginning old.seen t.seen) (sym same) (begins_same old.seen);
            left = subst (λ (t : OwnerValue). KeepsInnermost old t) (sym same) refl;
            cause = turned_down (IsRefusedAt old new x) refusal why call memory (λ other. absurd (other none.memory));
          }
    ]

-- ---- a fork

one_of_one : (its : LabelValue) → IsOneOf its (its ∷ [])
one_of_one its = record { before = []; after = []; is = refl }

nowhere : (old new : OwnerValue) (s : ℕ) → new ≡ old → IsOpenHere old s → KeepsScopes old new
nowhere old new s same here = subst (λ (t : OwnerValue). KeepsScopes old t) (sym same) (goes_nowhere old.limits (nests old.actor) old.seen here.legal)

forked_then_rejected : (old new : OwnerValue) (s : ℕ) (its : LabelValue) (task : ℕ) → ForksRejected old new s its task → KeepsScopes old new
forked_then_rejected old new s its task it =
    let mid = it.forked in
    tokens_on old mid new nests it.sees
    (added_inside old.limits old.actor old.seen mid.seen (Happened (Fork old.actor s its)) it.accepted.adds refl)
    (added_inside mid.limits mid.actor mid.seen new.seen (Happened (Reject task)) it.rejected refl)

-- it opens and closes nothing
pub fork_keeps : (old new : OwnerValue) (s : ℕ) (its : LabelValue) (result : Result ForkReply ForkWhy) → IsOpenHere old s → ForksJob old new s its result → KeepsScopes old new
fork_keeps old new s its (Ok reply) here it = added_inside old.limits old.actor old.seen new.seen (Happened (Fork old.actor s its)) it.adds refl
fork_keeps old new s its (Err (Rejected task)) here it = forked_then_rejected old new s its task it
fork_keeps old new s its (Err (Before refusal)) here it =
    elim it [
      | inl did ↦ scopes_kept old.limits old.actor old.seen new.seen (looked old.limits old.actor old.seen new.seen (looked_by old new (Happened (Fork old.actor s its)) refusal did.1))
      | inr none ↦ nowhere old new s none.same here
    ]

rejected_there : (old new : OwnerValue) (s : ℕ) (its : LabelValue) (task : ℕ) → IsOpenHere old s → ForksRejected old new s its task → HasRejected (history_seen new) s (its ∷ [])
rejected_there old new s its task here it =
    let mid = it.forked in
    let forked : ForkedAs old mid s its task = record { reply = Thread task; accepted = it.accepted; number = refl } in
    let first = added_inside old.limits old.actor old.seen mid.seen (Happened (Fork old.actor s its)) it.accepted.adds refl in
    let there = here_inside old mid s it.sees first here in
    let second = added_inside mid.limits mid.actor mid.seen new.seen (Happened (Reject task)) it.rejected refl in
    let on = follows_going mid.limits mid.actor s (nests mid.actor) mid.seen new.seen (nests_find mid.actor) second there.of in
    let one = forked_task old mid s its task it.sees forked in
    record {
      task = task;
      of = task_after (history_seen mid) (history_seen new) s task on one.0;
      its = its;
      labelled = label_after (history_seen mid) (history_seen new) task its on one.1;
      one = one_of_one its;
      never = rejected_last mid new task it.rejected;
    }

pub fork_refused : (old new : OwnerValue) (s : ℕ) (its : LabelValue) (refused : ForkWhy) (why : GatewayFault) → IsOpenHere old s → ForksJob old new s its (Err refused) → IsOfCall why → (refusal_of refused ≡ Memory → why ≡ GatewayFault.Memory) → IsTurnedDown (ForkTurnedDown old new s (its ∷ [])) why
fork_refused old new s its (Before refusal) why here it call memory =
    turned_down _ refusal why call memory (λ other. elim it [
      | inl did ↦ inl (its, one_of_one its, refused_or_memory old new (Happened (Fork old.actor s its)) refusal did.0 did.1 other)
      | inr none ↦ absurd (other none.memory)
    ])
fork_refused old new s its (Rejected task) why here it call memory = turned_down _ _ why call memory (λ other. inr (rejected_there old new s its task here it))

-- a label of these is one of all
one_within : (its : LabelValue) (done these rest labels : List LabelValue) → labels ≡ done ++ (these ++ rest) → IsOneOf its these → IsOneOf its labels
one_within its done these rest labels is one = record {
  before = done ++ one.before;
  after = one.after ++ rest;
  is = is ∙ (ap (λ (m : List LabelValue). done ++ (m ++ rest)) one.is ∙ (ap (λ (m : List LabelValue). done ++ m) (append_assoc one.before (its ∷ one.after) rest) ∙ sym (append_assoc done one.before (its ∷ (one.after ++ rest)))));
}

-- what was refused of one job is refused of the jobs
pub fork_turned : (old mid new : OwnerValue) (s : ℕ) (its : LabelValue) (done rest labels : List LabelValue) (why : GatewayFault) → SeesMore old mid → IsBeginning old.seen mid.seen → labels ≡ done ++ its ∷ rest → IsTurnedDown (ForkTurnedDown mid new s (its ∷ [])) why → IsTurnedDown (ForkTurnedDown old new s labels) why
fork_turned old mid new s its done rest labels GatewayFault.Memory same begins is it = it
fork_turned old mid new s its done rest labels GatewayFault.Rejected same begins is it = elim it [
  | inl by ↦ inl (
    by.0,
    one_within by.0 done (its ∷ []) rest labels is by.1,
    subst (λ (a : ℕ). IsRefusedAt old new (Happened (Fork a s by.0))) (same_actor old mid same) (refused_earlier old mid new (Happened (Fork mid.actor s by.0)) begins by.2),
  )
  | inr never ↦ inr (record {
    task = never.task;
    of = never.of;
    its = never.its;
    labelled = never.labelled;
    one = one_within never.its done (its ∷ []) rest labels is never.one;
    never = never.never;
  })
]
fork_turned old mid new s its done rest labels GatewayFault.Strange same begins is it = it
fork_turned old mid new s its done rest labels GatewayFault.Cancelled same begins is it = it
fork_turned old mid new s its done rest labels GatewayFault.Lost same begins is it = it

-- ---- a tick, a join

ticked : (old new : OwnerValue) (now : ℕ) (result : Result ℕ Refusal) → DidOrMemory old new (Asked old.actor (Tick now)) (λ h. now) result → KeepsTasks old new
ticked old new now (Ok reading) it = added old.limits old.actor old.seen new.seen (Asked old.actor (Tick now)) it.adds refl
ticked old new now (Err refusal) it = looked old.limits old.actor old.seen new.seen (looked_by old new (Asked old.actor (Tick now)) refusal it)

pub pulse_keeps : (old new : OwnerValue) (reading : Option ℕ) (result : Result ℕ Refusal) → IsSome reading → Pulsed old new reading result → KeepsTasks old new
pulse_keeps old new None result read it = absurd cc
pulse_keeps old new (Some now) result read it = ticked old new now result it.1

pub pulse_refused : (old new : OwnerValue) (plan : PlanValue) (s : ℕ) (reading : Option ℕ) (refusal : Refusal) (why : GatewayFault) → IsSome reading → Pulsed old new reading (Err refusal) → IsOfCall why → (refusal ≡ Memory → why ≡ GatewayFault.Memory) → IsTurnedDown (IsRejectedIn old new plan s) why
pulse_refused old new plan s None refusal why read it call memory = absurd cc
pulse_refused old new plan s (Some now) refusal why read it call memory =
    turned_down _ refusal why call memory (λ other.
    let x = Asked old.actor (Tick now) in
    inl (record { step = x; of = sym (same_actor old new it.0); refused = refused_or_memory old new x refusal it.0 it.1 other }))

pub join_keeps : (old new : OwnerValue) (s : ℕ) (result : Result Joined Refusal) → Joins old new s result → KeepsTasks old new
join_keeps old new s (Ok joined) it = added old.limits old.actor old.seen new.seen (Happened (Join old.actor s)) it.1.0 refl
join_keeps old new s (Err refusal) it = looked old.limits old.actor old.seen new.seen (looked_by old new (Happened (Join old.actor s)) refusal it.1)

pub join_refused : (old new : OwnerValue) (plan : PlanValue) (s : ℕ) (refusal : Refusal) (why : GatewayFault) → Joins old new s (Err refusal) → IsOfCall why → (refusal ≡ Memory → why ≡ GatewayFault.Memory) → IsTurnedDown (IsRejectedIn old new plan s) why
join_refused old new plan s refusal why it call memory =
    turned_down _ refusal why call memory (λ other.
    let x = Happened (Join old.actor s) in
    inl (record { step = x; of = (sym (same_actor old new it.0), refl); refused = refused_or_memory old new x refusal it.0 it.1 other }))
