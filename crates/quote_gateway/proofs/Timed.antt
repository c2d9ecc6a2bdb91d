-- What a join by a clock leaves in a request.
use Rattle.std.specs.Prelude.{◌≡◌, ◌≤◌}
use Rattle.quote_gateway.specs.{ℕ, Asked, Bool, ClockBack, Err, Event, FindsNone, GatewayFault, HasForked, HasJoined, History, IsLegal, IsOfCall, IsOpenHere, IsRejectedIn, IsSome, IsStepIn}
use Rattle.quote_gateway.specs.{IsTold, IsTurnedDown, Joined, Joins, JoinsBy, JoinsThen, KeepsTasks, LabelValue, Limits, List, MatchResult, Memory, None, Option, OwnerValue, PlanValue, Pulsed, Refusal}
use Rattle.quote_gateway.specs.{Result, STEP_LOAD, SeesMore, Some, StaysUnclosed, Stopped, StopsClosing, Tick, Waited, WaitsToClose, began, check_of, checks, false, history_of, history_seen}
use Rattle.quote_gateway.specs.{looked as has_looked, moment, over_load, read, row_check, shapes, step_check, then_check, ticked, true}
use Rattle.quote_gateway.proofs.Words.{◌∙◌, Ok, ap, arith, inl, inr, ltb-true, nat_lt, refl, subst, sym, waited_sees}
use Rattle.quote_gateway.proofs.Following.{label_after, rejected_after, task_after}
use Rattle.quote_gateway.proofs.Going.{added, begins_going, begins_on, goes_nowhere, looked, same_actor, same_limits, tokens_on}
use Rattle.quote_gateway.proofs.Turned.{join_keeps, join_refused, looked_by, refused_or_memory, turned_down}
use Rattle.quote_gateway.proofs.{Asking.forked_still, Closing.begins_keeps, Closing.refused_keeps, Reading.follows_still, Reading.joined_here, Requested.none_earlier, Requested.turned_none}

module _ {K : Type 0} (reads : K → K → ℕ → Type 0) (old : OwnerValue) (start : K) (lawful : IsLegal old.limits old.seen) where
  -- while it waits, its token's actor opens, closes and forks nothing
  pub waited_keeps : (there : OwnerValue) (clock : K) → Waited reads old start there clock → KeepsTasks old there
  waited_keeps there clock began = goes_nowhere old.limits (shapes old.actor) old.seen lawful
  waited_keeps there clock (has_looked {there = mid} so_far look) =
      tokens_on old mid there shapes (waited_sees mid clock so_far) (waited_keeps mid clock so_far) (looked mid.limits mid.actor mid.seen there.seen look.1)
  waited_keeps there clock (read so_far reading) = waited_keeps there _ so_far
  waited_keeps there clock (ticked {there = mid} {now = now} so_far reading tick) =
      tokens_on old mid there shapes (waited_sees mid _ so_far) (waited_keeps mid _ so_far) (added mid.limits mid.actor mid.seen there.seen (Asked mid.actor (Tick now)) tick.adds refl)

  then_keeps : (new : OwnerValue) (last : K) (s : ℕ) (result : Result Joined Refusal) → JoinsThen reads Joins old new start last s result → KeepsTasks old new
  then_keeps new last s result it =
      tokens_on old it.there new shapes (waited_sees it.there last it.waited) (waited_keeps it.there last it.waited) (join_keeps it.there new s result it.joins)

  pub stop_keeps : (new : OwnerValue) (last : K) (refusal : Refusal) → Stopped reads old new start last refusal → KeepsTasks old new
  stop_keeps new last refusal it =
      tokens_on old it.there new shapes (waited_sees it.there it.clock it.waited) (waited_keeps it.there it.clock it.waited)
      (looked it.there.limits it.there.actor it.there.seen new.seen (looked_by it.there new (Asked it.there.actor (Tick it.now)) refusal it.refused.refused))

  pub joined_keeps : (new : OwnerValue) (last : K) (s : ℕ) (result : Result Joined Refusal) → JoinsBy reads Joins old new start last s result → KeepsTasks old new
  joined_keeps new last s (Ok joined) it = then_keeps new last s (Ok joined) it
  joined_keeps new last s (Err refusal) it = elim it [ inl then ↦ then_keeps new last s (Err refusal) then | inr stop ↦ stop_keeps new last refusal stop ]

  -- if it is refused, nothing is found for that cause
  pub joined_none : (new : OwnerValue) (last : K) (plan : PlanValue) (s : ℕ) (Expired : Type 0) (refusal : Refusal) (why : GatewayFault) → JoinsBy reads Joins old new start last s (Err refusal) → IsOfCall why → (refusal ≡ Memory → why ≡ GatewayFault.Memory) → FindsNone old new plan s Expired why
  joined_none new last plan s Expired refusal why it call memory = elim it [
    | inl then ↦
        let begins = begins_going old.limits (shapes old.actor) old.seen then.there.seen (waited_keeps then.there last then.waited) in
        none_earlier old then.there new plan s Expired Expired why begins (λ past. past)
        (turned_none then.there new plan s Expired why (join_refused then.there new plan s refusal why then.joins call memory))
    | inr stop ↦
        let begins = begins_going old.limits (shapes old.actor) old.seen stop.there.seen (waited_keeps stop.there stop.clock stop.waited) in
        let x = Asked stop.there.actor (Tick stop.now) in
        let tick = stop.refused in
        none_earlier old stop.there new plan s Expired Expired why begins (λ past. past)
        (turned_none stop.there new plan s Expired why
        (turned_down _ refusal why call memory (λ other. inl (record { step = x; of = sym (same_actor stop.there new tick.same); refused = refused_or_memory stop.there new x refusal tick.same tick.refused other }))))
  ]

-- if it joined, the scope is joined
pub joined_by : {K : Type 0} (reads : K → K → ℕ → Type 0) (old new : OwnerValue) (start last : K) (s : ℕ) (ls : List LabelValue) (ks : List ℕ) (joined : Joined) → JoinsBy reads Joins old new start last s (Ok joined) → HasForked old s ls ks → HasJoined new s ks
joined_by reads old new start last s ls ks joined it was =
    let there = forked_still old it.there s ls ks (waited_sees it.there last it.waited) (waited_keeps reads old start was.here.legal it.there last it.waited) was in
    joined_here it.there new s ls ks joined it.joins there

-- ---- what a wait for the end of the jobs leaves

module _ {K : Type 0} (reads : K → K → ℕ → Type 0) (old new : OwnerValue) (start last : K) (s : ℕ) where
  legal_begun : (begun : OwnerValue) → SeesMore old begun → KeepsTasks old begun → IsLegal begun.limits begun.seen
  legal_begun begun same keeps = subst (λ (L : Limits). IsLegal L begun.seen) (sym (same_limits old begun same)) keeps.legal

  waits_keeps : WaitsToClose reads old new start last s → KeepsTasks old new
  waits_keeps it =
      let keeps = begins_keeps old it.begun s it.how it.begins in
      tokens_on old it.begun new shapes it.same keeps (waited_keeps reads it.begun start (legal_begun it.begun it.same keeps) new last it.waited)

  stops_keeps : (refusal : Refusal) → StopsClosing reads old new start last s refusal → KeepsTasks old new
  stops_keeps refusal it =
      let keeps = begins_keeps old it.begun s it.how it.begins in
      tokens_on old it.begun new shapes it.same keeps (stop_keeps reads it.begun start (legal_begun it.begun it.same keeps) new last refusal it.stopped)

  pub ended_keeps : (result : Result (Unit {0}) Refusal) → MatchResult result (λ _. WaitsToClose reads old new start last s) (StaysUnclosed reads old new start last s) → KeepsTasks old new
  ended_keeps (Ok done) it = waits_keeps it
  ended_keeps (Err refusal) it = elim it [ inl by ↦ refused_keeps old new s refusal by.0 | inr stop ↦ stops_keeps refusal stop ]

-- what a call was refused for before is what it was refused for
module _ (old mid new : OwnerValue) (plan : PlanValue) (s : ℕ) (same : SeesMore mid new) (keeps : KeepsTasks mid new) (here : IsOpenHere mid s) where
  rejected_later : IsRejectedIn old mid plan s → IsRejectedIn old new plan s
  rejected_later it = elim it [
    | inl by ↦ inl (record {
      step = by.step;
      of = subst (λ (a : ℕ). IsStepIn plan a s by.step) (sym (same_actor mid new same)) by.of;
      refused = record {
        seen = by.refused.seen;
        since = by.refused.since;
        until = begins_on by.refused.seen mid.seen new.seen by.refused.until (begins_going mid.limits (shapes mid.actor) mid.seen new.seen keeps);
        refusal = by.refused.refusal;
        other = by.refused.other;
        by = subst (λ (t : OwnerValue). step_check t.limits t.actor by.step (history_of by.refused.seen) ≡ Err by.refused.refusal) (sym same) by.refused.by;
      };
    })
    | inr never ↦
        let on = follows_still mid new s keeps here in
        inr (record {
          task = never.task;
          of = task_after (history_seen mid) (history_seen new) s never.task on never.of;
          its = never.its;
          labelled = label_after (history_seen mid) (history_seen new) never.task never.its on never.labelled;
          one = never.one;
          never = rejected_after (history_seen mid) (history_seen new) never.task on never.never;
        })
  ]

  pub none_later : (Expired Past : Type 0) (why : GatewayFault) → IsOfCall why → FindsNone old mid plan s Expired why → FindsNone old new plan s Past why
  none_later Expired Past GatewayFault.Memory call it = it
  none_later Expired Past GatewayFault.Rejected call it = rejected_later it
  none_later Expired Past GatewayFault.Lost call it = absurd call
  none_later Expired Past GatewayFault.Cancelled call it = absurd call
  none_later Expired Past GatewayFault.Strange call it = absurd call

-- only a call is turned down
pub turned_call : (Why : Type 0) (why : GatewayFault) → IsTurnedDown Why why → IsOfCall why
turned_call Why GatewayFault.Memory it = it
turned_call Why GatewayFault.Rejected it = tt
turned_call Why GatewayFault.Lost it = it
turned_call Why GatewayFault.Cancelled it = it
turned_call Why GatewayFault.Strange it = it

-- ---- what is told

-- a tick is refused as back only if the moment has come further
back : (L : Limits) (h : History) (now : ℕ) → check_of L h (Event.Tick now) ≡ Err ClockBack → now ≤ moment h
unfolding row_check checks then_check
back L h now is = by (nat_lt now (moment h)) refl (over_load L h STEP_LOAD) refl
  where
    by : (b : Bool) → nat_lt now (moment h) ≡ b → (c : Bool) → over_load L h STEP_LOAD ≡ c → now ≤ moment h
    by true before c over = omega (arith, ltb-true now (moment h) before)
    by false after true over = let said = rw (after, over) at is in absurd cc
    by false after false over = let said = rw (after, over) at is in absurd cc

pub back_told : (old new : OwnerValue) (reading : Option ℕ) (refusal : Refusal) → refusal ≡ ClockBack → IsSome reading → Pulsed old new reading (Err refusal) → IsTold (history_seen new) reading
back_told old new None refusal is there it = absurd cc
back_told old new (Some now) refusal is there it = elim it.1 [
  | inl by ↦ back old.limits (history_seen new) now (by.by ∙ ap Err is)
  | inr none ↦ absurd (apart (sym none.memory ∙ is))
]
  where
    apart : Memory ≡ ClockBack → ⊥
    apart same = cc
