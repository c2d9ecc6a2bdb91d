-- What a request comes to, from the open of its scope to the end of its close.
use Rattle.std.specs.Prelude.{◌++◌, ◌∷◌, ◌≡◌}
use Rattle.quote_gateway.specs.{[], ℕ, Answer, Answers, EndsScope, Err, Fails, FindsNone, Fork, ForkTurnedDown, GatewayFault, GoesOn, Happened, HasForked, HasRejected, IsBeginning}
use Rattle.quote_gateway.specs.{IsFound, IsRejectedIn, IsScopeFor, IsStepIn, IsTurnedDown, KeepsInnermost, KeepsScopes, List, MakesAnswer, MakesNone, MatchResult, NoneRests, Open, Opens, OpensNone}
use Rattle.quote_gateway.specs.{Options, Outcome, OwnerValue, PlanValue, RestsOn, Result, SeesMore, Some, TaskState, WasCancelled, WasRefused, WasRejected, WasServed, end_step, history_of}
use Rattle.quote_gateway.specs.{history_seen, label, labels_of, listing_by, map, nests, outcome, policy_of, shapes, state, step_check, tasks_of}
use Rattle.quote_gateway.proofs.Words.{◌∙◌, Ok, ap, inl, inr, refl, subst, sym}
use Rattle.quote_gateway.proofs.Ending.{begins_over, follows_over, innermost_over, is_over, legal_before, legal_over, opened_over, opened_since}
use Rattle.quote_gateway.proofs.Following.{label_after, labels_after, listing_joined, outcome_after, rejected_after, task_after, tasks_joined}
use Rattle.quote_gateway.proofs.{Going.begins_agreeing, Going.begins_going, Going.begins_on, Going.for_first, Going.same_actor, Going.sees_on, Turned.refused_earlier}

-- ---- what is found after the join

found_in : (t : OwnerValue) (plan : PlanValue) (s : ℕ) (tasks : List ℕ) (states : List TaskState) (o : Outcome) → HasForked t s (labels_of plan) tasks → outcome (history_seen t) s ≡ Some o → states ≡ listing_by (state (history_seen t)) tasks
    → (Holds : List TaskState → Outcome → Type 0) → Holds states o → IsFound (history_seen t) plan s Holds
found_in t plan s tasks states o forked joined read Holds holds =
    let h = history_seen t in
    record {
      asked = ap (map (label h)) forked.are ∙ forked.labelled;
      came = o;
      joined = joined;
      holds = subst (λ (l : List TaskState). Holds l o) (read ∙ ap (listing_by (state h)) (sym forked.are)) holds;
    }

-- the answer is made of the join, or there is none for a cause that it gave
pub by_join : (old t : OwnerValue) (plan : PlanValue) (Expired : Type 0) (s : ℕ) (tasks : List ℕ) (states : List TaskState) (o : Outcome) (result : Result Answer GatewayFault) → HasForked t s (labels_of plan) tasks → outcome (history_seen t) s ≡ Some o → states ≡ listing_by (state (history_seen t)) tasks
    → MatchResult result (λ a. Answers plan.mode plan.offers states o a) (MakesNone plan Expired states o) → MatchResult result (λ a. IsFound (history_seen t) plan s (MakesAnswer plan a)) (FindsNone old t plan s Expired)
by_join old t plan Expired s tasks states o (Ok a) forked joined read rests = found_in t plan s tasks states o forked joined read (MakesAnswer plan a) rests
by_join old t plan Expired s tasks states o (Err GatewayFault.Lost) forked joined read none = found_in t plan s tasks states o forked joined read (NoneRests plan) none
by_join old t plan Expired s tasks states o (Err GatewayFault.Cancelled) forked joined read none = found_in t plan s tasks states o forked joined read (λ ts p. WasCancelled Expired p) none
by_join old t plan Expired s tasks states o (Err GatewayFault.Memory) forked joined read none = tt
by_join old t plan Expired s tasks states o (Err GatewayFault.Rejected) forked joined read none = absurd none
by_join old t plan Expired s tasks states o (Err GatewayFault.Strange) forked joined read none = absurd none

-- ---- why nothing is found

-- a call was refused
pub turned_none : (old new : OwnerValue) (plan : PlanValue) (s : ℕ) (Expired : Type 0) (why : GatewayFault) → IsTurnedDown (IsRejectedIn old new plan s) why → FindsNone old new plan s Expired why
turned_none old new plan s Expired GatewayFault.Memory it = it
turned_none old new plan s Expired GatewayFault.Rejected it = it
turned_none old new plan s Expired GatewayFault.Lost it = absurd it
turned_none old new plan s Expired GatewayFault.Cancelled it = absurd it
turned_none old new plan s Expired GatewayFault.Strange it = absurd it

-- a fork was refused of one of the plan's jobs
fork_none_by : (old new : OwnerValue) (plan : PlanValue) (s : ℕ) → SeesMore old new → ForkTurnedDown old new s (labels_of plan) → IsRejectedIn old new plan s
fork_none_by old new plan s same it = elim it [
  | inl by ↦ inl (record { step = Happened (Fork old.actor s by.0); of = (sym (same_actor old new same), refl, by.1); refused = by.2 })
  | inr never ↦ inr never
]

pub fork_none : (old new : OwnerValue) (plan : PlanValue) (s : ℕ) (Expired : Type 0) (why : GatewayFault) → SeesMore old new → IsTurnedDown (ForkTurnedDown old new s (labels_of plan)) why → FindsNone old new plan s Expired why
fork_none old new plan s Expired GatewayFault.Memory same it = it
fork_none old new plan s Expired GatewayFault.Rejected same it = fork_none_by old new plan s same it
fork_none old new plan s Expired GatewayFault.Lost same it = absurd it
fork_none old new plan s Expired GatewayFault.Cancelled same it = absurd it
fork_none old new plan s Expired GatewayFault.Strange same it = absurd it

-- what was found of a later beginning is found of an earlier one; the time is said to be out in other words
pub none_earlier : (old mid new : OwnerValue) (plan : PlanValue) (s : ℕ) (Expired Past : Type 0) (why : GatewayFault) → IsBeginning old.seen mid.seen → (Past → Expired) → FindsNone mid new plan s Expired why → FindsNone old new plan s Past why
none_earlier old mid new plan s Expired Past GatewayFault.Lost begins back none = none
none_earlier old mid new plan s Expired Past GatewayFault.Cancelled begins back none = record {
  asked = none.asked;
  came = none.came;
  joined = none.joined;
  holds = elim none.holds [ inl is ↦ inl is | inr is ↦ inr (is.0, λ past. is.1 (back past)) ];
}
none_earlier old mid new plan s Expired Past GatewayFault.Memory begins back none = none
none_earlier old mid new plan s Expired Past GatewayFault.Rejected begins back none =
    elim none [ inl by ↦ inl (record { step = by.step; of = by.of; refused = refused_earlier old mid new by.step begins by.refused }) | inr never ↦ inr never ]
none_earlier old mid new plan s Expired Past GatewayFault.Strange begins back none = none

pub found_earlier : (old mid new : OwnerValue) (plan : PlanValue) (s : ℕ) (Expired Past : Type 0) (result : Result Answer GatewayFault) → IsBeginning old.seen mid.seen → (Past → Expired)
    → MatchResult result (λ a. IsFound (history_seen new) plan s (MakesAnswer plan a)) (FindsNone mid new plan s Expired) → MatchResult result (λ a. IsFound (history_seen new) plan s (MakesAnswer plan a)) (FindsNone old new plan s Past)
found_earlier old mid new plan s Expired Past (Ok a) begins back it = it
found_earlier old mid new plan s Expired Past (Err why) begins back it = none_earlier old mid new plan s Expired Past why begins back it

-- ---- the whole request

-- the scope could not be opened
pub not_opened : (old new : OwnerValue) (plan : PlanValue) (options : Options) (Expired : Type 0) (why : GatewayFault) → OpensNone old new (policy_of plan.mode) options why → Fails old new plan options Expired why
not_opened old new plan options Expired GatewayFault.Memory it = it.cause
not_opened old new plan options Expired GatewayFault.Rejected it = inl it.cause
not_opened old new plan options Expired GatewayFault.Lost it = absurd it.cause
not_opened old new plan options Expired GatewayFault.Cancelled it = absurd it.cause
not_opened old new plan options Expired GatewayFault.Strange it = absurd it.cause

module _ (old one four new : OwnerValue) (plan : PlanValue) (options : Options) (s : ℕ) (first : SeesMore old one) (opens : Opens old one (policy_of plan.mode) options s) (second : SeesMore one four) (keeps : KeepsScopes one four) (third : SeesMore four new) (ends : EndsScope four new s) where
  four_is : SeesMore old four
  four_is = sees_on old one four first second

  pub new_is : SeesMore old new
  new_is = sees_on old four new four_is third

  opens_so : Opens old (record old { seen = one.seen }) (policy_of plan.mode) options s
  opens_so = subst (λ (t : OwnerValue). Opens old t (policy_of plan.mode) options s) first opens

  keeps_so : GoesOn old.limits (nests old.actor) one.seen four.seen
  keeps_so = for_first old one nests one.seen four.seen first keeps

  ends_so : EndsScope (record old { seen = four.seen }) (record old { seen = new.seen }) s
  ends_so = subst (λ (t : OwnerValue). EndsScope t (record old { seen = new.seen }) s) four_is (subst (λ (t : OwnerValue). EndsScope four t s) new_is ends)

  pub begins_new : IsBeginning old.seen new.seen
  begins_new = begins_over old one.seen four.seen new.seen (policy_of plan.mode) options s opens_so keeps_so ends_so

  pub left_new : KeepsInnermost old new
  left_new = subst (λ (t : OwnerValue). KeepsInnermost old t) (sym new_is) (innermost_over old one.seen four.seen new.seen (policy_of plan.mode) options s opens_so keeps_so ends_so)

  scope_for : IsScopeFor old new plan options s
  scope_for = subst (λ (t : OwnerValue). IsScopeFor old t plan options s) (sym new_is) (record {
    later = opened_since old one.seen four.seen new.seen (policy_of plan.mode) options s opens_so keeps_so ends_so;
    opened = opened_over old one.seen four.seen new.seen (policy_of plan.mode) options s opens_so keeps_so ends_so;
    over = is_over old one.seen four.seen new.seen (policy_of plan.mode) options s opens_so keeps_so ends_so;
  })

  found_over : (Holds : List TaskState → Outcome → Type 0) → IsFound (history_seen four) plan s Holds → IsFound (history_seen new) plan s Holds
  found_over Holds it =
      let g = history_seen four in
      let h = history_seen new in
      let on = follows_over old one.seen four.seen new.seen (policy_of plan.mode) options s opens_so keeps_so ends_so in
      let legal_g = legal_before old one.seen four.seen new.seen (policy_of plan.mode) options s opens_so keeps_so ends_so in
      let legal_h = legal_over old one.seen four.seen new.seen (policy_of plan.mode) options s opens_so keeps_so ends_so in
      record {
        asked = ap (map (label h)) (tasks_joined old.limits g h s it.came legal_g legal_h on it.joined) ∙ labels_after g h (tasks_of g s) (labels_of plan) on it.asked;
        came = it.came;
        joined = outcome_after g h s it.came on it.joined;
        holds = subst (λ (l : List TaskState). Holds l it.came) (sym (listing_joined old.limits g h s it.came legal_g legal_h on it.joined)) it.holds;
      }

  served_so : (Holds : List TaskState → Outcome → Type 0) → IsFound (history_seen four) plan s Holds → WasServed old new plan options Holds
  served_so Holds it = record { scope = s; opened = scope_for; found = found_over Holds it }

  rejected_over : HasRejected (history_seen four) s (labels_of plan) → HasRejected (history_seen new) s (labels_of plan)
  rejected_over it =
      let g = history_seen four in
      let h = history_seen new in
      let on = follows_over old one.seen four.seen new.seen (policy_of plan.mode) options s opens_so keeps_so ends_so in
      record {
        task = it.task;
        of = task_after g h s it.task on it.of;
        its = it.its;
        labelled = label_after g h it.task it.its on it.labelled;
        one = it.one;
        never = rejected_after g h it.task on it.never;
      }

  begins_one : IsBeginning old.seen one.seen
  begins_one =
      let there = opens.adds.there in
      begins_on old.seen there one.seen (begins_agreeing old.actor old.seen there opens.adds.agrees) (record { later = Happened (Open old.actor (policy_of plan.mode) options) ∷ []; is = opens.adds.is })

  begins_last : IsBeginning four.seen new.seen
  begins_last =
      begins_on four.seen ends.before new.seen (begins_going four.limits (shapes four.actor) four.seen ends.before ends.goes) (record { later = map (end_step four.actor) (ends.nested ++ s ∷ []); is = ends.ends.are })

  refused_over : WasRefused one four plan s → WasRefused old new plan s
  refused_over it = record {
    step = it.step;
    of = subst (λ (a : ℕ). IsStepIn plan a s it.step) (sym (same_actor four new third)) it.of;
    refused = record {
      seen = it.refused.seen;
      since = begins_on old.seen one.seen it.refused.seen begins_one it.refused.since;
      until = begins_on it.refused.seen four.seen new.seen it.refused.until begins_last;
      refusal = it.refused.refusal;
      other = it.refused.other;
      by = subst (λ (t : OwnerValue). step_check t.limits t.actor it.step (history_of it.refused.seen) ≡ Err it.refused.refusal) (sym third) it.refused.by;
    };
  }

  turned_over : IsRejectedIn one four plan s → WasRejected old new plan options
  turned_over it = record {
    scope = s;
    opened = scope_for;
    rejected = elim it [ inl by ↦ inl (refused_over by) | inr never ↦ inr (rejected_over never) ];
  }

  -- what was found in the scope is what the request comes to
  pub served : (Expired : Type 0) (result : Result Answer GatewayFault) → MatchResult result (λ a. IsFound (history_seen four) plan s (MakesAnswer plan a)) (FindsNone one four plan s Expired) → MatchResult result (RestsOn old new plan options) (Fails old new plan options Expired)
  served Expired (Ok a) it = served_so (MakesAnswer plan a) it
  served Expired (Err GatewayFault.Lost) it = served_so (NoneRests plan) it
  served Expired (Err GatewayFault.Cancelled) it = served_so (λ ts o. WasCancelled Expired o) it
  served Expired (Err GatewayFault.Memory) it = it
  served Expired (Err GatewayFault.Rejected) it = inr (turned_over it)
  served Expired (Err GatewayFault.Strange) it = it
