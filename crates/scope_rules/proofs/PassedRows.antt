-- What the passed row of each accepted event says, in the words of scopes and tasks.
use Rattle.std.proofs.Common.{[], ℕ, ◌==◌, ◌∙◌, ◌∷◌, ◌≡◌, ◌⊎◌, Bool, None, Ok, Option, Some, ap, cond, false, inl, inr, is_some, not, refl, subst, true}
use Rattle.scope_rules.specs.{Accepts, BeginClose, EndClose, Event, Finish, Fork, Forking, History.History, Limits, Opening, Reject, Start, Tasks.settled, WrongStage, actor_check, checks, closed, closing}
use Rattle.scope_rules.specs.{declared.types.events.Event.TheVariants.Open, ends, finishes, forking_of, innermost, is_innermost, is_running, is_waiting, known_actor, opening, opening_of, option_map_or, owner_check, owns}
use Rattle.scope_rules.specs.{refuse_if, rejects, row_check, stage, starts, task_check}
use Rattle.scope_rules.proofs.Words.{eqb-true}
use Rattle.scope_rules.proofs.Accepted.{checks_at, not_not, not_refused}

-- the actor is main, or a task that runs
abbrev pub IsActor : History → ℕ → Type 0
IsActor h a = (a ≡ 0) ⊎ (is_running (stage h a) ≡ true)

-- the actor opened scope s
pub record IsOwner (h : History) (a s : ℕ) : Type 0 where
  pub opened : Opening
  pub is : opening h s ≡ Some opened
  pub by : opened.actor ≡ a

-- what a fork in scope s wants
pub record ForkRow (h : History) (a s : ℕ) : Type 0 where
  pub acts : IsActor h a
  pub owner : IsOwner h a s
  pub live : closing h s ≡ false

-- what the beginning of the close of scope s wants
pub record BeginRow (h : History) (a s : ℕ) : Type 0 where
  pub acts : IsActor h a
  pub owner : IsOwner h a s
  pub live : closing h s ≡ false

-- what the end of the close of scope s wants
pub record EndRow (h : History) (a s : ℕ) : Type 0 where
  pub acts : IsActor h a
  pub owner : IsOwner h a s
  pub begun : closing h s ≡ true
  pub unclosed : closed h s ≡ false
  pub innermost : innermost h a ≡ Some s
  pub settled : settled h s ≡ true

-- what the end of task k wants
pub record FinishRow (h : History) (k : ℕ) : Type 0 where
  pub runs : is_running (stage h k) ≡ true
  pub no_scope : innermost h k ≡ None

actor_by : (h : History) (a : ℕ) (b : Bool) → (a == 0) ≡ b → cond b (Ok tt) (checks (task_check h a ∷ refuse_if (not (is_running (stage h a))) WrongStage ∷ [])) ≡ Ok tt → IsActor h a
actor_by h a true main passed = inl (eqb-true a 0 main)
actor_by h a false main passed = inr (not_not _ (not_refused _ _ (checks_at _ 1 _ passed refl)))

-- an actor that passed is main or runs
pub actor_passed : (h : History) (a : ℕ) → actor_check h a ≡ Ok tt → IsActor h a
unfolding known_actor
actor_passed h a passed = actor_by h a (a == 0) refl passed

owner_by : (h : History) (a s : ℕ) (o : Option Opening) → opening h s ≡ o → option_map_or (λ (x : Opening). x.actor == a) o false ≡ true → IsOwner h a s
owner_by h a s None is found = absurd cc
owner_by h a s (Some o) is found = record { opened = o; is = is; by = eqb-true o.actor a found }

-- an owner that passed opened the scope
pub owner_passed : (h : History) (a s : ℕ) → owner_check h a s ≡ Ok tt → IsOwner h a s
unfolding owns
owner_passed h a s passed = owner_by h a s (opening h s) refl (not_not _ (not_refused _ _ passed))

innermost_by : (h : History) (a s : ℕ) (o : Option ℕ) → innermost h a ≡ o → option_map_or (λ t. t == s) o false ≡ true → innermost h a ≡ Some s
innermost_by h a s None is found = absurd cc
innermost_by h a s (Some t) is found = is ∙ ap Some (eqb-true t s found)

-- what passed for the actor's innermost scope is it
pub innermost_passed : (h : History) (a s : ℕ) → is_innermost h a s ≡ true → innermost h a ≡ Some s
unfolding is_innermost
innermost_passed h a s found = innermost_by h a s (innermost h a) refl found

none_by : (o : Option ℕ) → is_some o ≡ false → o ≡ None
none_by None is = refl
none_by (Some n) is = absurd cc

-- an accepted open is by an actor
pub open_passed : (L : Limits) (h : History) (a : ℕ) (policy options : _) → Accepts L h (Open a policy options) → IsActor h a
unfolding row_check
open_passed L h a policy options ok = actor_passed h a (checks_at _ 0 _ ok.passed refl)

-- an accepted fork is by the owner of a scope that isn't closing
pub fork_passed : (L : Limits) (h : History) (a s : ℕ) (label : _) → Accepts L h (Fork a s label) → ForkRow h a s
unfolding row_check
fork_passed L h a s label ok = record {
  acts = actor_passed h a (checks_at _ 0 _ ok.passed refl);
  owner = owner_passed h a s (checks_at _ 2 _ ok.passed refl);
  live = not_refused _ _ (checks_at _ 3 _ ok.passed refl);
}

-- what is accepted to start waits
pub start_passed : (L : Limits) (h : History) (k : ℕ) → Accepts L h (Start k) → is_waiting (stage h k) ≡ true
unfolding row_check
start_passed L h k ok = not_not _ (not_refused _ _ (checks_at _ 1 _ ok.passed refl))

-- what is accepted to be rejected waits
pub reject_passed : (L : Limits) (h : History) (k : ℕ) → Accepts L h (Reject k) → is_waiting (stage h k) ≡ true
unfolding row_check
reject_passed L h k ok = not_not _ (not_refused _ _ (checks_at _ 1 _ ok.passed refl))

-- what is accepted to finish runs, and has no unclosed scope
pub finish_passed : (L : Limits) (h : History) (k : ℕ) (end : _) → Accepts L h (Finish k end) → FinishRow h k
unfolding row_check
finish_passed L h k end ok = record {
  runs = not_not _ (not_refused _ _ (checks_at _ 1 _ ok.passed refl));
  no_scope = none_by (innermost h k) (not_refused _ _ (checks_at _ 2 _ ok.passed refl));
}

-- an accepted beginning of a close is by the owner, of a scope that isn't closing
pub begin_close_passed : (L : Limits) (h : History) (a s : ℕ) → Accepts L h (BeginClose a s) → BeginRow h a s
unfolding row_check
begin_close_passed L h a s ok = record {
  acts = actor_passed h a (checks_at _ 0 _ ok.passed refl);
  owner = owner_passed h a s (checks_at _ 2 _ ok.passed refl);
  live = ok.recorded;
}

-- an accepted end of a close is by the owner, of its innermost scope, which is closing and settled
pub end_close_passed : (L : Limits) (h : History) (a s : ℕ) → Accepts L h (EndClose a s) → EndRow h a s
unfolding row_check
end_close_passed L h a s ok = record {
  acts = actor_passed h a (checks_at _ 0 _ ok.passed refl);
  owner = owner_passed h a s (checks_at _ 2 _ ok.passed refl);
  begun = not_not _ (not_refused _ _ (checks_at _ 3 _ ok.passed refl));
  unclosed = not_refused _ _ (checks_at _ 4 _ ok.passed refl);
  innermost = innermost_passed h a s (not_not _ (not_refused _ _ (checks_at _ 5 _ ok.passed refl)));
  settled = not_not _ (not_refused _ _ (checks_at _ 6 _ ok.passed refl));
}

-- the opener of an accepted event acts, and doesn't finish by it
pub opener_passed : (L : Limits) (h : History) (i : ℕ) (e : Event) (o : Opening) → opening_of i e ≡ Some o → Accepts L h e → IsActor h o.actor × (finishes o.actor e ≡ false)
opener_passed L h i (Open actor policy options) o is ok =
    let same : record { place = i; actor = actor; policy = policy; options = options } ≡ o = cc in
    (subst (λ (x : Opening). IsActor h x.actor) same (open_passed L h actor policy options ok), refl)
opener_passed L h i _ o is ok = absurd cc

-- the forker of an accepted event owns the scope, which isn't closing
pub forker_passed : (L : Limits) (h : History) (i : ℕ) (e : Event) (f : Forking) → forking_of i e ≡ Some f → Accepts L h e → ForkRow h f.actor f.scope × ((s : ℕ) → ends s e ≡ false)
forker_passed L h i (Fork actor scope label) f is ok =
    let same : record { place = i; actor = actor; scope = scope; label = label } ≡ f = cc in
    (subst (λ (x : Forking). ForkRow h x.actor x.scope) same (fork_passed L h actor scope label ok), λ s. refl)
forker_passed L h i _ f is ok = absurd cc

-- the event that closes scope s is an accepted end of its close
pub ender_passed : (L : Limits) (h : History) (e : Event) (s : ℕ) → ends s e ≡ true → Accepts L h e → (a : ℕ) × (e ≡ EndClose a s) × EndRow h a s
ender_passed L h (EndClose actor scope) s it ok =
    let same : scope ≡ s = eqb-true scope s it in
    (actor, ap (EndClose actor) same, subst (λ (n : ℕ). EndRow h actor n) same (end_close_passed L h actor scope ok))
ender_passed L h _ s it ok = absurd cc

-- what the event ends was running, without an unclosed scope
pub finisher_passed : (L : Limits) (h : History) (e : Event) (k : ℕ) → finishes k e ≡ true → Accepts L h e → FinishRow h k
finisher_passed L h (Finish task end) k it ok = subst (λ (n : ℕ). FinishRow h n) (eqb-true task k it) (finish_passed L h task end ok)
finisher_passed L h _ k it ok = absurd cc

-- what the event rejects was waiting
pub rejecter_passed : (L : Limits) (h : History) (e : Event) (k : ℕ) → rejects k e ≡ true → Accepts L h e → is_waiting (stage h k) ≡ true
rejecter_passed L h (Reject task) k it ok = subst (λ (n : ℕ). is_waiting (stage h n) ≡ true) (eqb-true task k it) (reject_passed L h task ok)
rejecter_passed L h _ k it ok = absurd cc

-- what the event starts was waiting
pub starter_passed : (L : Limits) (h : History) (e : Event) (k : ℕ) → starts k e ≡ true → Accepts L h e → is_waiting (stage h k) ≡ true
starter_passed L h (Start task) k it ok = subst (λ (n : ℕ). is_waiting (stage h n) ≡ true) (eqb-true task k it) (start_passed L h task ok)
starter_passed L h _ k it ok = absurd cc
