-- Why a plan that was read has no answer.
use Rattle.std.specs.Prelude.{◌++◌, ◌+◌, ◌<◌, ◌||◌, ◌≡◌, ◌≤◌, ◌⊎◌}
use Rattle.scopectl.specs.{ℕ, AllowedText, AllowedTextBy, Answer, Bool, CameFrom, Consumes, Delay, Err, GatewayFault, IfOk, IsAtEnd, IsBadLine, IsOfPlan, List}
use Rattle.scopectl.specs.{MayEndPlan, NamesLine, None, Ok, OnErr, Option, PartText, PlanFault, PlanValue, ProgramFault, ReadPlan, Result, Some, answer_text, drop, false, fault_of_plan}
use Rattle.scopectl.specs.{fault_of_service, has_late, is_some, is_timed, length, list_any, nat_lt, not, true}
use Rattle.scopectl.proofs.Words.{Consumes-trans, add-one, ap, append-nil, arith, drop-cons, drop_all, get_or_from_slice_get, inl, inr, refl, slice_get, slice_get-get_or, slice_get_within, subst, sym}
use Rattle.scopectl.proofs.Words.{take}

-- by a deadline the plan allows the line, or it says some of the prices
pub allowed_by : (plan : PlanValue) (deadline : ℕ) (reading : Option ℕ) (a : Answer) → AllowedTextBy plan deadline reading (answer_text a) → AllowedText plan (answer_text a) ⊎ PartText plan (answer_text a)
allowed_by plan deadline reading a allowed = elim allowed [ inl whole ↦ inl whole | inr part ↦ inr part.1 ]

-- such a fault at the plan that was read is one of the plan
pub of_plan : (deadline : Option ℕ) (after : List Delay) (plan : PlanValue) (unread unread_new : Option (List ℕ)) (fault : ProgramFault) (ByReader Sound : Type 0) → Sound → ReadPlan unread unread_new plan → MayEndPlan (is_timed deadline after) (not (has_late after plan)) fault → CameFrom fault ByReader ⊥ Sound (IsOfPlan deadline after unread unread_new)
of_plan deadline after plan unread unread_new ProgramFault.Memory ByReader Sound sound read it = sound
of_plan deadline after plan unread unread_new ProgramFault.Time ByReader Sound sound read it = record { plan = plan; read = read; may = it }
of_plan deadline after plan unread unread_new (ProgramFault.PlanLine line why) ByReader Sound sound read it = absurd it
of_plan deadline after plan unread unread_new ProgramFault.Read ByReader Sound sound read it = absurd it
of_plan deadline after plan unread unread_new ProgramFault.Write ByReader Sound sound read it = absurd it
of_plan deadline after plan unread unread_new ProgramFault.Notes ByReader Sound sound read it = absurd it
of_plan deadline after plan unread unread_new ProgramFault.Strange ByReader Sound sound read it = absurd it
of_plan deadline after plan unread unread_new ProgramFault.Rejected ByReader Sound sound read it = record { plan = plan; read = read; may = it }
of_plan deadline after plan unread unread_new ProgramFault.Cancelled ByReader Sound sound read it = record { plan = plan; read = read; may = it }
of_plan deadline after plan unread unread_new ProgramFault.NoOffer ByReader Sound sound read it = record { plan = plan; read = read; may = it }
of_plan deadline after plan unread unread_new ProgramFault.Lost ByReader Sound sound read it = record { plan = plan; read = read; may = it }

-- ---- the offers from a place on

module _ {X : Type 0} (p : X → Bool) (xs : List X) (place : ℕ) where
  pub none_left : place ≡ length xs → false ≡ list_any p (drop place xs)
  none_left is =
      let past : length xs ≤ place = omega (arith, is) in
      sym (ap (list_any p) (drop_all place xs past))

  pub one_left : (x : X) → Some x ≡ slice_get xs place → list_any p (drop place xs) ≡ (p x || list_any p (drop (place + 1) xs))
  one_left x is =
      let within = slice_get_within xs place x (sym is) in
      rw (add-one, drop-cons xs place x within, get_or_from_slice_get xs place x x (sym is)) refl

  pub past_none : (d : X) → place < length xs → None ≡ slice_get xs place → ⊥
  past_none d within none = let some = slice_get-get_or xs place d within in cc

-- an offer that the plan lacks, and a time that the system does not give
pub lacks_offer : (timed : Bool) (after : List Delay) (plan : PlanValue) (has : Bool) → has ≡ has_late after plan → not has ≡ true → MayEndPlan timed (not (has_late after plan)) ProgramFault.NoOffer
lacks_offer timed after plan has is lacks = subst (λ (b : Bool). not b ≡ true) is lacks

or_true : (a b : Bool) → b ≡ true → (a || b) ≡ true
or_true true b is = refl
or_true false b is = is

pub lacks_time : (deadline : Option ℕ) (after : List Delay) (lacks : Bool) (fault : ProgramFault) → (fault ≡ ProgramFault.Memory) ⊎ ((fault ≡ ProgramFault.Time) × (nat_lt 0 (length after) ≡ true)) → MayEndPlan (is_timed deadline after) lacks fault
lacks_time deadline after lacks fault (inl memory) = subst (MayEndPlan (is_timed deadline after) lacks) (sym memory) tt
lacks_time deadline after lacks fault (inr it) = subst (MayEndPlan (is_timed deadline after) lacks) (sym it.0) (or_true (is_some deadline) (nat_lt 0 (length after)) it.1)

-- a bad line is one too
pub of_line : (deadline : Option ℕ) (after : List Delay) (unread unread_new : Option (List ℕ)) (fault : ProgramFault) (ByReader Sound : Type 0) → CameFrom fault ByReader ⊥ Sound (IsBadLine unread unread_new) → CameFrom fault ByReader ⊥ Sound (IsOfPlan deadline after unread unread_new)
of_line deadline after unread unread_new ProgramFault.Memory ByReader Sound it = it
of_line deadline after unread unread_new ProgramFault.Time ByReader Sound it = absurd it
of_line deadline after unread unread_new (ProgramFault.PlanLine line why) ByReader Sound it = it
of_line deadline after unread unread_new ProgramFault.Read ByReader Sound it = it
of_line deadline after unread unread_new ProgramFault.Write ByReader Sound it = absurd it
of_line deadline after unread unread_new ProgramFault.Notes ByReader Sound it = absurd it
of_line deadline after unread unread_new ProgramFault.Strange ByReader Sound it = absurd it
of_line deadline after unread unread_new ProgramFault.Rejected ByReader Sound it = absurd it
of_line deadline after unread unread_new ProgramFault.Cancelled ByReader Sound it = absurd it
of_line deadline after unread unread_new ProgramFault.NoOffer ByReader Sound it = absurd it
of_line deadline after unread unread_new ProgramFault.Lost ByReader Sound it = absurd it

pub both_ok : {T E : Type 0} (r : Result T E) (P Q : T → Type 0) → IfOk r P → IfOk r Q → IfOk r (λ x. P x × Q x)
both_ok (Ok x) P Q p q = (p, q)
both_ok (Err e) P Q p q = tt

pub on_err : {T E P : Type 0} (r : Result T E) → P → OnErr r P
on_err (Ok x) it = tt
on_err (Err e) it = it

-- ---- a plan that is read piece by piece

-- no more was read
pub at_end : (a b c : Option (List ℕ)) (bytes piece : List ℕ) (n : ℕ) → n ≡ 0 → Consumes a b bytes → Consumes b c (take n piece) → Consumes a c bytes
at_end a b c bytes piece n none before last =
    let nothing : bytes ++ take n piece ≡ bytes = rw none (append-nil bytes) in
    subst (Consumes a c) nothing (Consumes-trans a b c bytes (take n piece) before last)

module _ (unread unread_new : Option (List ℕ)) (bytes : List ℕ) (read : Consumes unread unread_new bytes) (ByReader Sound : Type 0) (sound : Sound) where
  -- the fault comes, whatever comes after the bytes
  pub bad_early : (fault : PlanFault) → ((more : List ℕ) → NamesLine (bytes ++ more) fault) → CameFrom (fault_of_plan fault) ByReader ⊥ Sound (IsBadLine unread unread_new)
  bad_early PlanFault.Memory names = sound
  bad_early (PlanFault.Word line why) names = record { bytes = bytes; read = read; bad = inr names }

  -- the fault is of all bytes
  pub bad_at_end : (fault : PlanFault) → IsAtEnd unread_new → NamesLine bytes fault → CameFrom (fault_of_plan fault) ByReader ⊥ Sound (IsBadLine unread unread_new)
  bad_at_end PlanFault.Memory end names = sound
  bad_at_end (PlanFault.Word line why) end names = record { bytes = bytes; read = read; bad = inl (end, names) }

-- ---- a plan that was served in a realm which could be looked at

pub seen_ok : {T E F : Type 0} (r : Result T E) (found : Result T F) (P : T → Type 0) → IfOk r (λ a. found ≡ Ok a) → IfOk found P → IfOk r P
seen_ok {T} {E} {F} (Ok a) found P is it = subst (λ (f : Result T F). IfOk f P) is it
seen_ok (Err e) found P is it = tt

-- a cause of the service's that is not `strange` is one that may come at a plan
pub may_end_unless : (timed lacks : Bool) (why : GatewayFault) → (why ≡ GatewayFault.Strange → ⊥) → MayEndPlan timed lacks (fault_of_service why)
may_end_unless timed lacks GatewayFault.Memory other = tt
may_end_unless timed lacks GatewayFault.Strange other = absurd (other refl)
may_end_unless timed lacks GatewayFault.Rejected other = tt
may_end_unless timed lacks GatewayFault.Cancelled other = tt
may_end_unless timed lacks GatewayFault.Lost other = tt
