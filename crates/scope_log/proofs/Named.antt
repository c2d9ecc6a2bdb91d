-- Of events that name no number that was discarded, neither do the openings and the forkings.
use Rattle.std.proofs.Common.{[], ℕ, ◌∷◌, ◌≡◌, List, None, Option, Some, ap, arith, option_map, refl, slice_get, suc, take, zero}
use Rattle.scope_rules.proofs.Accepted.{or_left, or_right}
use Rattle.scope_log.specs.{BeginClose, EndValue, Event, Finish, Fork, Forking, NamesNone, Open, Opening, Retirable, Words.scopes, Words.tasks, forking, is_let_go, opening, option_and_then, option_map_or, retired}
use Rattle.scope_log.proofs.Words.{forking_event, opening_event, scope_number}
use Rattle.scope_log.proofs.Past.{IsScope, IsTask, greater}

get_of_take : {A : Type 0} (xs : List A) (n i : ℕ) (x : A) → slice_get (take n xs) i ≡ Some x → slice_get xs i ≡ Some x
get_of_take xs zero i x at = absurd cc
get_of_take [] (suc n) i x at = absurd cc
get_of_take (y ∷ xs) (suc n) zero x at = at
get_of_take (y ∷ xs) (suc n) (suc i) x at = get_of_take xs n i x at

-- nor do the first of them
pub first_names : (r : Retirable) (es : List Event) (n : ℕ) → NamesNone r es → NamesNone r (take n es)
first_names r es n none i e at = none i e (get_of_take es n i e at)

module _ (r : Retirable) (es : List Event) (none : NamesNone r es) where
  pub opener_named : (s : ℕ) (o : Opening) → opening (retired r es) s ≡ Some o → IsTask r o.actor
  opener_named s o is = none o.place (Open o.actor o.policy o.options) (opening_event (retired r es) s o is)

  pub forker_named : (k : ℕ) (f : Forking) → forking (retired r es) k ≡ Some f → IsTask r f.actor
  forker_named k f is = or_left (is_let_go (tasks r.past) f.actor) (is_let_go (scopes r.past) f.scope) (none f.place (Fork f.actor f.scope f.label) (forking_event (retired r es) k f is))

  pub home_named : (k : ℕ) (f : Forking) → forking (retired r es) k ≡ Some f → IsScope r f.scope
  home_named k f is = or_right (is_let_go (tasks r.past) f.actor) (is_let_go (scopes r.past) f.scope) (none f.place (Fork f.actor f.scope f.label) (forking_event (retired r es) k f is))

-- what is opened after a retirement was not let go
pub opened_new : (r : Retirable) (es : List Event) (s : ℕ) (o : Opening) → opening (retired r es) s ≡ Some o → IsScope r s
opened_new r es s o is = let it = scope_number (retired r es) s o is in greater (scopes r.past) s (omega (arith, it.2))

-- ---- what is moved, under a query of it

pub then_moved : {A B C : Type 0} (moved : B → A) (f : A → Option C) (g : B → Option C) (o : Option B) → ((x : B) → o ≡ Some x → f (moved x) ≡ g x) → option_and_then f (option_map moved o) ≡ option_and_then g o
then_moved moved f g None same = refl
then_moved moved f g (Some x) same = same x refl

pub map_moved : {A B C : Type 0} (moved : B → A) (f : A → C) (g : B → C) (o : Option B) → ((x : B) → o ≡ Some x → f (moved x) ≡ g x) → option_map f (option_map moved o) ≡ option_map g o
map_moved moved f g None same = refl
map_moved moved f g (Some x) same = ap Some (same x refl)

pub or_moved : {A B C : Type 0} (moved : B → A) (f : A → C) (g : B → C) (c : C) (o : Option B) → ((x : B) → o ≡ Some x → f (moved x) ≡ g x) → option_map_or f (option_map moved o) c ≡ option_map_or g o c
or_moved moved f g c None same = refl
or_moved moved f g c (Some x) same = same x refl

-- ---- numbers that an event names

module _ (r : Retirable) (es : List Event) (none : NamesNone r es) (i : ℕ) where
  pub begun_named : (a s : ℕ) → slice_get es i ≡ Some (BeginClose a s) → IsScope r s
  begun_named a s at = or_right (is_let_go (tasks r.past) a) (is_let_go (scopes r.past) s) (none i (BeginClose a s) at)

  pub finished_named : (k : ℕ) (end : EndValue) → slice_get es i ≡ Some (Finish k end) → IsTask r k
  finished_named k end at = none i (Finish k end) at
