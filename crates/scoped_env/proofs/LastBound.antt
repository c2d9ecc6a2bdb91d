-- The definition of a look-up, in words of the list alone.
use Rattle.std.proofs.Common.{[], ◌++◌, ◌↔◌, ◌∷◌, ◌≡◌, ◌≢◌, Bool, List, None, Option, Some, ap, arith, cond, false, refl, suc, sym, true}
use Rattle.scoped_env.specs.{Binding, HasNone, IfSome, IsLastBound, IsNone, MatchOption, Name, Value, bound_to, option_or, same_name}
use Rattle.scoped_env.proofs.Words.{All-cons, All-nil, not_from_Decides, same_name_tells}

abbrev Told : Name → List Binding → Option Value → Type 0
Told key xs o = MatchOption o (HasNone xs key) (IsLastBound xs key)

abbrev pair_of : Name → Value → Binding
pair_of key value = record { key = key; value = value }

told_step : (key : Name) (b : Binding) (bs : List Binding) (later : Option Value) (test : Bool) → test ≡ same_name b.key key
    → Told key bs later → Told key (b ∷ bs) (option_or later (cond test (Some b.value) None))
told_step key b bs (Some value) test is told = record {
  before = b ∷ told.before;
  after = told.after;
  parts = ap (λ l. b ∷ l) told.parts;
  none_after = told.none_after;
}
told_step key b bs None true is told = record {
  before = [];
  after = bs;
  parts = ap (λ k. pair_of k b.value ∷ bs) ((same_name_tells b.key key).0 (sym is));
  none_after = told;
}
told_step key b bs None false is told =
    All-cons (λ pair. pair.key ≢ key) b bs (λ same. not_from_Decides (same_name b.key key) (same_name_tells b.key key) (sym is) same) told

-- what a look-up tells of the list
pub bound_to_told : (key : Name) (xs : List Binding) → Told key xs (bound_to key xs)
unfolding bound_to
bound_to_told key [] = All-nil (λ pair. pair.key ≢ key)
bound_to_told key (b ∷ bs) = told_step key b bs (bound_to key bs) (same_name b.key key) refl (bound_to_told key bs)

-- a pair that stands in the list is one of its pairs
not_none : (key : Name) (value : Value) (before after : List Binding) → HasNone (before ++ pair_of key value ∷ after) key → ⊥
not_none key value [] after none = none 0 (pair_of key value) (omega arith) refl
not_none key value (b ∷ bs) after none =
    not_none key value bs after (λ k d lt. none (suc k) d (omega (arith, lt)))

told_none : (key : Name) (xs : List Binding) (o : Option Value) → Told key xs o → HasNone xs key → IsNone o
told_none key xs None told none = refl
told_none key xs (Some value) told none = absurd (not_none key value told.before told.after (rw told.parts at none))

none_of : (key : Name) (xs : List Binding) (o : Option Value) → Told key xs o → IsNone o → HasNone xs key
none_of key xs None told is = told
none_of key xs (Some value) told is = cc

last_of : (key : Name) (xs : List Binding) (o : Option Value) → Told key xs o → IfSome o (IsLastBound xs key)
last_of key xs None told = tt
last_of key xs (Some value) told = told

-- the value that a look-up gives is that of the last pair with the key
pub last_from_bound_to : (key : Name) (xs : List Binding) → IfSome (bound_to key xs) (IsLastBound xs key)
last_from_bound_to key xs = last_of key xs (bound_to key xs) (bound_to_told key xs)

-- a look-up gives nothing exactly if no pair has the key
pub none_from_bound_to : (key : Name) (xs : List Binding) → IsNone (bound_to key xs) ↔ HasNone xs key
none_from_bound_to key xs = (
  none_of key xs (bound_to key xs) (bound_to_told key xs),
  told_none key xs (bound_to key xs) (bound_to_told key xs),
)
