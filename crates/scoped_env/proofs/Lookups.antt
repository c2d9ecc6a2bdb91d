-- What a key is bound to in joined lists, and how a search from the end finds it.
use Rattle.std.proofs.Common.{[], ◌↔◌, ◌∙◌, ◌∷◌, ◌≡◌, Bool, IsTrue, List, None, Option, Some, ap, cond, false, refl, reverse, true}
use Rattle.scoped_env.specs.{Binding, Name, Value, bound_to, find, option_map, option_or, same_name}
use Rattle.scoped_env.proofs.Words.{find-append, reverse-append, same_from_decides, same_name_tells}

abbrev pub value_of : Binding → Value
value_of b = b.value

abbrev pub has_key : Name → Binding → Bool
has_key key b = same_name b.key key

map_or : (a b : Option Binding) → option_map value_of (option_or a b) ≡ option_or (option_map value_of a) (option_map value_of b)
map_or None b = refl
map_or (Some x) b = refl

one : (test : Bool) (b : Binding) → option_map value_of (cond test (Some b) None) ≡ cond test (Some b.value) None
one true b = refl
one false b = refl

pub bound_to-find : (key : Name) (xs : List Binding) → option_map value_of (find (has_key key) (reverse xs)) ≡ bound_to key xs
unfolding bound_to
bound_to-find key [] = refl
bound_to-find key (b ∷ bs) =
    ap (λ l. option_map value_of (find (has_key key) l)) (reverse-append (b ∷ []) bs)
    ∙ ap (option_map value_of) (find-append (has_key key) (reverse bs) (b ∷ []))
    ∙ map_or (find (has_key key) (reverse bs)) (find (has_key key) (b ∷ []))
    ∙ ap (λ o. option_or o (option_map value_of (find (has_key key) (b ∷ [])))) (bound_to-find key bs)
    ∙ ap (option_or (bound_to key bs)) (one (has_key key b) b)

-- what a comparison of two keys has told
pub told_same : (told : Bool) (a b : Name) → (IsTrue told ↔ (a ≡ b)) → told ≡ same_name a b
told_same told a b says = same_from_decides told (same_name a b) says (same_name_tells a b)
