-- A name among the names of offers.
use Rattle.std.specs.Prelude.{◌&&◌, ◌++◌, ◌==◌, ◌∷◌, ◌≡◌}
use Rattle.quote_plan.specs.{[], Bool, List, Name, Named, Offer, both_true, bytes_decides, false, insert_entry, is_named, is_some, lookup, nat_eq, pointwise, same_name}
use Rattle.quote_plan.specs.{take, text_of, true}
use Rattle.quote_plan.proofs.Words.{◌∙◌, ap, eq-eqb, eqb-true, refl, same_text, sym}

named_at : (name : Name) (test : Name → Bool) (e : Named) (es : List Named) (found : Bool) → test e.0 ≡ found → same_name name e.0 ≡ found → is_some (lookup test es) ≡ is_named name es → is_some (lookup test (e ∷ es)) ≡ is_named name (e ∷ es)
unfolding is_named
named_at name test e es true at same below = rw at (rw same refl)
named_at name test e es false at same below = rw at (rw same below)

pub found_is_named : (name : Name) (test : Name → Bool) → ((k : Name) → test k ≡ same_name name k) → (es : List Named) → is_some (lookup test es) ≡ is_named name es
unfolding is_named
found_is_named name test same [] = refl
found_is_named name test same (e ∷ es) = named_at name test e es (test e.0) refl (sym (same e.0)) (found_is_named name test same es)

-- tests that are true together are one
same_answer : (a b : Bool) → (a ≡ true → b ≡ true) → (b ≡ true → a ≡ true) → a ≡ b
same_answer true b there back = sym (there refl)
same_answer false true there back = back refl
same_answer false false there back = refl

-- the test of all that a name is made of
abbrev pub same_fields : Name → Name → Bool
same_fields a b = (a.len == b.len) && pointwise nat_eq a.bytes b.bytes

fields_of : (x y : Bool) → (x && y) ≡ true → (x ≡ true) × (y ≡ true)
fields_of true true both = (refl, refl)
fields_of true false both = absurd cc
fields_of false y both = absurd cc

pub fields_tell : (a b : Name) → same_fields a b ≡ same_name a b
fields_tell a b =
    same_answer (same_fields a b) (same_name a b)
    (λ yes.
    let parts = fields_of (a.len == b.len) (pointwise nat_eq a.bytes b.bytes) yes in
    let len : a.len ≡ b.len = eqb-true a.len b.len parts.0 in
    let bytes : a.bytes ≡ b.bytes = (bytes_decides a.bytes b.bytes).0 parts.1 in
    (bytes_decides (text_of a) (text_of b)).1 (ap (λ n. take n a.bytes) len ∙ ap (take b.len) bytes))
    (λ yes.
    let same : a ≡ b = same_text a b ((bytes_decides (text_of a) (text_of b)).0 yes) in
    both_true (eq-eqb a.len b.len (ap (λ (n : Name). n.len) same)) ((bytes_decides a.bytes b.bytes).1 (ap (λ (n : Name). n.bytes) same)))

unnamed_rest : (name : Name) (e : Named) (es : List Named) (found : Bool) → same_name name e.0 ≡ found → is_named name (e ∷ es) ≡ false → (found ≡ false) × (is_named name es ≡ false)
unfolding is_named
unnamed_rest name e es true at none = absurd (let found : is_named name (e ∷ es) ≡ true = rw at refl in cc)
unnamed_rest name e es false at none = (refl, let rest : is_named name (e ∷ es) ≡ is_named name es = rw at refl in sym rest ∙ none)

-- an offer of a new name goes last
pub new_goes_last : (name : Name) (offer : Offer) (same : Name → Name → Bool) → ((k : Name) → same name k ≡ same_name name k) → (es : List Named) → is_named name es ≡ false → insert_entry same es name offer ≡ es ++ (name, offer) ∷ []
new_goes_last name offer same tells [] none = refl
new_goes_last name offer same tells (e ∷ es) none =
    let rest = unnamed_rest name e es (same_name name e.0) refl none in
    let other : same name e.0 ≡ false = tells e.0 ∙ rest.0 in
    rw other (ap (λ (l : List Named). e ∷ l) (new_goes_last name offer same tells es rest.1))
