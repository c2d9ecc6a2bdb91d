-- A trail and the walk along it: it stays as the links grow, and goes on by the last.
use Rattle.std.proofs.Common.{[], ℕ, ◌++◌, ◌<◌, ◌∙◌, ◌∷◌, ◌≡◌, ◌≤◌, Bool, List, None, Option, Some, ap, append_assoc, arith, cond, false, length, length-append, ltb, refl, reverse, slice_get, suc, sym, true, zero}
use Rattle.scope_journal.specs.{back, if_back, option_and_then, trail_of, trail_to}
use Rattle.scope_journal.proofs.Words.{get_or-append_seam, get_push, le-ltb, lt-ltb, ltb-true, reverse-append, slice_get-get_or}

-- how many places stand up to a place, or to none: a trail has no more
abbrev pub bound : Option ℕ → ℕ
bound None = 0
bound (Some i) = suc i

below_by : (i link : ℕ) (b : Bool) → ltb link i ≡ b → bound (cond b (Some link) None) ≤ i
below_by i link true less = ltb-true link i less
below_by i link false less = omega arith

back_by : (i : ℕ) (o : Option ℕ) → bound (option_and_then (if_back i) o) ≤ i
back_by i None = omega arith
back_by i (Some link) = below_by i link (ltb link i) refl

-- the way back leads to an earlier place
pub back_below : (links : List ℕ) (i : ℕ) → bound (back links i) ≤ i
back_below links i = back_by i (slice_get links i)

-- a trail is the same by any number that is enough
pub trail_enough : (m n : ℕ) (links : List ℕ) (o : Option ℕ) → bound o ≤ m → bound o ≤ n → trail_of m links o ≡ trail_of n links o
trail_enough zero zero links o first second = refl
trail_enough zero (suc n) links None first second = refl
trail_enough zero (suc n) links (Some i) first second = absurd (omega arith)
trail_enough (suc m) zero links None first second = refl
trail_enough (suc m) zero links (Some i) first second = absurd (omega arith)
trail_enough (suc m) (suc n) links None first second = refl
trail_enough (suc m) (suc n) links (Some i) first second =
    let below = back_below links i in
    ap (λ ps. ps ++ i ∷ []) (trail_enough m n links (back links i) (omega (arith, below)) (omega (arith, below)))

-- one link more leaves the trails up to the places before
pub trail_grown : (most : ℕ) (links : List ℕ) (x : ℕ) (o : Option ℕ) → bound o ≤ length links → trail_of most (links ++ x ∷ []) o ≡ trail_of most links o
trail_grown zero links x o within = refl
trail_grown (suc most) links x None within = refl
trail_grown (suc most) links x (Some i) within =
    let below = back_below links i in
    let same : back (links ++ x ∷ []) i ≡ back links i = ap (option_and_then (if_back i)) (get_push links x i (omega arith)) in
    ap (λ ps. ps ++ i ∷ []) (ap (trail_of most (links ++ x ∷ [])) same ∙ trail_grown most links x (back links i) (omega (arith, below)))

last_link : (links : List ℕ) (x : ℕ) → slice_get (links ++ x ∷ []) (length links) ≡ Some x
last_link links x = slice_get-get_or (links ++ x ∷ []) (length links) x (omega (arith, length-append links (x ∷ []))) ∙ ap Some (get_or-append_seam links x [] x)

empty_trail : (most : ℕ) (links : List ℕ) → trail_of most links None ≡ []
empty_trail zero links = refl
empty_trail (suc most) links = refl

-- a trail begins at a place that links to itself
pub trail_begins : (links : List ℕ) → trail_to (links ++ length links ∷ []) (length links) ≡ length links ∷ []
trail_begins links =
    let n = length links in
    let none : back (links ++ n ∷ []) n ≡ None = ap (option_and_then (if_back n)) (last_link links n) ∙ ap (λ b. cond b (Some n) None) (le-ltb n n (omega arith)) in
    ap (λ ps. ps ++ n ∷ []) (ap (trail_of n (links ++ n ∷ [])) none ∙ empty_trail n (links ++ n ∷ []))

-- a trail goes on by the place that links to its last
pub trail_goes_on : (links : List ℕ) (last : ℕ) → last < length links → trail_to (links ++ last ∷ []) (length links) ≡ trail_to links last ++ length links ∷ []
trail_goes_on links last within =
    let n = length links in
    let leads : back (links ++ last ∷ []) n ≡ Some last = ap (option_and_then (if_back n)) (last_link links last) ∙ ap (λ b. cond b (Some last) None) (lt-ltb last n within) in
    ap (λ ps. ps ++ n ∷ []) (ap (trail_of n (links ++ last ∷ [])) leads ∙ (trail_grown n links last (Some last) (omega arith) ∙ trail_enough n (suc last) links (Some last) (omega arith) (omega arith)))

-- what is still to be walked from a place back, the earliest first
abbrev pub ahead : List ℕ → Option ℕ → List ℕ
ahead links o = trail_of (bound o) links o

-- a step of the walk: the place is walked, and what is before it is ahead
pub walked : (links ps : List ℕ) (i : ℕ) → ahead links (back links i) ++ reverse (ps ++ i ∷ []) ≡ ahead links (Some i) ++ reverse ps
walked links ps i =
    let below = back_below links i in
    ap (λ qs. ahead links (back links i) ++ qs) (reverse-append ps (i ∷ []))
    ∙ (sym (append_assoc (ahead links (back links i)) (i ∷ []) (reverse ps))
    ∙ ap (λ qs. (qs ++ i ∷ []) ++ reverse ps) (trail_enough (bound (back links i)) i links (back links i) (omega arith) below))
