-- How many times come before a moment, counted one after the other.
use Rattle.std.specs.Prelude.{◌+◌, ◌<◌, ◌∷◌, ◌≡◌, ◌≤◌}
use Rattle.script_jobs.specs.{[], ℕ, List, count_before, false, length, nat_le, true}
use Rattle.script_jobs.proofs.Words.{◌∙◌, ap, arith, nat_tests, refl}

-- the test of two numbers, of which one is known by another name
pub is_later : (moment t u : ℕ) → u ≡ t → moment ≤ u → nat_le moment t ≡ true
is_later moment t u same later = grind (arith, nat_tests)

pub is_before : (moment t u : ℕ) → u ≡ t → u < moment → nat_le moment t ≡ false
is_before moment t u same before = grind (arith, nat_tests)

stops : (moment t : ℕ) (others : List ℕ) → nat_le moment t ≡ true → count_before moment (t ∷ others) ≡ 0
unfolding count_before
stops moment t others later = rw later refl

goes_on : (moment t : ℕ) (others : List ℕ) → nat_le moment t ≡ false → count_before moment (t ∷ others) ≡ 1 + count_before moment others
unfolding count_before
goes_on moment t others before = rw before refl

-- the first isn't before the moment
pub counted_to : (rest others : List ℕ) (moment t count all : ℕ) → rest ≡ t ∷ others → nat_le moment t ≡ true → count + count_before moment rest ≡ all → count ≡ all
counted_to rest others moment t count all is later so =
    let none : count_before moment rest ≡ 0 = ap (count_before moment) is ∙ stops moment t others later in
    omega (arith, none, so)

-- it is
pub counted_on : (rest others : List ℕ) (moment t count all : ℕ) → rest ≡ t ∷ others → nat_le moment t ≡ false → count + count_before moment rest ≡ all → count + 1 + count_before moment others ≡ all
counted_on rest others moment t count all is before so =
    let more : count_before moment rest ≡ 1 + count_before moment others = ap (count_before moment) is ∙ goes_on moment t others before in
    omega (arith, more, so)

-- none is left
pub counted_all : (rest : List ℕ) (moment count all : ℕ) → length rest ≡ 0 → count + count_before moment rest ≡ all → count ≡ all
unfolding count_before
counted_all [] moment count all none so = omega (arith, so)
counted_all (t ∷ rest) moment count all none so = absurd (omega (arith, none))
