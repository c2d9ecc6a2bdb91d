-- Fields taken one after the other.
use Rattle.std.proofs.Common.{ℕ, ◌∷◌, ◌≡◌, List, None, Option, Some, refl}
use Rattle.script_words.specs.{◌>>=◌, first_and_rest, just_one, just_three, just_two}

-- the field, unless others follow
abbrev pub alone : List ℕ → Option (List ℕ × List (List ℕ)) → Option (List ℕ)
alone field None = Some field
alone field (Some others) = None

pub just_one_by_steps : (fs : List (List ℕ)) → just_one fs ≡ (first_and_rest fs >>= (λ p. alone p.0 (first_and_rest p.1)))
unfolding just_one
just_one_by_steps (first ∷ second ∷ others) = refl
just_one_by_steps _ = refl

pub just_two_by_steps : (fs : List (List ℕ)) → just_two fs ≡ (first_and_rest fs >>= (λ p. just_one p.1 >>= (λ second. Some (p.0, second))))
unfolding just_one just_two
just_two_by_steps (first ∷ second ∷ third ∷ others) = refl
just_two_by_steps _ = refl

pub just_three_by_steps : (fs : List (List ℕ)) → just_three fs ≡ (first_and_rest fs >>= (λ p. just_two p.1 >>= (λ others. Some (p.0, others.0, others.1))))
unfolding just_two just_three
just_three_by_steps (first ∷ second ∷ third ∷ fourth ∷ others) = refl
just_three_by_steps _ = refl
