-- What is wrong with the words after an offer's name, by how many they are.
use Rattle.std.specs.Prelude.{◌∷◌, ◌≡◌}
use Rattle.quote_plan.specs.{[], ℕ, List, NoForm, None, Option, PlanWhy, Some, just_one, just_two, why_of_end, why_of_failing, why_of_price}
use Rattle.quote_plan.proofs.Words.{refl}

abbrev pub why_of_two : Option (List ℕ × List ℕ) → Option PlanWhy
why_of_two None = Some NoForm
why_of_two (Some words) = why_of_failing words.0 words.1

abbrev pub why_of_one : Option (List ℕ) → Option PlanWhy → Option PlanWhy
why_of_one None other = other
why_of_one (Some word) other = why_of_price word

pub end_by_counts : (end : List (List ℕ)) → why_of_end end ≡ why_of_one (just_one end) (why_of_two (just_two end))
unfolding why_of_end just_one just_two
end_by_counts [] = refl
end_by_counts (word ∷ []) = refl
end_by_counts (word ∷ fault ∷ []) = refl
end_by_counts (word ∷ fault ∷ next ∷ others) = refl
