-- What texts say, text by text, if each says a delay.
use Rattle.std.specs.Prelude.{◌++◌, ◌+◌, ◌<◌, ◌∷◌, ◌≡◌, ◌≤◌}
use Rattle.command_line.specs.{[], ℕ, List, NameAndMillis, None, Option, Some, delay_said, each_said, map, option_and_then, option_map}
use Rattle.command_line.proofs.Words.{◌∙◌, add-one, ap, append-nil, append_assoc, drop, drop-cons, drop_all, get_or, length, refl, sym}
use Rattle.std.specs.Borrow.{Bor}

abbrev Word : Type 0
Word = Bor (List ℕ)

abbrev texts : List Word → List (List ℕ)
texts words = map (λ (word : Word). word.now) words

-- what was found, and what the words behind the place say
abbrev pub behind : List NameAndMillis → List Word → ℕ → Option (List NameAndMillis)
behind found words index = option_map (λ more. found ++ more) (each_said (texts (drop index words)))

module _ (words : List Word) (index : ℕ) (found : List NameAndMillis) where
  pub each_end : length words ≤ index → behind found words index ≡ Some found
  unfolding each_said
  each_end past =
      ap (λ left. option_map (λ more. found ++ more) (each_said (texts left))) (drop_all index words past) ∙ ap (λ delays. Some delays) (append-nil found)

  module _ (default : Word) (within : index < length words) where
    each_step : each_said (texts (drop index words))
        ≡ option_and_then (λ delay. option_map (λ delays. delay ∷ delays) (each_said (texts (drop (index + 1) words)))) (delay_said (get_or words index default).now)
    unfolding each_said
    each_step = rw (add-one, drop-cons words index default within) refl

    pub each_none : delay_said (get_or words index default).now ≡ None → behind found words index ≡ None
    each_none none = rw (each_step, none) refl

    pub each_some : (delay : NameAndMillis) → delay_said (get_or words index default).now ≡ Some delay → behind found words index ≡ behind (found ++ delay ∷ []) words (index + 1)
    each_some delay is = rw (each_step, is) (go (each_said (texts (drop (index + 1) words))))
      where
        go : (o : Option (List NameAndMillis)) → option_map (λ more. found ++ more) (option_map (λ delays. delay ∷ delays) o) ≡ option_map (λ more. (found ++ delay ∷ []) ++ more) o
        go None = refl
        go (Some delays) = ap (λ all. Some all) (sym (append_assoc found (delay ∷ []) delays))
