-- The delays of a quote: `--after NAME=MS`, as often as it stands.
use Rattle.std.specs.Prelude.{◌&&◌, ◌∷◌, if◌then◌else◌}
use Rattle.command_line.specs.Words.{[], ℕ, Bool, List, None, Option, Some, bytes_eq, list_any, not, option_and_then, option_map, true}
use Rattle.command_line.specs.Settings.{NameAndMillis, delay_said}

-- what the texts say, in order, if each says a delay
unfoldable pub each_said : List (List ℕ) → Option (List NameAndMillis)
each_said [] = Some []
each_said (text ∷ texts) = option_and_then (λ delay. option_map (λ delays. delay ∷ delays) (each_said texts)) (delay_said text)

-- one of the delays is of the offer
abbrev pub is_delayed : List NameAndMillis → (offer : List ℕ) → Bool
is_delayed delays offer = list_any (λ delay. bytes_eq delay.name offer) delays

-- no two are of one offer
unfoldable pub are_apart : List NameAndMillis → Bool
are_apart [] = true
are_apart (delay ∷ delays) = not (is_delayed delays delay.name) && are_apart delays

-- the delays that the texts say: each says one, and no two are of one offer
abbrev pub delays_said : List (List ℕ) → Option (List NameAndMillis)
delays_said texts = option_and_then (λ delays. if are_apart delays then Some delays else None) (each_said texts)
