-- What a realm is read by: rows, and heights of stacks.
use Rattle.std.specs.Prelude.{ℕ, ◌+◌, Bool, false, length, nat_le, nat_lt}
use Rattle.realm_state.specs.Words.{Counts, History, before, opening, option_map_or, stack}

-- a task is counted at some stage
abbrev pub counts_some : Counts → Bool
counts_some n = nat_lt 0 ((n.never + n.finished) + (n.waiting + n.running))

-- the actor has at most as many own pairs as the opener of the scope had at its opening
abbrev pub opened_as_high : History → ℕ → ℕ → Bool
opened_as_high h a s = option_map_or (λ o. nat_le (length (stack h a)) (length (stack (before h o.place) o.actor))) (opening h s) false
