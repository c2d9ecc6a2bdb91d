-- How the search for one pair of an actor goes on by an event. No public clause speaks of it: the rule
-- is `stack`, and these two are what its length and one place of it become.
use Rattle.std.specs.Prelude.{ℕ, ◌+◌, ◌-◌, ◌==◌, None, Option, Some, if◌then◌else◌, nat_le}
use Rattle.scope_rules.specs.Words.{Bind, Binding, Event, Unbind}

-- how many own pairs the actor has after the event, if it had n
abbrev pub height_after : ℕ → ℕ → Event → ℕ
height_after actor n (Bind by pair) = if by == actor then n + 1 else n
height_after actor n (Unbind by) = if by == actor then n - 1 else n
height_after actor n _ = n

-- the actor's own pair at place j after the event, if it had n pairs
abbrev pub pair_after : ℕ → ℕ → ℕ → Option Binding → Event → Option Binding
pair_after actor j n pair (Bind by new) = if by == actor then (if n == j then Some new else pair) else pair
pair_after actor j n pair (Unbind by) = if by == actor then (if nat_le (n - 1) j then None else pair) else pair
pair_after actor j n pair _ = pair
