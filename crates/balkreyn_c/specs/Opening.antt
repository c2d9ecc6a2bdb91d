-- What the numbers of an open say.
use Rattle.std.specs.Prelude.{ℕ, ℤ, ◌%◌, ◌/◌, ◌==◌, None, Option, Some, if◌then◌else◌, nat_lt, negsuc, option_map, pos}
use Rattle.balkreyn_c.specs.Words.{All, Any, AwaitAll, AwaitOk, Event, Fail, FailuresAtLeast, MoveOn, Options, Policy, SuccessesAtLeast, SumAtLeast, Until, option_and_then}
use Rattle.scope_rules.specs.declared.types.events.Event.TheVariants as event

-- a number of 32 bits
abbrev pub small : ℤ → Option ℕ
small (pos n) = if nat_lt n 4294967296 then Some n else None
small (negsuc n) = None

-- the joiner of the number
abbrev pub policy_of : ℕ → ℤ → Option Policy
policy_of joiner bound =
    if joiner == 0 then Some AwaitOk
    else (if joiner == 1 then Some All
    else (if joiner == 2 then Some Any
    else (if joiner == 3 then Some AwaitAll
    else (if joiner == 4 then option_map (λ n. Until (FailuresAtLeast n)) (small bound)
    else (if joiner == 5 then option_map (λ n. Until (SuccessesAtLeast n)) (small bound)
    else (if joiner == 6 then Some (Until (SumAtLeast bound))
    else None))))))

-- the flags: 1 that there is a deadline, 2 to move on, 4 a shield
abbrev pub options_of : ℕ → ℕ → Option Options
options_of flags deadline =
    if nat_lt flags 8 then Some (record {
      deadline = if flags % 2 == 1 then Some deadline else None;
      shield = flags / 4 % 2 == 1;
      expiry = if flags / 2 % 2 == 1 then MoveOn else Fail;
    }) else None

-- the event of the open
abbrev pub opening_of : ℕ → ℕ → ℤ → ℕ → ℕ → Option Event
opening_of actor joiner bound flags deadline = option_and_then (λ policy. option_map (event.Open actor policy) (options_of flags deadline)) (policy_of joiner bound)
