-- A realm's list of steps: the history that it leaves, and which lists are legal.
use Rattle.std.specs.Prelude.{[], ℕ, ◌∷◌, ◌≡◌, List, Ok}
use Rattle.share_ledger.specs.Words.{Accepts, Ask, Asked, Cancel, Event, Happened, History, Limits, Move, RealmStep, Retirement, Tick, base_of, followed, retire_check, the_start}
use Rattle.share_ledger.specs.declared.steps.Ask.TheVariants as ask

-- the history of a realm that begins
abbrev pub fresh : History
fresh = record { base = the_start; events = [] }

-- the event of what is asked for
abbrev pub asked : Ask → Event
asked (ask.Cancel scope) = Cancel scope
asked (ask.Move scope deadline) = Move scope deadline
asked (ask.Tick now) = Tick now

-- the step by which the event is recorded with the actor's token: a cancel, a move and a tick say who asked
abbrev pub step_by : ℕ → Event → RealmStep
step_by a (Cancel scope) = Asked a (ask.Cancel scope)
step_by a (Move scope deadline) = Asked a (ask.Move scope deadline)
step_by a (Tick now) = Asked a (ask.Tick now)
step_by a e = Happened e

-- what one step leaves: an event follows, and a retirement leaves the base alone
abbrev pub advance : History → RealmStep → History
advance h (Happened e) = followed h e
advance h (Asked a q) = followed h (asked q)
advance h Retirement = record { base = base_of h; events = [] }

-- what these steps leave, from the first on
abbrev pub advanced : History → List RealmStep → History
advanced h [] = h
advanced h (x ∷ xs) = advanced (advance h x) xs

-- the history of a list of steps
unfoldable pub history_of : List RealmStep → History
history_of xs = advanced fresh xs

-- the step may come next after h: a retirement is main's
abbrev pub Passes : Limits → History → RealmStep → Type 0
Passes L h (Happened e) = Accepts L h e
Passes L h (Asked a q) = Accepts L h (asked q)
Passes L h Retirement = retire_check h 0 ≡ Ok tt

-- each step was accepted on what the steps before it left
abbrev pub LegalFrom : Limits → History → List RealmStep → Type 0
LegalFrom L h [] = Unit {0}
LegalFrom L h (x ∷ xs) = Passes L h x × LegalFrom L (advance h x) xs

-- a legal list of steps, from the realm's beginning on
unfoldable pub IsLegal : Limits → List RealmStep → Type 0
IsLegal L xs = LegalFrom L fresh xs
