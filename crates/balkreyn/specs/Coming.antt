-- What became of what was asked for.
use Rattle.std.specs.Prelude.{◌++◌, ◌∷◌, ◌≡◌, ◌⊎◌, All, Err, IsErrAnd, List, None, Ok, Option, Result, Some, map}
use Rattle.scope_rules.specs.declared.types.refusals.Refusal.TheVariants.{Unavailable}
use Rattle.balkreyn.specs.Words.{Came, Mark, Refusal}
use Rattle.balkreyn.specs.declared.act.came.Came.TheVariants as came

-- the value, if it came
abbrev pub came_value : {V E : Type 0} → Came V E → Option V
came_value (came.Value value) = Some value
came_value (came.Failed error) = None
came_value (came.Cut mark) = None

-- it as a result
abbrev pub IsResultOf : {V E : Type 0} → (Refusal → E → Type 0) → Came V E → Result V E → Type 0
IsResultOf makes (came.Value value) result = result ≡ Ok value
IsResultOf makes (came.Failed error) result = result ≡ Err error
IsResultOf makes (came.Cut mark) result = IsErrAnd result (makes Unavailable)

-- what came of a job, if its slot answered so, and a look showed this mark: its value, its own error, or the mark, if the
-- slot has no answer; and if it was refused otherwise, or no mark was shown, what is made of the refusal
abbrev pub IsCame : {V E : Type 0} → (Refusal → E → Type 0) → Option Mark → Result (Result V E) Refusal → Came V E → Type 0
IsCame makes shown answer (came.Value value) = answer ≡ Ok (Ok value)
IsCame makes shown answer (came.Failed error) = (answer ≡ Ok (Err error)) ⊎ ((refusal : Refusal) × (answer ≡ Err refusal) × makes refusal error × (refusal ≡ Unavailable → shown ≡ None))
IsCame makes shown answer (came.Cut mark) = (answer ≡ Err Unavailable) × (shown ≡ Some mark)

-- this may have come of a job, if a look showed this mark: a value that it may answer, any error, or that mark
abbrev pub MayCome : {V E : Type 0} → (V → Type 0) → Option Mark → Came V E → Type 0
MayCome may shown (came.Value value) = may value
MayCome may shown (came.Failed error) = Unit {0}
MayCome may shown (came.Cut mark) = shown ≡ Some mark

-- it did not fail
abbrev pub HasNotFailed : {V E : Type 0} → Came V E → Type 0
HasNotFailed (came.Value value) = Unit {0}
HasNotFailed (came.Failed error) = ⊥
HasNotFailed (came.Cut mark) = Unit {0}

-- it has this mark behind values alone
abbrev pub IsFirstCut : {V E : Type 0} → List (Came V E) → Mark → Type 0
IsFirstCut {V} {E} found mark = (values : List V) × (after : List (Came V E)) × (found ≡ map came.Value values ++ came.Cut mark ∷ after)

-- what these come to together: all values in order, if each has one; or else the first error; or else the first mark
abbrev pub AllCame : {C V E : Type 0} → (C → List V) → List (Came V E) → Came C E → Type 0
AllCame items found (came.Value values) = found ≡ map came.Value (items values)
AllCame {V = V} {E = E} items found (came.Failed error) = (before : List (Came V E)) × (after : List (Came V E)) × (found ≡ before ++ came.Failed error ∷ after) × All HasNotFailed before
AllCame items found (came.Cut mark) = All HasNotFailed found × IsFirstCut found mark
