-- What one line of a plan says.
use Rattle.std.specs.Prelude.{if◌then◌else◌, ◌||◌, ◌∷◌}
use Rattle.quote_plan.specs.Words.{[], ℕ, ℤ, ◌>>=◌, Bool, Fault, LINE_LIMIT, List, Mode, None, Offer, Option, PRICE_LIMIT, PlanLine, Some, begins_comment, bytes_eq, codes, fields}
use Rattle.quote_plan.specs.Words.{just_one, just_three, just_two, length, moment_said, name_said, nat_le, nat_lt, option_or, pos, text_of}

-- the mode that the word is
unfoldable pub mode_said : List ℕ → Option Mode
mode_said word =
    if bytes_eq word (codes "best") then Some Mode.Best
    else if bytes_eq word (codes "all") then Some Mode.All
    else if bytes_eq word (codes "first") then Some Mode.First
    else None

-- `mode MODE`, without its first word
unfoldable pub mode_line_said : List (List ℕ) → Option PlanLine
mode_line_said args = do
  word ← just_one args
  mode ← mode_said word
  Some (PlanLine.Mode mode)

-- a price: a number written as a moment is, at most `PRICE_LIMIT`
unfoldable pub price_said : List ℕ → Option ℤ
price_said word = do
  amount ← moment_said word
  if nat_le amount PRICE_LIMIT then Some (pos amount) else None

-- a fault that the runtime itself makes
abbrev pub is_runtime_text : Fault → Bool
is_runtime_text fault = bytes_eq (text_of fault.0) (codes "cancelled") || (bytes_eq (text_of fault.0) (codes "left-open") || bytes_eq (text_of fault.0) (codes "memory"))

abbrev pub unless_runtime : Fault → Option Fault
unless_runtime fault = if is_runtime_text fault then None else Some fault

-- a fault: a name, but none of a fault that the runtime itself makes
unfoldable pub fault_said : List ℕ → Option Fault
fault_said word = do
  name ← name_said word
  unless_runtime (record { 0 = name })

-- `offer NAME PRICE`, without its first word
unfoldable pub priced_said : List (List ℕ) → Option PlanLine
priced_said args = do
  words ← just_two args
  name ← name_said words.0
  price ← price_said words.1
  Some (PlanLine.Offer name (Offer.Price price))

-- `offer NAME fail FAULT`, without its first word
unfoldable pub failing_said : List (List ℕ) → Option PlanLine
failing_said args = do
  words ← just_three args
  name ← name_said words.0
  fault ← fault_said words.2
  if bytes_eq words.1 (codes "fail") then Some (PlanLine.Offer name (Offer.Fails fault)) else None

-- either of the two
unfoldable pub offer_said : List (List ℕ) → Option PlanLine
offer_said args = option_or (priced_said args) (failing_said args)

-- the mode or the offer that these words are
unfoldable pub words_said : List ℕ → List (List ℕ) → Option PlanLine
words_said word args =
    if bytes_eq word (codes "mode") then mode_line_said args
    else if bytes_eq word (codes "offer") then offer_said args
    else None

-- what is in no form is a bad word
abbrev pub line_of : Option PlanLine → PlanLine
line_of None = PlanLine.BadWord
line_of (Some said) = said

-- no field, or a first one that begins with `#`: nothing is said
unfoldable pub fields_said : List (List ℕ) → PlanLine
fields_said [] = PlanLine.Silent
fields_said (word ∷ args) = if begins_comment word then PlanLine.Silent else line_of (words_said word args)

-- the line without its line feed; one that is too long is in no form
unfoldable pub line_said : List ℕ → PlanLine
line_said text = if nat_lt LINE_LIMIT (length text) then PlanLine.BadWord else fields_said (fields text)
