-- Why a line of a plan is a bad one.
use Rattle.std.specs.Prelude.{◌+◌, ◌-◌, ◌==◌, ◌∷◌, if◌then◌else◌}
use Rattle.quote_plan.specs.Words.{[], ℕ, Bool, LINE_LIMIT, List, Mode, Name, None, OFFER_LIMIT, Option, PlanLine, PlanWhy, Some, bytes_eq, codes, fields, get_or}
use Rattle.quote_plan.specs.Words.{is_some, length, list_any, name_said, nat_lt, slice_split, take, unwrap_or}
use Rattle.quote_plan.specs.{Cutting.is_feed, PlanLines.is_runtime_text, PlanLines.price_said, PlanReading.lines_of, PlanReading.modes_in, PlanReading.offers_in, Plans.Named}

-- the carriage return
abbrev pub is_return : ℕ → Bool
is_return b = b == 13

-- the tab
abbrev pub is_tab : ℕ → Bool
is_tab b = b == 9

-- what is wrong with the line's bytes, whatever they say
unfoldable pub why_of_bytes : List ℕ → Option PlanWhy
why_of_bytes text =
    if list_any is_return text then Some PlanWhy.CarriageReturn
    else if list_any is_tab text then Some PlanWhy.Tab
    else if nat_lt LINE_LIMIT (length text) then Some PlanWhy.TooLong
    else None

-- what is wrong with the word for a price
unfoldable pub why_of_price : List ℕ → Option PlanWhy
why_of_price word = if is_some (price_said word) then None else Some PlanWhy.BadPrice

-- what is wrong with a fault of this name, if the word is one
abbrev pub why_of_fault_named : Option Name → Option PlanWhy
why_of_fault_named None = Some PlanWhy.BadFault
why_of_fault_named (Some name) = if is_runtime_text (record { 0 = name }) then Some PlanWhy.RuntimeFault else None

-- what is wrong with the word for a fault
unfoldable pub why_of_fault : List ℕ → Option PlanWhy
why_of_fault word = why_of_fault_named (name_said word)

-- what is wrong with `fail FAULT`, by its two words
abbrev pub why_of_failing : List ℕ → List ℕ → Option PlanWhy
why_of_failing word fault = if bytes_eq word (codes "fail") then why_of_fault fault else Some PlanWhy.NoForm

-- what is wrong with the words after an offer's name: a PRICE, or `fail FAULT`
unfoldable pub why_of_end : List (List ℕ) → Option PlanWhy
why_of_end (word ∷ []) = why_of_price word
why_of_end (word ∷ fault ∷ []) = why_of_failing word fault
why_of_end _ = Some PlanWhy.NoForm

-- what is wrong with the words after `offer`
unfoldable pub why_of_offer : List (List ℕ) → Option PlanWhy
why_of_offer [] = Some PlanWhy.NoForm
why_of_offer (word ∷ end) = if is_some (name_said word) then why_of_end end else Some PlanWhy.BadName

-- what is wrong with the fields of a bad line after the mode was said: nothing, if they are an offer in a
-- good form
unfoldable pub why_of_fields : List (List ℕ) → Option PlanWhy
why_of_fields [] = Some PlanWhy.NoForm
why_of_fields (word ∷ args) =
    if bytes_eq word (codes "mode") then Some PlanWhy.ModeSaidBefore
    else if bytes_eq word (codes "offer") then why_of_offer args
    else Some PlanWhy.NoForm

-- why an offer in a good form may not come after these: there are as many as a plan has, or else one has
-- its name
abbrev pub why_of_one_more : List Named → PlanWhy
why_of_one_more offers = if nat_lt (length offers) OFFER_LIMIT then PlanWhy.NamedBefore else PlanWhy.TooManyOffers

-- why these fields are a bad line, by the modes and the offers of the lines before
abbrev pub why_after : List Mode → List Named → List (List ℕ) → PlanWhy
why_after [] offers words = PlanWhy.ModeWanted
why_after (mode ∷ modes) offers words = unwrap_or (why_of_fields words) (why_of_one_more offers)

-- why a line of this text is bad after lines with these modes and offers
unfoldable pub why_of : List Mode → List Named → List ℕ → PlanWhy
why_of modes offers text = unwrap_or (why_of_bytes text) (why_after modes offers (fields text))

-- why a plan may not end with what is after its last line feed
abbrev pub why_of_last : List ℕ → PlanWhy
why_of_last [] = PlanWhy.NoMode
why_of_last (b ∷ bs) = PlanWhy.NoLineFeed

-- why the piece after the first n is a bad line, by the pieces between line feeds and what they say; no line
-- feed ends the last one
abbrev pub why_of_piece : List (List ℕ) → List PlanLine → ℕ → PlanWhy
why_of_piece pieces lines n =
    if nat_lt (n + 1) (length pieces) then why_of (modes_in (take n lines)) (offers_in (take n lines)) (get_or pieces n [])
    else why_of_last (get_or pieces n [])

-- why the line of this number, counted from 1, is a bad one of the bytes
unfoldable pub why_at : List ℕ → ℕ → PlanWhy
why_at bytes number = why_of_piece (slice_split is_feed bytes) (lines_of bytes) (number - 1)

-- the cause in words
abbrev pub words_of : PlanWhy → List ℕ
words_of PlanWhy.CarriageReturn = codes "a carriage return: a line ends in a line feed alone"
words_of PlanWhy.Tab = codes "a tab: fields stand between spaces"
words_of PlanWhy.TooLong = codes "more than 200 bytes"
words_of PlanWhy.NoMode = codes "no line says a mode"
words_of PlanWhy.NoLineFeed = codes "no line feed at its end"
words_of PlanWhy.ModeWanted = codes "the first line says the mode: mode best, mode all or mode first"
words_of PlanWhy.ModeSaidBefore = codes "the mode was said before"
words_of PlanWhy.TooManyOffers = codes "more than 64 offers"
words_of PlanWhy.NamedBefore = codes "an offer above has that name"
words_of PlanWhy.BadName = codes "a name is 1 to 24 of a..z, 0..9, -, _ and ., and begins with a..z"
words_of PlanWhy.BadPrice = codes "a price is a whole number from 0 to 999999999999"
words_of PlanWhy.BadFault = codes "a fault is a name"
words_of PlanWhy.RuntimeFault = codes "that fault is made by the runtime alone"
words_of PlanWhy.NoForm = codes "neither mode MODE, offer NAME PRICE nor offer NAME fail FAULT"
