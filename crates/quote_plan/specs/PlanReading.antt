-- What plan the bytes are, or which line of them is the first bad one.
use Rattle.std.specs.Prelude.{◌&&◌, ◌+◌, ◌<◌, ◌∷◌, ◌≡◌, ◌⊎◌}
use Rattle.quote_plan.specs.Words.{[], ℕ, Bool, IsSome, IsTrue, List, Mode, Name, None, OFFER_LIMIT, Option, PlanLine, Some, false, filter_map, get_or, length, list_any}
use Rattle.quote_plan.specs.Words.{nat_lt, not, same_name, slice_split, take, true}
use Rattle.quote_plan.specs.{Cutting.is_feed, PlanLines.line_said, Plans.Named, Plans.PlanValue}

-- what is after the last line feed: no line if it is empty, and else a cut one, a bad word
abbrev pub cut_said : List ℕ → List PlanLine
cut_said [] = []
cut_said (b ∷ bs) = PlanLine.BadWord ∷ []

-- what the pieces between line feeds say
unfoldable pub pieces_said : List (List ℕ) → List PlanLine
pieces_said [] = []
pieces_said (last ∷ []) = cut_said last
pieces_said (piece ∷ next ∷ others) = line_said piece ∷ pieces_said (next ∷ others)

-- what the lines of the bytes say, each by itself
unfoldable pub lines_of : List ℕ → List PlanLine
lines_of bytes = pieces_said (slice_split is_feed bytes)

abbrev pub mode_in : PlanLine → Option Mode
mode_in (PlanLine.Mode mode) = Some mode
mode_in _ = None

abbrev pub offer_in : PlanLine → Option Named
offer_in (PlanLine.Offer name offer) = Some (name, offer)
offer_in _ = None

-- the modes that the lines say
unfoldable pub modes_in : List PlanLine → List Mode
modes_in lines = filter_map mode_in lines

-- the offers that the lines say
unfoldable pub offers_in : List PlanLine → List Named
offers_in lines = filter_map offer_in lines

abbrev pub is_none : {A : Type 0} → List A → Bool
is_none [] = true
is_none (x ∷ xs) = false

-- one of the offers has the name
unfoldable pub is_named : Name → List Named → Bool
is_named name offers = list_any (λ named. same_name name named.0) offers

-- whether a line may be after others with these modes and offers: the mode is said first and once;
-- an offer comes after it, with a name that no offer before has, and with less than `OFFER_LIMIT` offers
-- before
abbrev pub may_follow : List Mode → List Named → PlanLine → Bool
may_follow modes offers PlanLine.Silent = true
may_follow modes offers (PlanLine.Mode mode) = is_none modes
may_follow modes offers (PlanLine.Offer name offer) = not (is_none modes) && (nat_lt (length offers) OFFER_LIMIT && not (is_named name offers))
may_follow modes offers PlanLine.BadWord = false

-- whether the line that follows the first n is good; none follows the last one
abbrev pub is_good : List PlanLine → ℕ → Bool
is_good lines n = may_follow (modes_in (take n lines)) (offers_in (take n lines)) (get_or lines n PlanLine.BadWord)

-- the first n lines are good
abbrev pub AreGood : List PlanLine → ℕ → Type 0
AreGood lines n = (k : ℕ) → k < n → IsTrue (is_good lines k)

-- all lines are good, and they say this mode and these offers, in order
pub record SayPlan (lines : List PlanLine) (plan : PlanValue) : Type 0 where
  pub good : AreGood lines (length lines)
  pub mode : modes_in lines ≡ plan.mode ∷ []
  pub offers : offers_in lines ≡ plan.offers

-- the line of this number, counted from 1, is the first bad one: the lines before it are good, and it
-- isn't; or it is the one after the last, since no line says a mode
pub record FirstBad (lines : List PlanLine) (number : ℕ) : Type 0 where
  pub before : ℕ
  pub counted : number ≡ before + 1
  pub good : AreGood lines before
  pub bad : ((before < length lines) × (is_good lines before ≡ false)) ⊎ ((before ≡ length lines) × (modes_in lines ≡ []))

-- memory was refused for an offer: its line and those before it are good
pub record RefusedAt (lines : List PlanLine) : Type 0 where
  pub before : ℕ
  pub within : before < length lines
  pub good : AreGood lines (before + 1)
  pub offer : IsSome (offer_in (get_or lines before PlanLine.BadWord))
