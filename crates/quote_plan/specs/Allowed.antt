-- Which answers a plan allows.
use Rattle.std.specs.Prelude.{◌<ℤ◌, ◌<◌, ◌∷◌, ◌≡◌, ◌≤ℤ◌, ◌≤◌, ◌⊎◌}
use Rattle.quote_plan.specs.Words.{[], ℕ, Answer, Fails, FaultValue, List, Mode, Name, None, Offer, Option, Price, Quote, Some, filter_map, slice_get}
use Rattle.quote_plan.specs.{AnswerText.answer_text, Plans.Named, Plans.PlanValue}

abbrev pub priced : Name → Offer → Option Quote
priced name (Price price) = Some (record { name = name; price = price })
priced name (Fails fault) = None

-- the offer's name and price, if it has one
abbrev pub quote_in : Named → Option Quote
quote_in named = priced named.0 named.1

-- the offers that have prices, in order
unfoldable pub quotes_in : List Named → List Quote
quotes_in offers = filter_map quote_in offers

abbrev pub HasPrice : Offer → Type 0
HasPrice (Price price) = Unit {0}
HasPrice (Fails fault) = ⊥

-- all offers have prices
abbrev pub AllHavePrices : List Named → Type 0
AllHavePrices offers = (k : ℕ) (named : Named) → slice_get offers k ≡ Some named → HasPrice named.1

-- one of the offers has this name and fails so
abbrev pub OneFails : List Named → Name → FaultValue → Type 0
OneFails offers name fault = (k : ℕ) × (slice_get offers k ≡ Some (name, Fails fault))

-- the least price, the first listed of equals
pub record IsBest (quotes : List Quote) (best : Quote) : Type 0 where
  pub place : ℕ
  pub there : slice_get quotes place ≡ Some best
  pub least : (k : ℕ) (quote : Quote) → slice_get quotes k ≡ Some quote → best.price ≤ℤ quote.price
  pub first : (k : ℕ) (quote : Quote) → k < place → slice_get quotes k ≡ Some quote → best.price <ℤ quote.price

-- the best quote, if there is one
abbrev pub IsBestOf : List Quote → Option Quote → Type 0
IsBestOf quotes None = quotes ≡ []
IsBestOf quotes (Some best) = IsBest quotes best

-- in mode `best`: the least price, or that there is none
abbrev pub AllowedBest : List Named → Answer → Type 0
AllowedBest offers (Answer.Best quote) = IsBest (quotes_in offers) quote
AllowedBest offers Answer.NoPrice = quotes_in offers ≡ []
AllowedBest offers _ = ⊥

-- in mode `all`: the prices of all offers, if all have one, and else any offer that fails
abbrev pub AllowedAll : List Named → Answer → Type 0
AllowedAll offers (Answer.All quotes) = AllHavePrices offers × (quotes ≡ quotes_in offers)
AllowedAll offers (Answer.Failed name fault) = OneFails offers name fault
AllowedAll offers _ = ⊥

-- in mode `first`: any offer with a price, if there is one; else any offer that fails; or that there
-- are no offers
abbrev pub AllowedFirst : List Named → Answer → Type 0
AllowedFirst offers (Answer.First quote) = (k : ℕ) × (slice_get (quotes_in offers) k ≡ Some quote)
AllowedFirst offers (Answer.Failed name fault) = (quotes_in offers ≡ []) × OneFails offers name fault
AllowedFirst offers Answer.Empty = offers ≡ []
AllowedFirst offers _ = ⊥

abbrev pub AllowedIn : Mode → List Named → Answer → Type 0
AllowedIn Mode.Best offers a = AllowedBest offers a
AllowedIn Mode.All offers a = AllowedAll offers a
AllowedIn Mode.First offers a = AllowedFirst offers a

-- the plan allows the answer
abbrev pub AllowedAnswer : PlanValue → Answer → Type 0
AllowedAnswer plan a = AllowedIn plan.mode plan.offers a

-- the plan allows the text
pub record AllowedText (plan : PlanValue) (text : List ℕ) : Type 0 where
  pub answer : Answer
  pub from_plan : AllowedAnswer plan answer
  pub said : text ≡ answer_text answer

-- some of the elements, in their order
abbrev pub IsPart : {A : Type 0} → List A → List A → Type 0
IsPart [] ys = Unit {0}
IsPart (x ∷ xs) [] = ⊥
IsPart (x ∷ xs) (y ∷ ys) = ((x ≡ y) × IsPart xs ys) ⊎ IsPart (x ∷ xs) ys

-- the clock's last reading, in milliseconds, is at the deadline or past it
abbrev pub HasExpired : ℕ → Option ℕ → Type 0
HasExpired deadline None = ⊥
HasExpired deadline (Some reading) = deadline ≤ reading

-- the text says some of the prices, in the plan's order
pub record PartText (plan : PlanValue) (text : List ℕ) : Type 0 where
  pub quotes : List Quote
  pub part : IsPart quotes (quotes_in plan.offers)
  pub said : text ≡ answer_text (Answer.Partial quotes)

-- the plan with this deadline allows the text, the clock's last reading being this one: what the plan
-- allows, or some of the prices, once the deadline has passed
abbrev pub AllowedTextBy : PlanValue → ℕ → Option ℕ → List ℕ → Type 0
AllowedTextBy plan deadline reading text = AllowedText plan text ⊎ (HasExpired deadline reading × PartText plan text)
