-- What a plan is.
use Rattle.quote_plan.specs.Words.{All, Best, EndValue, Err, Fails, First, Label, List, Mode, Name, Num, Offer, Ok, Policy, Price, Some, map}

-- an offer with its name
abbrev pub Named : Type 0
Named = Name × Offer

-- a mode, and the offers in the order of their lines
pub record PlanValue : Type 0 where
  pub mode : Mode
  pub offers : List Named

-- the end that the offer's job is to have
abbrev pub end_of : Offer → EndValue
end_of (Price price) = Ok (Num price)
end_of (Fails fault) = Err fault

-- the label of the offer's job
abbrev pub label_of : Named → Label
label_of named = record { name = named.0; due = Some (end_of named.1) }

-- the labels of the jobs, one for each offer, in order
abbrev pub labels_of : PlanValue → List Label
labels_of plan = map label_of plan.offers

-- the joiner of each mode: `best` waits for all, `all` for all to succeed, `first` for any to
abbrev pub policy_of : Mode → Policy
policy_of Best = Policy.AwaitAll
policy_of All = Policy.All
policy_of First = Policy.Any
