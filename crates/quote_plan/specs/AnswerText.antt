-- The lines of the answers.
use Rattle.std.specs.Prelude.{◌++◌}
use Rattle.quote_plan.specs.Words.{ℕ, Answer, List, Quote, codes, flat_map, signed_decimal, text_of}

-- `NAME=PRICE`
abbrev pub quote_text : Quote → List ℕ
quote_text quote = text_of quote.name ++ codes "=" ++ signed_decimal quote.price

-- the offers with their prices, each after a space
unfoldable pub quotes_text : List Quote → List ℕ
quotes_text quotes = flat_map (λ q. codes " " ++ quote_text q) quotes

-- the line of the answer, without the line feed
unfoldable pub answer_text : Answer → List ℕ
answer_text (Answer.Best quote) = codes "best " ++ text_of quote.name ++ codes " " ++ signed_decimal quote.price
answer_text Answer.NoPrice = codes "none"
answer_text (Answer.All quotes) = codes "all" ++ quotes_text quotes
answer_text (Answer.First quote) = codes "first " ++ text_of quote.name ++ codes " " ++ signed_decimal quote.price
answer_text (Answer.Failed name fault) = codes "failed " ++ text_of name ++ codes " " ++ text_of fault.0
answer_text Answer.Empty = codes "empty"
answer_text (Answer.Partial quotes) = codes "partial" ++ quotes_text quotes
