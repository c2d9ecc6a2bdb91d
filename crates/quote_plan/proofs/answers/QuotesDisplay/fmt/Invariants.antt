-- The quotes before the index were written.
use Rattle.quote_plan.specs.{HasWritten, IsPlainFormatter, quotes_text, take}
use Rattle.quote_plan.proofs.answers.QuotesDisplay.fmt.Given as goal

abbrev pub invariant-loop-quote : goal.invariant-loop-quote
invariant-loop-quote g l =
    IsPlainFormatter l.fn.f → HasWritten g.W.Write.write_str_gives l.fn.f (quotes_text (take l.quote-index l.self)) l.f
