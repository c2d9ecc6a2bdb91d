use Rattle.quote_plan.specs.{IsBestOf, List, Quote, quotes_in, take}
use Rattle.quote_plan.proofs.Words.{arith, subst, sym}
use Rattle.quote_plan.proofs.{Prices.all_quotes, Prices.no_quote, Prices.one_quote, Prices.start, choosing.best_quote.Goals.in-Some, choosing.best_quote.Goals.in_default}
use Rattle.quote_plan.proofs.choosing.best_quote.Goals as goal

pub loop-index-preserved : goal.loop-index-preserved
loop-index-preserved c =
    let offers = c.args.plan.now.offers in
    let index = c.loop-index.index in
    elim c.match-quote_at.branch [
      | in-Some w ↦ rw (w.best-is, one_quote offers index w.in-Some.quote (sym w.in-Some.ensures)) (w.better.ensures (quotes_in (take index offers)) c.loop-index.invariant)
      | in_default w ↦ rw (w.best-is, no_quote offers index (sym w.in_default.ensures)) c.loop-index.invariant
    ]

pub returns : goal.returns
returns c =
    let past = all_quotes c.args.plan.now.offers c.loop-index.index (omega arith) in
    subst (λ (qs : List Quote). IsBestOf qs c.loop-index.best) past c.loop-index.invariant

pub loop-index-init : goal.loop-index-init
loop-index-init c = start
