use Rattle.std.specs.Prelude.{◌++◌, ◌∷◌}
use Rattle.quote_plan.specs.{[]}
use Rattle.quote_plan.proofs.Words.{◌∙◌, ap, arith, sym}
use Rattle.quote_plan.proofs.{Prices.all_quotes, Prices.no_quote, Prices.one_quote, Prices.start, choosing.quotes.Goals.in-Some+in_ok-push, choosing.quotes.Goals.in_default}
use Rattle.quote_plan.proofs.choosing.quotes.Goals as goal

pub loop-index-preserved : goal.loop-index-preserved
loop-index-preserved c =
    let offers = c.args.plan.now.offers in
    let index = c.loop-index.index in
    elim c.match-quote_at.branch [
      | in-Some+in_ok-push w ↦ rw (w.quotes-is, one_quote offers index w.in-Some.quote (sym w.in-Some.ensures)) (w.in_ok-push.ensures.items ∙ ap (λ l. l ++ w.in-Some.quote ∷ []) c.loop-index.invariant)
      | in_default w ↦ rw (w.quotes-is, no_quote offers index (sym w.in_default.ensures)) c.loop-index.invariant
    ]

pub returns : goal.returns
returns c = c.new.ensures ∙ (c.loop-index.invariant ∙ all_quotes c.args.plan.now.offers c.loop-index.index (omega arith))

pub loop-index-init : goal.loop-index-init
loop-index-init c = c.new-quotes.ensures.items ∙ sym start
