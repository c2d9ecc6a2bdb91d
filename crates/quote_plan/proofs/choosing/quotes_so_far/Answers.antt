use Rattle.std.specs.Prelude.{◌++◌, ◌∷◌, ◌≡◌}
use Rattle.quote_plan.specs.{[], Some, length, slice_get}
use Rattle.quote_plan.proofs.Words.{◌∙◌, ap, arith, refl, slice_get_read, sym}
use Rattle.quote_plan.proofs.{Prices.none_there, Prices.one_there, Prices.start_there, Prices.whole_there, choosing.quotes_so_far.Goals.in-Some+in_ok-push, choosing.quotes_so_far.Goals.in_default}
use Rattle.quote_plan.proofs.choosing.quotes_so_far.Goals as goal

pub loop-index-init : goal.loop-index-init
loop-index-init c = c.new-quotes.ensures.items ∙ sym (start_there [] [])

pub loop-index-preserved : goal.loop-index-preserved
loop-index-preserved c =
    let offers = c.args.plan.now.offers in
    let tasks = c.args.tasks.now in
    let index = c.loop-index.index in
    let task = c.index-tasks-index.result in
    let here : slice_get tasks index ≡ Some task = slice_get_read tasks (length tasks) index task refl c.loop-index-test.true c.index-tasks-index.is in
    elim c.match-quote_there.branch [
      | in-Some+in_ok-push w ↦ rw (w.quotes-is, one_there offers tasks index task w.in-Some.quote here (sym w.in-Some.ensures)) (w.in_ok-push.ensures.items ∙ ap (λ l. l ++ w.in-Some.quote ∷ []) c.loop-index.invariant)
      | in_default w ↦ rw (w.quotes-is, none_there offers tasks index task here (sym w.in_default.ensures)) c.loop-index.invariant
    ]

pub returns : goal.returns
returns c =
    c.new.ensures ∙ (c.loop-index.invariant ∙ whole_there c.args.plan.now.offers c.args.tasks.now c.loop-index.index (omega arith))
