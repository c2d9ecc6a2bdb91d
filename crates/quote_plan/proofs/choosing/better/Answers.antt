use Rattle.std.specs.Prelude.{◌<ℤ◌, ◌≤ℤ◌}
use Rattle.quote_plan.specs.{IsBestOf, Option, Quote}
use Rattle.quote_plan.proofs.Words.{SFits, arith, ints, rules, subst, w64}
use Rattle.quote_plan.proofs.Best.{new_best, only_best, stays_best}
use Rattle.quote_plan.proofs.choosing.better.Goals as goal

pub returns-then-best-quote : goal.returns-then-best-quote
returns-then-best-quote c quotes is =
    let old : SFits w64 c.in-Some.best.price = search rules in
    let new : SFits w64 c.args.quote.price = search rules in
    let less : c.in-Some.best.price ≤ℤ c.args.quote.price = grind (arith, ints, c.if-best-quote.true) in
    stays_best c.args.quote quotes c.in-Some.best less (subst (λ (o : Option Quote). IsBestOf quotes o) c.in-Some.is is)

pub returns-else-best-quote : goal.returns-else-best-quote
returns-else-best-quote c quotes is =
    let old : SFits w64 c.in-Some.best.price = search rules in
    let new : SFits w64 c.args.quote.price = search rules in
    let less : c.args.quote.price <ℤ c.in-Some.best.price = grind (arith, ints, c.if-best-quote.false) in
    new_best c.args.quote quotes c.in-Some.best less (subst (λ (o : Option Quote). IsBestOf quotes o) c.in-Some.is is)

pub returns-in-None : goal.returns-in-None
returns-in-None c quotes is =
    only_best c.args.quote quotes (subst (λ (o : Option Quote). IsBestOf quotes o) c.in-None.is is)
