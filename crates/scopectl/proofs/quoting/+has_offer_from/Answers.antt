use Rattle.std.specs.Prelude.{◌+◌, ◌||◌}
use Rattle.scopectl.specs.{drop, list_any, same_name}
use Rattle.scopectl.proofs.Words.{◌∙◌, ap, arith, sym}
use Rattle.scopectl.proofs.Quoted.{none_left, one_left}
use Rattle.scopectl.proofs.quoting.+has_offer_from.Goals as goal

pub returns-then-left-eq0 : goal.returns-then-left-eq0
returns-then-left-eq0 t c = none_left _ _ c.args.place (omega (arith, c.requires.left, c.if-left-eq0.true))

pub returns-then-is_same : goal.returns-then-is_same
returns-then-is_same t c =
    sym (one_left (λ named. same_name named.0 c.args.name.now) c.args.plan.now.offers c.args.place _ c.in-Some.ensures ∙ ap (λ b. b || list_any (λ named. same_name named.0 c.args.name.now) (drop (c.args.place + 1) c.args.plan.now.offers)) (sym c.is_same.ensures.tested ∙ c.if-is_same.true))

pub returns-else-is_same : goal.returns-else-is_same
returns-else-is_same t c =
    c.has_offer_from.ensures ∙ sym (one_left (λ named. same_name named.0 c.args.name.now) c.args.plan.now.offers c.args.place _ c.in-Some.ensures ∙ ap (λ b. b || list_any (λ named. same_name named.0 c.args.name.now) (drop (c.args.place + 1) c.args.plan.now.offers)) (sym c.is_same.ensures.tested ∙ c.if-is_same.false))
