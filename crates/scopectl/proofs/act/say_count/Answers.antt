use Rattle.scopectl.specs.{IsSaid}
use Rattle.scopectl.proofs.Words.{◌∙◌, subst}
use Rattle.scopectl.proofs.act.say_count.Goals as goal

pub returns : goal.returns
returns g c =
    subst (λ text. IsSaid text (g.E.Write.contents c.args.errors.now.inner) (g.E.Write.contents c.say.new.errors.inner) c.say.new.errors.failed) (c.as_str.ensures.value ∙ c.count_text.ensures) c.say.ensures.said
