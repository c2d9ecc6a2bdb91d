-- The place that is kept is that of the scope.
use Rattle.run_picture.specs.{begins_to_close}
use Rattle.run_picture.proofs.Lemmas.{◌∙◌, ap, arith, index_of}
use Rattle.run_picture.proofs.closings.closing_at.Goals as goal

pub returns : goal.returns
returns g c =
    let h = g.R.Readings.history c.args.readings.now in
    let it = index_of h c.args.scope c.requires.opened in
    let kept = c.requires.closings in
    c.place.ensures it.0 (omega (arith, it.2, kept.from)) (omega (arith, it.1, kept.long)) ∙ (kept.each it.0 it.1 ∙ ap (begins_to_close h) it.2)
