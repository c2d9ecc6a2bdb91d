-- What lies around the scope is its parent.
use Rattle.run_picture.specs.{around, is_some, option_and_then, parent}
use Rattle.run_picture.proofs.Lemmas.{◌∙◌, ap, sym}
use Rattle.run_picture.proofs.{Coming.cancel_comes, Covered.begins_there}
use Rattle.run_picture.proofs.columns.scope_row.Goals as goal

pub returns : goal.returns
unfolding parent
returns g c = record {
  opened = c.requires.opened;
  parent = c.around.ensures ∙ sym (ap (option_and_then (around (g.R.Readings.history c.args.readings.now))) c.requires.opened);
  joined = c.joined_at.ensures;
  closing = λ L legal. c.closing_at.ensures ∙ begins_there L (g.R.Readings.history c.args.readings.now) c.args.scope legal (ap is_some c.requires.opened);
  closed = c.closed_at.ensures;
  cancelled = c.cancellation.ensures;
  comes = λ i x at. cancel_comes (g.R.Readings.history c.args.readings.now) c.args.scope i x (sym c.cancellation.ensures ∙ at);
}
