use Rattle.balkreyn.specs.{GivesEach, arc_value}
use Rattle.balkreyn.proofs.Words.{◌∙◌, inr, length, max, rules}
use Rattle.balkreyn.proofs.Looked.{maps_so}
use Rattle.balkreyn.proofs.act.batches.map_at_most.Goals as goal

-- the workers ran, and the close was refused
pub returns-in_err-close : goal.returns-in_err-close
returns-in_err-close g c = inr (inr (record {
  scope = c.in_ok-scope.scope;
  begun = c.entered.new.cx;
  ended = c.mapped-found.new.cx;
  found = c.mapped-found.result;
  closed = c.close.result;
  opened = c.in_ok-scope.ensures;
  ran = maps_so g.X.Scopes.token g.X.Acts.reads g.X.Acts.time c.args.name c.max.result (max c.args.at_once 1)
      (λ after new cames. GivesEach g.X.Scopes.token g.X.Acts.seat (g.J.Yields.may_yield c.args.name) g.J.Error.From.from_gives (length (arc_value c.in_ok-batch.batch).places.items) after new cames.items)
      (λ after new cames. GivesEach g.X.Scopes.token g.X.Acts.seat (g.J.Yields.may_yield c.args.name) g.J.Error.From.from_gives (length c.args.jobs.items) after new cames.items)
      c.in_ok-scope.scope c.entered.new.cx c.mapped-found.new.cx (search rules) (λ after cames it. record { shown = it.shown; looked = it.looked; each = it.each; all = it.all ∙ c.in_ok-batch.ensures }) c.mapped-found.result c.mapped-found.ensures;
  shut = c.close.ensures;
  answers = search rules;
}))

-- and here it was not
pub returns : goal.returns
returns g c = inr (inr (record {
  scope = c.in_ok-scope.scope;
  begun = c.entered.new.cx;
  ended = c.mapped-found.new.cx;
  found = c.mapped-found.result;
  closed = c.close.result;
  opened = c.in_ok-scope.ensures;
  ran = maps_so g.X.Scopes.token g.X.Acts.reads g.X.Acts.time c.args.name c.max.result (max c.args.at_once 1)
      (λ after new cames. GivesEach g.X.Scopes.token g.X.Acts.seat (g.J.Yields.may_yield c.args.name) g.J.Error.From.from_gives (length (arc_value c.in_ok-batch.batch).places.items) after new cames.items)
      (λ after new cames. GivesEach g.X.Scopes.token g.X.Acts.seat (g.J.Yields.may_yield c.args.name) g.J.Error.From.from_gives (length c.args.jobs.items) after new cames.items)
      c.in_ok-scope.scope c.entered.new.cx c.mapped-found.new.cx (search rules) (λ after cames it. record { shown = it.shown; looked = it.looked; each = it.each; all = it.all ∙ c.in_ok-batch.ensures }) c.mapped-found.result c.mapped-found.ensures;
  shut = c.close.ensures;
  answers = search rules;
}))
