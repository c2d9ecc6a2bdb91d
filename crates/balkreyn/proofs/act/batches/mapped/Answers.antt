use Rattle.std.proofs.Common.{◌≡◌, All, IfOk, inr, length, rules, subst}
use Rattle.balkreyn.specs.{GivesEach, Maps, MayCome, arc_value}
use Rattle.balkreyn.proofs.Looked.{mapped_by, on_error}
use Rattle.balkreyn.proofs.act.batches.mapped.Goals as goal

-- the join was refused
pub returns-in_err-join : goal.returns-in_err-join
returns-in_err-join g c =
    on_error (Maps g.X.Scopes.token g.X.Acts.reads g.X.Acts.time c.args.name c.args.workers (λ after new cames. GivesEach g.X.Scopes.token g.X.Acts.seat (g.J.Yields.may_yield c.args.name) g.J.Error.From.from_gives (length (arc_value c.args.batch.now).places.items) after new cames.items) c.args.scope c.args.cx.now c.join.new.self) _ c.from_residual-in_err-join.result c.from_residual-in_err-join.ensures.1
    (λ refusal. inr (record {
      there = c.staffed.new.cx;
      staffed = c.in_ok-staffed.ensures;
      answered = c.join.result;
      after = g.X.Scopes.token c.join.new.self;
      joins = c.join.ensures.answer;
    }))

-- the workers were joined
pub returns : goal.returns
returns g c =
    let same : c.deref.result.now ≡ arc_value c.args.batch.now = search rules in
    mapped_by g.X.Scopes.token g.X.Acts.reads g.X.Acts.time g.X.Acts.seat (g.J.Yields.may_yield c.args.name) g.J.Error.From.from_gives c.args.name c.args.workers (length (arc_value c.args.batch.now).places.items) c.args.scope c.args.cx.now c.staffed.new.cx c.join.new.self c.checkpoint-shown.new.self c.in_ok-join.field-0 c.checkpoint-shown.result c.in_ok-staffed.ensures c.in_ok-join.ensures.answer (record { sees = c.checkpoint-shown.ensures.sees; shows = c.checkpoint-shown.ensures.shows }) (λ cames. cames.items) c.left_by.result
    (subst (λ b. IfOk c.left_by.result (λ cames. All (MayCome (g.J.Yields.may_yield c.args.name) c.checkpoint-shown.result) cames.items × (length cames.items ≡ length b.places.items))) same c.left_by.ensures)
