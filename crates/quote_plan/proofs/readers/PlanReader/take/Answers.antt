use Rattle.std.specs.Prelude.{◌++◌}
use Rattle.quote_plan.specs.{PlanSoFar, StandsFor}
use Rattle.quote_plan.proofs.Words.{ap, subst, sym}
use Rattle.quote_plan.proofs.Passing.{bad_more, line_more, rest_begun}
use Rattle.quote_plan.proofs.readers.PlanReader.take.Goals as goal

pub loop-text-preserved : goal.loop-text-preserved
loop-text-preserved c =
    line_more c.args.self.now c.loop-text.self c.args.piece.now c.loop-text.rest.now c.in-Some.text.now c.in-Some.others.now c.loop-text.invariant c.in-Some.ensures.whole c.take_line.new.self c.in-Ok.ensures.taken

pub returns-in-Err-clause-bad : goal.returns-in-Err-clause-bad
returns-in-Err-clause-bad c = λ bytes taken more.
    bad_more c.args.self.now c.loop-text.self c.args.piece.now c.loop-text.rest.now c.in-Some.text.now c.in-Some.others.now c.loop-text.invariant c.in-Some.ensures.whole bytes more c.in-Err.fault
    (c.in-Err.ensures.bad (bytes ++ c.loop-text.invariant.done) (c.loop-text.invariant.taken bytes taken) (c.in-Some.others.now ++ more))

pub returns-clause-taken : goal.returns-clause-taken
returns-clause-taken c =
    rest_begun c.args.self.now c.loop-text.self _ c.args.piece.now c.loop-text.rest.now c.loop-text.invariant c.in_default.ensures.whole (ap (λ (p : PlanSoFar). p.number) c.self.view_is) (ap (λ (p : PlanSoFar). p.reading) c.self.view_is)
    (λ line stands. c.in-Ok-go_on.ensures line (subst (λ (p : PlanSoFar). StandsFor p.begun line) (sym c.self.view_is) stands))
