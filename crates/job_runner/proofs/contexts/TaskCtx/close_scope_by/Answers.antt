use Rattle.job_runner.specs.{ClosesHere, FoundUnsettled, MatchResult, None, StaysHere, TeamValue, history_seen}
use Rattle.job_runner.proofs.Words.{ap, err_after, ok_after, subst}
use Rattle.job_runner.proofs.Reported.{if_err_beside, if_ok_beside}
use Rattle.job_runner.proofs.contexts.TaskCtx.close_scope_by.Goals as goal

pub returns-in-Ok-clause-closed : goal.returns-in-Ok-clause-closed
returns-in-Ok-clause-closed g c =
    let there = c.await_close_by.new.self.token in
    let new = c.close_scope.new.self in
    let Closes : TeamValue → Type 0 = λ team. MatchResult c.close_scope.result (λ report. ClosesHere there new.token c.args.scope team report) (λ refusal. StaysHere there new.token c.args.scope team new.team refusal) in
    ok_after (λ report t. FoundUnsettled (history_seen t) c.args.scope None × ClosesHere t new.token c.args.scope c.args.self.now.team report) there c.await_close_by.new.time c.args.scope c.close_scope.result c.in-Ok.ensures.answer
    (if_ok_beside _ _ _ c.close_scope.result c.in-Ok.ensures.settled.1 (subst Closes (ap (λ x. x.team) c.await_close_by.ensures.rest.0) c.close_scope.ensures.answer))

pub returns-in-Ok-clause-refused : goal.returns-in-Ok-clause-refused
returns-in-Ok-clause-refused g c =
    let there = c.await_close_by.new.self.token in
    let new = c.close_scope.new.self in
    let Closes : TeamValue → Type 0 = λ team. MatchResult c.close_scope.result (λ report. ClosesHere there new.token c.args.scope team report) (λ refusal. StaysHere there new.token c.args.scope team new.team refusal) in
    err_after (λ refusal t. FoundUnsettled (history_seen t) c.args.scope None × StaysHere t new.token c.args.scope c.args.self.now.team new.team refusal) _ there c.await_close_by.new.time c.args.scope c.close_scope.result c.in-Ok.ensures.answer
    (if_err_beside _ _ _ c.close_scope.result c.in-Ok.ensures.settled.1 (subst Closes (ap (λ x. x.team) c.await_close_by.ensures.rest.0) c.close_scope.ensures.answer))
