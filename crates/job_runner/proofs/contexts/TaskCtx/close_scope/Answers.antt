use Rattle.std.proofs.Common.{◌≡◌, IfErr, IfOk, ap, subst, sym}
use Rattle.thread_pool.specs.Teams.{Joins}
use Rattle.job_runner.specs.{Begins, EndsOwn, Held, OwnerValue, SeesMore}
use Rattle.job_runner.proofs.Reported.{comes_here, held_why}
use Rattle.job_runner.proofs.contexts.TaskCtx.close_scope.Goals as goal

pub returns-clause-answer : goal.returns-clause-answer
returns-clause-answer g c =
    let begun = c.begin_closing.new.token in
    let joined = c.join_threads.new.self.team in
    let left = c.end_with_report.new.self.team in
    let named = subst (λ (t : OwnerValue). t.table ≡ g.N.RealmName.table) c.token.view_is c.token.invariant in
    let begins = subst (λ (t : OwnerValue). Begins t begun c.args.scope c.begin_closing.result) c.token.view_is c.begin_closing.ensures.answer in
    comes_here c.args.self.now.token begun c.end_with_report.new.self.token c.args.scope c.args.self.now.team joined left c.end_with_report.result
    (record {
      how = c.in_default.field-0;
      same = subst (λ (t : OwnerValue). SeesMore t begun) c.token.view_is c.begin_closing.ensures.seen.0;
      begins = subst (λ result. Begins c.args.self.now.token begun c.args.scope result) c.in_default.is begins;
      joins = subst (λ name. Joins name c.args.scope c.args.self.now.team joined) (sym named) c.join_threads.ensures.team;
    })
    (subst (λ (t : OwnerValue). IfOk c.end_with_report.result (λ report. EndsOwn c.args.scope joined.returned t c.end_with_report.new.self.token report)) (ap (λ x. x.token) c.join_threads.ensures.rest) c.end_with_report.ensures.closed)
    (subst (λ (t : OwnerValue). IfErr c.end_with_report.result (λ refusal. Held c.args.scope joined.returned left.returned t c.end_with_report.new.self.token refusal)) (ap (λ x. x.token) c.join_threads.ensures.rest) c.end_with_report.ensures.refused)
    c.end_with_report.ensures.running

pub returns-clause-sure : goal.returns-clause-sure
returns-clause-sure g c = λ opened. held_why c.args.scope _ _ _ _ c.end_with_report.result c.end_with_report.ensures.refused
