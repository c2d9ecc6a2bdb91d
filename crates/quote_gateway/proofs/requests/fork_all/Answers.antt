use Rattle.std.specs.Prelude.{◌++◌, ◌∷◌, ◌≡◌}
use Rattle.quote_gateway.specs.{[], Err, ForkTurnedDown, HasForked, IfErr, IsErrAnd, IsTurnedDown, LabelValue, List, NamedValue, Result, labels_in, nests}
use Rattle.quote_gateway.proofs.Words.{◌∙◌, Ok, ap, append_assoc, subst, sym}
use Rattle.quote_gateway.proofs.{Asking.forked_next, Going.begins_going, Going.sees_on, Going.tokens_on, Reading.chosen, Turned.fork_turned}
use Rattle.quote_gateway.proofs.requests.fork_all.Goals as goal

-- the label of the next job is the next of all
next_label : {J : Type 0} (jobs rest more : List (NamedValue J)) (job : NamedValue J) (done : List LabelValue) → labels_in jobs ≡ done ++ labels_in rest → rest ≡ job ∷ more → labels_in jobs ≡ done ++ job.label ∷ labels_in more
next_label jobs rest more job done is at = is ∙ ap (λ (r : List (NamedValue _)). done ++ labels_in r) at

err_is : {A E : Type 0} (P : E → Type 0) (result : Result A E) (e : E) → IsErrAnd result (λ x. x ≡ e) → P e → IfErr result P
err_is P (Ok x) e is so = tt
err_is P (Err x) e is so = subst P (sym is) so

pub returns-in_err-task-clause-keeps : goal.returns-in_err-task-clause-keeps
returns-in_err-task-clause-keeps g c = tokens_on c.args.ctx.now.token c.loop-job.ctx.token c.fork.new.ctx.token nests c.loop-job.invariant.0 c.loop-job.invariant.1 c.fork.ensures.keeps

pub returns-in_err-task-clause-refused : goal.returns-in_err-task-clause-refused
returns-in_err-task-clause-refused g c =
    let old = c.args.ctx.now.token in
    let mid = c.loop-job.ctx.token in
    let new = c.fork.new.ctx.token in
    let jobs = c.args.jobs.items in
    let more = c.next.new.self.rest.items in
    let inv = c.loop-job.invariant in
    let job = c.in-Some.job in
    let labels = next_label jobs c.loop-job.job-iterator.rest.items more job inv.2.0 inv.2.1 c.in-Some.ensures.steps.0 in
    let begins = begins_going old.limits (nests old.actor) old.seen mid.seen inv.1 in
    err_is (IsTurnedDown (ForkTurnedDown old new c.args.scope (labels_in jobs))) c.from_residual.result c.in_err-task.field-0.0 c.from_residual.ensures.1
    (fork_turned old mid new c.args.scope job.label inv.2.0 (labels_in more) (labels_in jobs) c.in_err-task.field-0.0 inv.0 begins labels c.in_err-task.ensures.refused)

pub returns-then-is_err-2-clause-keeps : goal.returns-then-is_err-2-clause-keeps
returns-then-is_err-2-clause-keeps g c = tokens_on c.args.ctx.now.token c.loop-job.ctx.token c.fork.new.ctx.token nests c.loop-job.invariant.0 c.loop-job.invariant.1 c.fork.ensures.keeps

pub loop-job-preserved : goal.loop-job-preserved
loop-job-preserved g c =
    let old = c.args.ctx.now.token in
    let mid = c.loop-job.ctx.token in
    let new = c.fork.new.ctx.token in
    let jobs = c.args.jobs.items in
    let more = c.next.new.self.rest.items in
    let inv = c.loop-job.invariant in
    let job = c.in-Some.job in
    let done = inv.2.0 in
    let tasks = c.loop-job.tasks.items in
    let task = c.in_ok-task.task in
    let labels = next_label jobs c.loop-job.job-iterator.rest.items more job done inv.2.1 c.in-Some.ensures.steps.0 in
    let items = chosen _ c.push.new.self.items (tasks ++ task ∷ []) _ c.push.ensures.items c.if-is_err-2.ensures.negation in
    let forked = forked_next mid new c.args.scope job.label task c.fork.ensures.token c.in_ok-task.ensures.forked done tasks inv.2.2 in (
      sees_on old mid new inv.0 c.fork.ensures.token,
      tokens_on old mid new nests inv.0 inv.1 c.fork.ensures.keeps,
      (
        done ++ job.label ∷ [],
        labels ∙ sym (append_assoc done (job.label ∷ []) (labels_in more)),
        subst (HasForked new c.args.scope (done ++ job.label ∷ [])) (sym items) forked,
      ),
    )
