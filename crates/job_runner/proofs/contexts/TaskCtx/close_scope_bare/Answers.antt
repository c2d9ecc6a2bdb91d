use Rattle.std.proofs.Common.{ℕ, ◌∙◌, ◌≡◌, List, ap, subst, sym}
use Rattle.job_runner.specs.{Begins, ClosesDown, EndsLater, OwnerValue, history_seen, verdict}
use Rattle.job_runner.proofs.contexts.TaskCtx.close_scope_bare.Goals as goal

-- what begins the close, and what ends it; the threads are joined between, and the token stays
pub returns-clause-answer : goal.returns-clause-answer
returns-clause-answer g c =
    let begun = c.begin_closing.new.token in
    let begins = subst (λ (t : OwnerValue). Begins t begun c.args.scope c.begin_closing.result) c.token.view_is c.begin_closing.ensures.answer in
    let old = c.args.self.now.token in
    let ended = c.end_closing-verdict.new.token in
    let closes : ClosesDown old ended c.args.scope c.end_closing-verdict.ensures.ends.0 =
    record {
      begun = begun;
      how = c.in_default.field-0;
      same = subst (λ (t : OwnerValue). begun ≡ record t { seen = begun.seen }) c.token.view_is c.begin_closing.ensures.seen.0;
      begins = subst (λ result. Begins old begun c.args.scope result) c.in_default.is begins;
      ends = subst (λ (t : OwnerValue). EndsLater t ended c.args.scope c.end_closing-verdict.ensures.ends.0) (c.token-2.view_is ∙ ap (λ x. x.token) c.join_threads.ensures.rest) c.end_closing-verdict.ensures.ends.1;
    } in
    subst
    (λ (t : OwnerValue). ((nested : List ℕ) × ClosesDown old t c.args.scope nested) × (c.end_closing-verdict.result ≡ verdict (history_seen t) c.args.scope))
    (sym (ap (λ x. x.token) c.forget.ensures.rest))
    ((c.end_closing-verdict.ensures.ends.0, closes), c.end_closing-verdict.ensures.verdict)
