use Rattle.std.proofs.Common.{◌<◌, ◌≡◌, arith, nat_lt, rules, subst, sym, true}
use Rattle.job_runner.specs.{All, TicketValue}
use Rattle.job_runner.proofs.Words.{All-weaker, filter_passes, filter_same, nat_tests}
use Rattle.job_runner.proofs.contexts.TaskCtx.forget.Goals as goal

pub returns-clause-opened : goal.returns-clause-opened
returns-clause-opened g c = filter_same _ _ _ (λ x b f' k. search rules) _ _ c.retain.ensures.filtered

pub returns-clause-returned : goal.returns-clause-returned
returns-clause-returned g c =
    subst
    (All (λ (t : TicketValue). t.scope < c.args.scope))
    (sym c.forget.ensures.returned)
    (All-weaker (λ (t : TicketValue). nat_lt t.scope c.args.scope ≡ true) (λ (t : TicketValue). t.scope < c.args.scope) (λ t below. grind (arith, below, nat_tests)) _ (filter_passes (λ (t : TicketValue). nat_lt t.scope c.args.scope) _))
