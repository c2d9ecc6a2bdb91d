use Rattle.std.proofs.Common.{◌≡◌, nat_lt, rules, subst}
use Rattle.thread_pool.specs.{TeamValue, TicketValue, filter}
use Rattle.thread_pool.proofs.Words.{filter_same}
use Rattle.thread_pool.proofs.teams.Team.forget.Goals as goal

pub returns-clause-returned : goal.returns-clause-returned
returns-clause-returned g c = subst (λ (t : TeamValue). c.retain.new.self.items ≡ filter (λ (x : TicketValue). nat_lt x.scope c.args.scope) t.returned) c.self.view_is (filter_same _ _ _ (λ x b f' k. search rules) _ _ c.retain.ensures.filtered)
