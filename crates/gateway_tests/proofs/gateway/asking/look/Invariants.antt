-- The token stays.
use Rattle.std.proofs.Common.{◌≡◌}
use Rattle.gateway_tests.proofs.gateway.asking.look.Given as goal

abbrev pub invariant-loop : goal.invariant-loop
invariant-loop g l = l.ctx.token ≡ l.fn.ctx.token
