-- One number more moves the sum by less than 2^63.
use Rattle.std.proofs.Common.{◌+◌, ◌<◌, ap, arith}
use Rattle.join_rules.specs.{Totals.Totals}
use Rattle.join_rules.proofs.Words.{ints}
use Rattle.join_rules.proofs.tally.Tally.count.Goals as goal

pub invariant_of-self : goal.invariant_of-self
invariant_of-self c =
    let few : c.self.inside.failures + c.self.inside.successes < 65536 = omega (arith, ap (λ (t : Totals). t.completions) c.self.view_is) in
    record { few = omega arith; low = omega (arith, ints); high = omega (arith, ints) }
