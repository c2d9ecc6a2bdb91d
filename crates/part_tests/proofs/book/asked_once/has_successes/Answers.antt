-- Enough were found, or nothing is left to look at.
use Rattle.std.proofs.Common.{◌≡◌, ℕ, arith}
use Rattle.scope_rules.specs.Joining.{has_succeeded, meets}
use Rattle.part_tests.proofs.Counting.{found_enough, found_all}
use Rattle.part_tests.proofs.book.asked_once.has_successes.Goals.{then-loop-left-test+else-found-limit, else-loop-left-test}
use Rattle.part_tests.proofs.book.asked_once.has_successes.Goals as goal

pub returns : goal.returns
unfolding meets
returns c =
    let left : ℕ = c.loop-left.left in
    let kept = c.loop-left.invariant in
    elim c.loop-left-test.branch [
      | then-loop-left-test+else-found-limit w ↦ found_enough has_succeeded _ c.args.limit c.loop-left.found left kept.counted kept.few w.if-found-limit.false
      | else-loop-left-test w ↦ found_all has_succeeded _ c.args.limit c.loop-left.found left kept.counted kept.few (let none : left ≡ 0 = omega arith in none)
    ]
