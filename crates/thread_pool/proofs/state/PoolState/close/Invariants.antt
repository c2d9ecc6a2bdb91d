-- Each turn sends one home, and leaves all else.
use Rattle.std.proofs.Common.{◌≡◌, vec_len}
use Rattle.thread_pool.proofs.state.PoolState.close.Given as goal

abbrev pub invariant-loop-handoff : goal.invariant-loop-handoff
invariant-loop-handoff g l = l.self-inside ≡ record l.initial.self-inside { resting = l.self-inside.resting }

abbrev pub decreases-loop-handoff : goal.decreases-loop-handoff
decreases-loop-handoff g l = vec_len l.self-inside.resting
