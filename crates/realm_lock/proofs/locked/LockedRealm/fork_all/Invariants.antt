-- The labels before the index were forked, and there is room for what the others give.
use Rattle.std.proofs.Common.{◌≡◌, ◌≤◌, length, take, vec_capacity, vec_len}
use Rattle.realm_lock.specs.{Fitting, history_seen}
use Rattle.realm_lock.proofs.Batching.{IsForking}
use Rattle.realm_lock.proofs.locked.LockedRealm.fork_all.Given as goal

abbrev pub invariant-loop-label : goal.invariant-loop-label
invariant-loop-label g l =
    IsForking l.fn.token l.token l.self l.scope (take l.label-index l.labels) l.forked.items
    × (vec_len l.forked ≡ l.label-index)
    × (length l.labels ≤ vec_capacity l.forked)
    × Fitting g.C.Catalog.fitting (history_seen l.token)
