use Rattle.std.proofs.Common.{◌≡◌, Err, subst, sym}
use Rattle.realm_lock.specs.{DoesOrMemory, Happened, Open, Options, Policy, Refusal, check_of, history_seen, next_scope}
use Rattle.realm_lock.proofs.NoRoom.{no_room}
use Rattle.realm_lock.proofs.locked.LockedRealm.refusal_without_room.Goals as goal

pub returns-clause-answer : goal.returns-clause-answer
returns-clause-answer g c = λ policy options.
    let old = c.args.token.now in
    let new = c.look.new.share in
    let row : (p : Policy) (o : Options) → c.open_row.result ≡ check_of new.limits (history_seen new) (Open new.actor p o) = λ p o.
    rw (c.limits-limits.ensures.limits, c.realm.ensures, c.actor.ensures, c.look.ensures.steps.0) at c.open_row.ensures p o in
    subst
    (λ (r : Refusal). DoesOrMemory old new (Happened (Open old.actor policy options)) next_scope (Err r))
    (sym c.refusal_or_memory.ensures)
    (no_room old new c.look.ensures.looks c.open_row.result row policy options)
