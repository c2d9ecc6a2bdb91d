-- What is kept is ready for the event, as each of its calls wants it.
use Rattle.scope_index.specs.{IsReadyAt}
use Rattle.scope_index.proofs.Words.{subst}
use Rattle.scope_index.proofs.applying.apply.Goals as goal

pub open-requires : goal.open-requires
open-requires g c = subst (λ e. IsReadyAt c.args.index.now e c.args.place) c.in-Open.is c.requires

pub fork-requires : goal.fork-requires
fork-requires g c = (c.in-Fork.label, subst (λ e. IsReadyAt c.args.index.now e c.args.place) c.in-Fork.is c.requires)

pub move_deadline-requires : goal.move_deadline-requires
move_deadline-requires g c = subst (λ e. IsReadyAt c.args.index.now e c.args.place) c.in-Move.is c.requires

pub finish-requires : goal.finish-requires
finish-requires g c = subst (λ e. IsReadyAt c.args.index.now e c.args.place) c.in-Finish.is c.requires

pub cancel-requires : goal.cancel-requires
cancel-requires g c = subst (λ e. IsReadyAt c.args.index.now e c.args.place) c.in-Cancel.is c.requires

pub tick-requires : goal.tick-requires
tick-requires g c = subst (λ e. IsReadyAt c.args.index.now e c.args.place) c.in-Tick.is c.requires

pub begin_close-requires : goal.begin_close-requires
begin_close-requires g c = subst (λ e. IsReadyAt c.args.index.now e c.args.place) c.in-BeginClose.is c.requires

pub join-requires : goal.join-requires
join-requires g c = (c.in-Join.actor, subst (λ e. IsReadyAt c.args.index.now e c.args.place) c.in-Join.is c.requires)
