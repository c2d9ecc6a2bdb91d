-- A fork that is recorded gives the task that the rules say.
use Rattle.std.proofs.Common.{◌≡◌, Ok, ap, refl}
use Rattle.scope_rules.specs.declared.types.answers.ForkReply.TheVariants.{Never, Thread}
use Rattle.realm_core.specs.{Fork, Happened, Task, TicketValue}
use Rattle.realm_core.proofs.Performed.{fork_told, performed_now, tied_performed}
use Rattle.realm_core.proofs.state.RealmCore.fork.Goals as goal

pub invariant_of-self : goal.invariant_of-self
invariant_of-self g c =
    let a = c.args.share.now.actor in
    let answer = rw (c.actor-actor.ensures, c.in-Ok-Task-Thread.field-0-is, c.in-Ok-Task-Thread.field-0-0-is) at c.in-Ok-Task-Thread.ensures.0 in
    let history = rw (c.actor-actor.ensures, c.in-Ok-Task-Thread.field-0-is) at c.in-Ok-Task-Thread.ensures.1 in
    tied_performed g.N.RealmName.table c.self.inside.realm c.self.inside.keeper c.self.invariant a (Fork a c.args.scope c.args.label) (Ok (Task (Thread c.in-Ok-Task-Thread.task))) _ _ answer history c.fork-ticket.ensures.keeper

pub returns-in-Ok-Task-Thread-clause-answer : goal.returns-in-Ok-Task-Thread-clause-answer
returns-in-Ok-Task-Thread-clause-answer g c =
    let a = c.args.share.now.actor in
    let e = Fork a c.args.scope c.args.label in
    let answer = rw (c.actor-actor.ensures, c.in-Ok-Task-Thread.field-0-is, c.in-Ok-Task-Thread.field-0-0-is) at c.in-Ok-Task-Thread.ensures.0 in
    let same : c.fork-ticket.result.task ≡ c.in-Ok-Task-Thread.task = ap (λ (t : TicketValue). t.task) c.fork-ticket.ensures.ticket in
    let did = performed_now g.N.RealmName.table c.self.inside.realm c.self.inside.keeper c.self.invariant c.args.share.now c.fork-ticket.ensures.agreed e (Ok (Task (Thread c.in-Ok-Task-Thread.task))) _ c.fork-ticket.new.share answer c.fork-ticket.ensures.keeper c.fork-ticket.ensures.share in
    (rw c.fork-ticket.ensures.share refl, rw same (fork_told c.args.share.now c.fork-ticket.new.share a c.args.scope c.args.label (Happened e) (Thread c.in-Ok-Task-Thread.task) did))

pub invariant_of-self-in-Ok-Task-Never : goal.invariant_of-self-in-Ok-Task-Never
invariant_of-self-in-Ok-Task-Never g c =
    let a = c.args.share.now.actor in
    let answer = rw (c.actor-actor.ensures, c.in-Ok-Task-Never.field-0-is, c.in-Ok-Task-Never.field-0-0-is) at c.in-Ok-Task-Never.ensures.0 in
    let history = rw (c.actor-actor.ensures, c.in-Ok-Task-Never.field-0-is) at c.in-Ok-Task-Never.ensures.1 in
    tied_performed g.N.RealmName.table c.self.inside.realm c.self.inside.keeper c.self.invariant a (Fork a c.args.scope c.args.label) (Ok (Task (Never c.in-Ok-Task-Never.task))) _ _ answer history c.fork_never.ensures.keeper

pub returns-in-Ok-Task-Never-clause-answer : goal.returns-in-Ok-Task-Never-clause-answer
returns-in-Ok-Task-Never-clause-answer g c =
    let a = c.args.share.now.actor in
    let e = Fork a c.args.scope c.args.label in
    let answer = rw (c.actor-actor.ensures, c.in-Ok-Task-Never.field-0-is, c.in-Ok-Task-Never.field-0-0-is) at c.in-Ok-Task-Never.ensures.0 in
    let did = performed_now g.N.RealmName.table c.self.inside.realm c.self.inside.keeper c.self.invariant c.args.share.now c.fork_never.ensures.agreed e (Ok (Task (Never c.in-Ok-Task-Never.task))) _ c.fork_never.new.share answer c.fork_never.ensures.keeper c.fork_never.ensures.share in
    (rw c.fork_never.ensures.share refl, fork_told c.args.share.now c.fork_never.new.share a c.args.scope c.args.label (Happened e) (Never c.in-Ok-Task-Never.task) did)
