use Rattle.std.proofs.Common.{◌∙◌, ◌≡◌, ap, is_ok, true}
use Rattle.realm_core.specs.{Start}
use Rattle.realm_core.proofs.{Started.runs_from_start, Taken.accepted_ok, Taken.adds_taken, Taken.start_accepted, Taken.tied_taken}
use Rattle.realm_core.proofs.state.RealmCore.start.Goals as goal

pub prove-unreachable-requires : goal.prove-unreachable-requires
prove-unreachable-requires g c =
    let ok = start_accepted g.N.RealmName.table c.self.inside.realm c.self.inside.keeper c.self.invariant c.args.ticket.now c.start-token.ensures.agreed c.requires.waiting in
    let answer = rw c.task-task.ensures at c.done-started.ensures.0 in
    let so : c.is_ok.result ≡ true = c.is_ok.ensures.value ∙ ap is_ok (accepted_ok _ _ (Start c.args.ticket.now.task) tt c.done-started.result ok.passed answer) in
    absurd cc

pub invariant_of-self : goal.invariant_of-self
invariant_of-self g c =
    let ok = start_accepted g.N.RealmName.table c.self.inside.realm c.self.inside.keeper c.self.invariant c.args.ticket.now c.start-token.ensures.agreed c.requires.waiting in
    let answer = rw c.task-task.ensures at c.done-started.ensures.0 in
    let history = rw c.task-task.ensures at c.done-started.ensures.1 in
    tied_taken g.N.RealmName.table c.self.inside.realm c.self.inside.keeper c.self.invariant c.args.ticket.now c.start-token.ensures.agreed (Start c.args.ticket.now.task) c.done-started.result _ _ ok answer history c.start-token.ensures.keeper

pub returns-clause-added : goal.returns-clause-added
returns-clause-added g c =
    let ok = start_accepted g.N.RealmName.table c.self.inside.realm c.self.inside.keeper c.self.invariant c.args.ticket.now c.start-token.ensures.agreed c.requires.waiting in
    adds_taken g.N.RealmName.table c.self.inside.realm c.self.inside.keeper c.self.invariant c.args.ticket.now c.start-token.ensures.agreed (Start c.args.ticket.now.task) c.start-token.new.ticket ok (rw c.start-token.ensures.keeper at c.start-token.ensures.ticket)

pub returns-clause-running : goal.returns-clause-running
returns-clause-running g c =
    runs_from_start g.N.RealmName.table c.self.inside.realm c.self.inside.keeper c.self.invariant c.args.ticket.now c.start-token.ensures.agreed c.start-token.new.ticket c.requires.waiting (rw c.start-token.ensures.keeper at c.start-token.ensures.ticket) c.start-token.ensures.started
