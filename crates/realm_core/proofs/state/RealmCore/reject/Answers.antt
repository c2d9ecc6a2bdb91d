use Rattle.std.proofs.Common.{◌∙◌, ◌≡◌, ap, is_ok, true}
use Rattle.realm_core.specs.{Reject}
use Rattle.realm_core.proofs.Taken.{accepted_ok, adds_taken, reject_accepted, tied_taken}
use Rattle.realm_core.proofs.state.RealmCore.reject.Goals as goal

pub prove-unreachable-requires : goal.prove-unreachable-requires
prove-unreachable-requires g c =
    let ok = reject_accepted g.N.RealmName.table c.self.inside.realm c.self.inside.keeper c.self.invariant c.args.ticket.now c.reject.ensures.agreed c.requires.waiting in
    let answer = rw c.task-task.ensures at c.done-rejected.ensures.0 in
    let so : c.is_ok.result ≡ true = c.is_ok.ensures.value ∙ ap is_ok (accepted_ok _ _ (Reject c.args.ticket.now.task) tt c.done-rejected.result ok.passed answer) in
    absurd cc

pub invariant_of-self : goal.invariant_of-self
invariant_of-self g c =
    let ok = reject_accepted g.N.RealmName.table c.self.inside.realm c.self.inside.keeper c.self.invariant c.args.ticket.now c.reject.ensures.agreed c.requires.waiting in
    let answer = rw c.task-task.ensures at c.done-rejected.ensures.0 in
    let history = rw c.task-task.ensures at c.done-rejected.ensures.1 in
    tied_taken g.N.RealmName.table c.self.inside.realm c.self.inside.keeper c.self.invariant c.args.ticket.now c.reject.ensures.agreed (Reject c.args.ticket.now.task) c.done-rejected.result _ _ ok answer history c.reject.ensures.keeper

pub returns-clause-added : goal.returns-clause-added
returns-clause-added g c =
    let ok = reject_accepted g.N.RealmName.table c.self.inside.realm c.self.inside.keeper c.self.invariant c.args.ticket.now c.reject.ensures.agreed c.requires.waiting in
    adds_taken g.N.RealmName.table c.self.inside.realm c.self.inside.keeper c.self.invariant c.args.ticket.now c.reject.ensures.agreed (Reject c.args.ticket.now.task) c.reject.new.ticket ok (rw c.reject.ensures.keeper at c.reject.ensures.ticket)
