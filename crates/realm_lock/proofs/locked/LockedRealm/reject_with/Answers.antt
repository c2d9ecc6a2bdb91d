use Rattle.std.proofs.Common.{[], ◌++◌, ◌∙◌, ◌∷◌, ap, refl, sym, true}
use Rattle.realm_lock.specs.{CoreValue, Happened, Reject, stepping}
use Rattle.realm_lock.proofs.{Behind.behind_stepped, Rejecting.seen_added}
use Rattle.realm_lock.proofs.locked.LockedRealm.reject_with.Goals as goal

pub returns-clause-token : goal.returns-clause-token
returns-clause-token g c =
    let first = c.look.ensures.steps in
    let then_seen = c.look-2.ensures.steps in
    let steps = ap (λ (k : CoreValue). k.steps) (sym then_seen.0 ∙ (then_seen.1 ∙ c.reject.ensures.steps.1)) in
    seen_added c.args.token.now c.look.new.share c.look-2.new.share (Happened (Reject c.args.ticket.now.task)) c.look.ensures.looks c.look-2.ensures.looks
    (steps ∙ ap (λ (k : CoreValue). k.steps ++ Happened (Reject c.args.ticket.now.task) ∷ []) first.0)

pub catch_up-requires : goal.catch_up-requires
catch_up-requires g c =
    let x = Happened (Reject c.args.ticket.now.task) in
    let is = c.look-2.ensures.steps.1 ∙ (c.reject.ensures.steps.1 ∙ ap (λ (k : CoreValue). stepping k x true) c.look.ensures.steps.1) in
    behind_stepped c.self.inside.core c.look-2.new.self x true c.self.inside.setters c.limits-legal.ensures.legal refl is c.self.invariant
