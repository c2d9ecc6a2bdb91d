-- An accepted open gives the next scope.
use Rattle.realm_lock.specs.{DidPerform, EventReply, Happened, Open, Policy, Stepped, policy_of, records}
use Rattle.realm_lock.proofs.Words.{ℕ, Ok, open_told, subst}
use Rattle.realm_lock.proofs.Behind.{behind_open, same_marks}
use Rattle.realm_lock.proofs.locked.LockedRealm.open.Goals as goal

pub returns-in-Ok-Scope-clause-answer : goal.returns-in-Ok-Scope-clause-answer
returns-in-Ok-Scope-clause-answer g c =
    let old = c.args.token.now in
    let new = c.perform.new.share in
    let told = c.in-Ok-Scope.field-0 in
    let policy = policy_of c.args.joiner in
    let Q : ℕ → Type 0 = λ a. DidPerform old new (Open a c.policy.result c.args.options) (Ok told) in
    let P : Policy → Type 0 = λ p. DidPerform old new (Open old.actor p c.args.options) (Ok told) in
    let R : EventReply → Type 0 = λ t. DidPerform old new (Open old.actor policy c.args.options) (Ok t) in
    let did = subst P c.policy.ensures (subst Q c.actor.ensures c.in-Ok-Scope.ensures.answer.1) in
    (c.in-Ok-Scope.ensures.answer.0, open_told old new old.actor policy c.args.options c.in-Ok-Scope.scope (subst R c.in-Ok-Scope.field-0-is did))

pub returns-in_default-clause-answer : goal.returns-in_default-clause-answer
returns-in_default-clause-answer g c = c.refusal_without_room.ensures.answer (policy_of c.args.joiner) c.args.options

pub catch_up-requires : goal.catch_up-requires
catch_up-requires g c =
    let old = c.args.token.now in
    let new = c.perform.new.share in
    let t = c.in-Ok-Scope.field-0 in
    let Q : ℕ → Type 0 = λ a. DidPerform old new (Open a c.policy.result c.args.options) (Ok t) in
    let did = subst Q c.actor.ensures c.in-Ok-Scope.ensures.answer.1 in
    let P : ℕ → Type 0 = λ a. Stepped c.self.inside.core c.perform.new.self new (Happened (Open a c.policy.result c.args.options)) (records c.perform.result) in
    let stepped = subst P c.actor.ensures c.perform.ensures.steps in
    behind_open c.self.inside.core c.perform.new.self new old old.actor c.policy.result c.args.options c.perform.result t c.in-Ok-Scope.scope c.add-cell.result c.make_room.new.self c.add-cell.new.self
    c.limits-legal.ensures.legal c.in-Ok-Scope.is c.in-Ok-Scope.field-0-is stepped did (same_marks c.self.inside.setters c.make_room.new.self c.make_room.ensures.kept c.self.invariant) c.add-cell.ensures
