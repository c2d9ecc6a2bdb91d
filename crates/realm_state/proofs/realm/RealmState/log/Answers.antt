-- A scope that is there was opened.
use Rattle.realm_state.proofs.Words.{◌∙◌, scope_passed, sym}
use Rattle.realm_state.proofs.realm.RealmState.log.Goals as goal

pub unreachable-requires : goal.unreachable-requires
unreachable-requires c =
    let it = scope_passed c.args.self.now.history c.args.scope c.requires in
    absurd (cc (it.is, sym c.opening.ensures ∙ c.in_default.is))
