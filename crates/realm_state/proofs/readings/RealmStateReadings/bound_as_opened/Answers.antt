-- Heights decide, since the actor owns the scope and it is not closing.
use Rattle.realm_state.proofs.Words.{◌∙◌, passed_bound, passed_owner, sym}
use Rattle.realm_state.proofs.{NeverOpened.same_height, NeverOpened.unbound_alone, There.env_there}
use Rattle.realm_state.proofs.readings.RealmStateReadings.bound_as_opened.Goals as goal

pub stack_len-requires : goal.stack_len-requires
stack_len-requires c = env_there c.args.self.now.history _ c.args.actor c.envs.ensures.0 c.requires.acts

pub returns-in-Some : goal.returns-in-Some
returns-in-Some c =
    let realm = c.args.self.now in
    let h = realm.history in
    let row = c.in-Some.ensures.0 in
    let o = c.in-Some.row.now.opening in
    same_height h c.args.actor o c.stack_len.result c.in-Some.row.now.height (c.stack_len.ensures.agrees h c.envs.ensures.0) row.height (passed_owner h c.args.actor c.args.scope o c.requires.owned row.opening)
    ∙ sym (passed_bound realm.limits h c.args.actor c.args.scope o c.scope_row.ensures.1 c.requires.owned c.requires.stands row.opening)

pub returns-in-None : goal.returns-in-None
returns-in-None c = sym (unbound_alone c.args.self.now.history c.args.actor c.args.scope c.in-None.ensures.0)
