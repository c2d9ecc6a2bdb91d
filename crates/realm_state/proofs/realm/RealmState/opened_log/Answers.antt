-- The scope's entries, under what it was opened with, are its log.
use Rattle.realm_state.proofs.Words.{◌∙◌, Some, ap, sym}
use Rattle.realm_state.proofs.Said.{log_is}
use Rattle.realm_state.proofs.realm.RealmState.opened_log.Goals as goal

pub returns-clause-log : goal.returns-clause-log
returns-clause-log c = log_is c.args.self.now.history c.args.scope c.args.opened c.in_ok-entries.entries.items c.requires.opened c.in_ok-entries.ensures.entries ∙ ap Some (sym c.new.ensures)
