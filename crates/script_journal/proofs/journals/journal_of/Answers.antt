use Rattle.script_journal.proofs.Lemmas.{◌∙◌, string_bytes}
use Rattle.script_journal.proofs.{Renumbered.text_brings, Running.text_runs}
use Rattle.script_journal.proofs.journals.journal_of.Goals as goal

pub returns-clause-runs : goal.returns-clause-runs
returns-clause-runs c = text_runs string_bytes c.args.realm.now c.base-2.result.now c.as_slice-events.result.now c.script_of.result c.limits-limits.ensures.legal c.base-2.ensures (c.as_slice-events.ensures.value ∙ c.in_ok-copied.ensures) c.events_fit.ensures c.script_of.ensures

pub returns-clause-brings : goal.returns-clause-brings
returns-clause-brings c = text_brings string_bytes c.args.realm.now c.limits-limits.result c.base.result.now c.base-2.result.now c.as_slice-events.result.now c.script_of.result c.limits-limits.ensures c.base.ensures c.base_fits.ensures c.base-2.ensures (c.as_slice-events.ensures.value ∙ c.in_ok-copied.ensures) c.events_fit.ensures c.script_of.ensures
