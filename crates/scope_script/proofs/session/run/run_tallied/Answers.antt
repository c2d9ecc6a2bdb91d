-- If there is no room for replies, nothing was read or written.
use Rattle.scope_script.proofs.Lemmas.{Keeps-refl}
use Rattle.scope_script.proofs.Progress.{begins_run, stops_reading}
use Rattle.scope_script.proofs.session.run.run_tallied.Goals as goal

pub returns-in_default-clause-fault : goal.returns-in_default-clause-fault
returns-in_default-clause-fault g c =
    stops_reading _ _ _ _ _ c.args.mode c.args.limits _ (begins_run _ _ c.args.mode c.args.limits _ c.new-script.ensures) (Keeps-refl _)

pub returns-in-Ok-read_pieces-clause-ok : goal.returns-in-Ok-read_pieces-clause-ok
returns-in-Ok-read_pieces-clause-ok g c =
    rw (c.into_ran.ensures.book, c.into_ran.ensures.tally) (c.in-Ok-read_pieces.ensures.ok c.args.limits c.new-script.ensures)
