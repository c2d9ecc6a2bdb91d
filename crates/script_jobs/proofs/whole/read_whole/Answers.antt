use Rattle.script_jobs.proofs.Words.{Consumes-trans}
use Rattle.script_jobs.proofs.whole.read_whole.Goals as goal

pub returns-then-is_err-clause-part : goal.returns-then-is_err-clause-part
returns-then-is_err-clause-part g c = record { bytes = _; read = Consumes-trans _ _ _ _ _ c.reading.invariant.so_far c.in-Ok.ensures.bytes }
