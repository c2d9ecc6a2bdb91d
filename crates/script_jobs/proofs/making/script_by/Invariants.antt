-- So many lines were made.
use Rattle.script_jobs.specs.{IsScript, string_bytes}
use Rattle.script_jobs.proofs.making.script_by.Given as goal

abbrev pub invariant-loop-line : goal.invariant-loop-line
invariant-loop-line l = IsScript l.line (string_bytes l.text)
