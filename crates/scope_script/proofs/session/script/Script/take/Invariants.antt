-- The lines before the rest were taken, and answered.
use Rattle.scope_script.specs.{session_of}
use Rattle.scope_script.proofs.Lemmas.{length}
use Rattle.scope_script.proofs.Taken.{Taken}
use Rattle.scope_script.proofs.session.script.Script.take.Given as goal

abbrev pub decreases-loop-line : goal.decreases-loop-line
decreases-loop-line g l = length l.rest

abbrev pub invariant-loop-line : goal.invariant-loop-line
invariant-loop-line g l =
    Taken l.mode (session_of l.fn.self) (session_of l.self) l.bytes l.rest l.fn.replies.items l.replies.items
