-- The lines before the rest were taken and answered.
use Rattle.script_jobs.specs.{Replies, length, plain_of}
use Rattle.script_jobs.proofs.Words.{Taken}
use Rattle.script_jobs.proofs.session.NotedScript.take.Given as goal

abbrev pub decreases-loop-line : goal.decreases-loop-line
decreases-loop-line g l = length l.rest

abbrev pub invariant-loop-line : goal.invariant-loop-line
invariant-loop-line g l = Taken Replies (plain_of l.fn.self) (plain_of l.self) l.bytes l.rest l.fn.replies.items l.replies.items
