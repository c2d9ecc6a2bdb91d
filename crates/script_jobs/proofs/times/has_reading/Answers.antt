-- A line has a reading, or those behind it may have one.
use Rattle.script_jobs.specs.{is_some}
use Rattle.script_jobs.proofs.Words.{◌∙◌, ap, sym}
use Rattle.script_jobs.proofs.Timed.{read_here, read_later, read_never}
use Rattle.script_jobs.proofs.times.has_reading.Goals as goal

pub returns-then-is_some : goal.returns-then-is_some
returns-then-is_some c =
    read_here c.loop-line.rest.now c.in-Some.line.now c.in-Some.others.now _ c.in-Some.ensures c.loop-line.invariant (ap is_some (sym c.reading_of.ensures) ∙ (sym c.is_some.ensures ∙ c.if-is_some.true))

pub loop-line-preserved : goal.loop-line-preserved
loop-line-preserved c =
    read_later c.loop-line.rest.now c.in-Some.line.now c.in-Some.others.now _ c.in-Some.ensures c.loop-line.invariant (ap is_some (sym c.reading_of.ensures) ∙ (sym c.is_some.ensures ∙ c.if-is_some.false))

pub returns : goal.returns
returns c = read_never c.loop-line.rest.now _ c.in_default.ensures c.loop-line.invariant
