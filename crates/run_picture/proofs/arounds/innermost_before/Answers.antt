-- The search goes on from a closed candidate, and ends at one that isn't, or at none.
use Rattle.run_picture.proofs.Lemmas.{◌∙◌, sym}
use Rattle.run_picture.proofs.Searched.{candidate_opened, candidate_there, step_found, step_next, step_none, step_smaller}
use Rattle.run_picture.proofs.arounds.innermost_before.Goals as goal

pub closed_before-requires-clause-opened : goal.closed_before-requires-clause-opened
closed_before-requires-clause-opened g c = candidate_opened (g.R.Readings.history c.args.readings.now) c.args.opening.place c.args.opening.actor c.in-Some.scope c.loop-candidate.candidate c.loop-candidate.invariant c.in-Some.is

pub outwards-candidate-requires-clause-opened : goal.outwards-candidate-requires-clause-opened
outwards-candidate-requires-clause-opened g c = candidate_there (g.R.Readings.history c.args.readings.now) c.args.opening.place c.args.opening.actor c.in-Some.scope c.loop-candidate.candidate c.loop-candidate.invariant c.in-Some.is

pub loop-candidate-smaller : goal.loop-candidate-smaller
loop-candidate-smaller g c = step_smaller (g.R.Readings.history c.args.readings.now) c.args.opening.place c.args.opening.actor c.in-Some.scope c.loop-candidate.candidate c.outwards-candidate.result c.loop-candidate.invariant c.in-Some.is c.outwards-candidate.ensures

pub loop-candidate-preserved : goal.loop-candidate-preserved
loop-candidate-preserved g c = step_next (g.R.Readings.history c.args.readings.now) c.args.opening.place c.args.opening.actor c.in-Some.scope c.loop-candidate.candidate c.outwards-candidate.result c.loop-candidate.invariant c.in-Some.is (sym c.closed_before.ensures ∙ c.if-not-closed_before.false) c.outwards-candidate.ensures

pub returns-then-not-closed_before : goal.returns-then-not-closed_before
returns-then-not-closed_before g c = sym c.in-Some.is ∙ step_found (g.R.Readings.history c.args.readings.now) c.args.opening.place c.args.opening.actor c.in-Some.scope c.loop-candidate.candidate c.loop-candidate.invariant c.in-Some.is (sym c.closed_before.ensures ∙ c.if-not-closed_before.true)

pub returns-in_default : goal.returns-in_default
returns-in_default g c = step_none (g.R.Readings.history c.args.readings.now) c.args.opening.place c.args.opening.actor c.loop-candidate.candidate c.loop-candidate.invariant c.in_default.is
