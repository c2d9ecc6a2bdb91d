-- No event so far is the one that got the number; `given` is the last number that was given.
use Rattle.scope_model.proofs.Words.{Searched}
use Rattle.scope_model.proofs.scan.history.find_numbered.Given as goal

abbrev pub invariant-loop-place : goal.invariant-loop-place
invariant-loop-place g l = Searched g.R.Numbered.kind g.R.Numbered.shown l.last l.view.events l.wanted l.place l.given
