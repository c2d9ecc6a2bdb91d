-- The notes that are wanted are those of the words.
use Rattle.scopectl.proofs.Words.{◌∙◌, inl, inr, sym}
use Rattle.scopectl.proofs.act.replay.Goals as goal

pub returns-in-Some-clause-done : goal.returns-in-Some-clause-done
returns-in-Some-clause-done g c = λ e. c.replay_noted.ensures.done e c.args.explain c.args.trace (sym c.notes_wanted.ensures ∙ c.in-Some.is)

pub returns-in-None-clause-done : goal.returns-in-None-clause-done
returns-in-None-clause-done g c = λ e. c.replay_plainly.ensures.done e c.args.explain c.args.trace (sym c.notes_wanted.ensures ∙ c.in-None.is)

pub returns-in-Some-clause-named : goal.returns-in-Some-clause-named
returns-in-Some-clause-named g c = λ e. inr (c.replay_noted.ensures.named e c.args.explain c.args.trace (sym c.notes_wanted.ensures ∙ c.in-Some.is))

pub returns-in-None-clause-named : goal.returns-in-None-clause-named
returns-in-None-clause-named g c = λ e. inl (c.replay_plainly.ensures.named e)
