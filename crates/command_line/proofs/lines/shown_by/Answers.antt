use Rattle.command_line.proofs.lines.shown_by.Goals as goal

pub returns-clause-said : goal.returns-clause-said
returns-clause-said c = rw (← c.is_set-lenient.ensures) c.shown.ensures.said
