use Rattle.refusal_reasons.proofs.line_places.+text_from.Given as goal

abbrev pub decreases-text_from : goal.decreases-text_from
decreases-text_from l = l.index
