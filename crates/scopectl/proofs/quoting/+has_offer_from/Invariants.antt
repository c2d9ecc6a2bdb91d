use Rattle.scopectl.proofs.quoting.+has_offer_from.Given as goal

abbrev pub decreases-has_offer_from : goal.decreases-has_offer_from
decreases-has_offer_from l = l.left
