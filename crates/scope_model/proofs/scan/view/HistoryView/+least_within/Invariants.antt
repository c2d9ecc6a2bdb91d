use Rattle.scope_model.proofs.scan.view.HistoryView.+least_within.Given as goal

abbrev pub decreases-least_within : goal.decreases-least_within
decreases-least_within l = l.count
