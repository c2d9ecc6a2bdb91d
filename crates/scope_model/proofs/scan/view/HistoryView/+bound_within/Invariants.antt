use Rattle.scope_model.proofs.scan.view.HistoryView.+bound_within.Given as goal

abbrev pub decreases-bound_within : goal.decreases-bound_within
decreases-bound_within l = l.forks
