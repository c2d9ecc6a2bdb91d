use Rattle.scope_model.proofs.scan.view.HistoryView.+level_within.Given as goal

abbrev pub decreases-level_within : goal.decreases-level_within
decreases-level_within l = l.count
