use Rattle.scope_model.proofs.scan.view.HistoryView.+cancel_within.Given as goal

abbrev pub decreases-cancel_within : goal.decreases-cancel_within
decreases-cancel_within l = l.count
