use Rattle.share_ledger.proofs.Keeps.{opening_holds}
use Rattle.share_ledger.proofs.desk.Desk.new.Goals as goal

pub of_words-requires : goal.of_words-requires
of_words-requires c = opening_holds
