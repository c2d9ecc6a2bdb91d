use Rattle.std.proofs.Common.{◌==◌}
use Rattle.share_ledger.proofs.Words.{either}
use Rattle.share_ledger.proofs.{Allowed.limit_allowed, Desks.a_word}
use Rattle.share_ledger.proofs.desk.Desk.limit.Goals as goal

pub compare_exchange_with-requires : goal.compare_exchange_with-requires
compare_exchange_with-requires c =
    let desk = c.args.self.now in
    (desk.fits, a_word _ desk.words, limit_allowed _ _ desk.seat.me (λ n. either (n == 0) 0 n) c.args.limits c.requires)
