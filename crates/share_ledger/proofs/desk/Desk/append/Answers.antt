use Rattle.std.proofs.Common.{◌==◌}
use Rattle.share_ledger.specs.{hand_of, limits_of, steps_of}
use Rattle.share_ledger.proofs.Words.{either}
use Rattle.share_ledger.proofs.{Allowed.append_allowed, Desks.a_word}
use Rattle.share_ledger.proofs.desk.Desk.append.Goals as goal

pub compare_exchange_with-requires : goal.compare_exchange_with-requires
compare_exchange_with-requires c =
    let desk = c.args.self.now in
    let v = desk.seat.me.0 in
    (desk.fits, a_word _ desk.words, append_allowed _ _ desk.seat.me (λ n. either (n == 0) 0 n) (limits_of v) (steps_of v) (hand_of v) c.args.step c.requires.desk c.requires.step)
