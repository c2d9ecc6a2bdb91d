use Rattle.share_ledger.specs.{first_in, hand_of, limits_of, others_in, steps_of}
use Rattle.share_ledger.proofs.{Allowed.give_out_allowed, Desks.a_word}
use Rattle.share_ledger.proofs.desk.Desk.give_out.Goals as goal

pub split_seat-share-requires : goal.split_seat-share-requires
split_seat-share-requires c =
    let desk = c.args.self.now in
    let v = desk.seat.me.0 in
    (desk.fits, a_word _ desk.words, give_out_allowed desk.seat.id v (limits_of v) (steps_of v) (first_in (hand_of v)) (others_in (hand_of v)) c.requires.desk)
