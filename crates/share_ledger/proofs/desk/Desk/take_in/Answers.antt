use Rattle.share_ledger.proofs.Words.{◌∙◌}
use Rattle.share_ledger.proofs.Desks.{a_word, arrived_allowed, share_allowed}
use Rattle.share_ledger.proofs.desk.Desk.take_in.Goals as goal

pub join_seat-requires : goal.join_seat-requires
join_seat-requires c =
    let desk = c.args.self.now in
    let other = c.into_seat-other in
    (desk.fits, other.ensures.0 ∙ (c.requires.table ∙ desk.fits), other.ensures.3, a_word _ desk.words, share_allowed desk.seat.id other.result.id desk.seat.me.0 other.result.me.0 c.args.badge.views c.requires.desk c.requires.share other.ensures.2)

pub load-requires : goal.load-requires
load-requires c =
    let desk = c.args.self.now in
    let joined = c.join_seat in
    let other = c.into_seat-other in
    (joined.ensures.0 ∙ desk.fits, a_word _ desk.words, arrived_allowed _ _ desk.seat.me joined.new.seat.me other.result.me.0 c.args.badge.views c.requires.desk c.requires.share other.ensures.2 joined.ensures.2)
