use Rattle.std.proofs.Common.{◌∙◌, ◌≡◌, ap, arith, false, inl, inr, length, refl, slice_get, subst, sym}
use Rattle.realm_core.specs.{is_ended_ticket_of}
use Rattle.realm_core.proofs.Words.{cases_lt, slice_get_read, slice_get_within}
use Rattle.realm_core.proofs.tickets.find_from.Goals as goal

pub returns-then-is_ended_ticket_of : goal.returns-then-is_ended_ticket_of
returns-then-is_ended_ticket_of c = (
  omega arith,
  (
    c.index-tickets-at.result,
    slice_get_read c.args.tickets.now (length c.args.tickets.now) c.loop-at.at c.index-tickets-at.result refl (omega arith) c.index-tickets-at.is,
    sym c.is_ended_ticket_of.ensures ∙ c.if-is_ended_ticket_of.true,
  ),
)

pub loop-at-preserved : goal.loop-at-preserved
loop-at-preserved c i t from under at = elim (cases_lt i c.loop-at.at) [
  | inl before ↦ c.loop-at.invariant i t from before at
  | inr here ↦
      let one : c.loop-at.at ≡ i = omega (arith, under, here) in
      let there = slice_get_read c.args.tickets.now (length c.args.tickets.now) c.loop-at.at c.index-tickets-at.result refl (omega arith) c.index-tickets-at.is in
      let same : c.index-tickets-at.result ≡ t = cc (there, ap (slice_get c.args.tickets.now) one, at) in
      subst (λ x. is_ended_ticket_of c.args.task x ≡ false) same (sym c.is_ended_ticket_of.ensures ∙ c.if-is_ended_ticket_of.false)
]

pub returns : goal.returns
returns c i t from at =
    let under = slice_get_within c.args.tickets.now i t at in
    c.loop-at.invariant i t from (omega (arith, under)) at
