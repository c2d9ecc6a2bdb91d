use Rattle.std.proofs.Common.{◌≡◌, All, ap, subst, sym}
use Rattle.realm_core.specs.{AreTicketsOf, BearsOut, CoreValue, Realm, TicketValue, history_of, numbers}
use Rattle.realm_core.proofs.Words.{All-permutation, IsPermutation-sym}
use Rattle.realm_core.proofs.Shown.{tickets_shown}
use Rattle.realm_core.proofs.holds.end_with_tickets.Goals as goal

pub take_back-requires : goal.take_back-requires
take_back-requires g c = record { named = All-permutation (λ (t : TicketValue). t.table ≡ g.N.RealmName.table) c.args.tickets.now.items c.are_tickets_of.new.tickets.items c.are_tickets_of.ensures.same c.requires.tickets }

pub returns-clause-done : goal.returns-clause-done
returns-clause-done g c =
    let token = c.args.token.now in
    let tickets = c.args.tickets.now.items in
    let new = c.close_with_report.new.token.seen in
    let report = c.in_ok-report.report in
    let ends = c.in_ok-report.ensures.ends in
    let given = subst (λ steps. AreTicketsOf (history_of steps) c.args.scope tickets) (sym c.requires.shown) (subst (λ (r : Realm). AreTicketsOf r.history c.args.scope tickets) c.realm.ensures (c.are_tickets_of.ensures.yes c.if-not-are_tickets_of.false)) in
    let after = ap (λ (k : CoreValue). k.steps) c.in_ok-report.ensures.seen.1 in
    let bear = All-permutation (BearsOut new) c.are_tickets_of.new.tickets.items tickets (IsPermutation-sym tickets c.are_tickets_of.new.tickets.items c.are_tickets_of.ensures.same) (subst (λ steps. All (BearsOut steps) c.are_tickets_of.new.tickets.items) after c.take_back.ensures.agreed) in
    record {
      ends = ends;
      given = given;
      own = c.in_ok-report.ensures.report.0;
      nested = c.in_ok-report.ensures.report.1;
      shown = tickets_shown token.limits token.actor c.args.scope (numbers report.nested.items) token.seen new tickets ends given bear;
    }
