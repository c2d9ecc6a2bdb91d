use Rattle.std.proofs.Common.{[], ◌+◌, ◌-◌, ◌<◌, ◌∙◌, ◌≡◌, ◌≤◌, Some, ap, arith, length, option_map, subst, sym}
use Rattle.scope_index.specs.{CancelTable, StandsFor, deadlined, with_scope}
use Rattle.scope_index.proofs.Words.{some_same}
use Rattle.scope_index.proofs.{Moves.has_deadlined, Moves.latest_deadlined, Opens.has_added, Opens.latest_added, Opens.opened_coming, Opens.opened_past, Opens.opened_plain}
use Rattle.scope_index.proofs.cancels.CancelIndex.open.Goals as goal

pub cancel-requires-clause-row : goal.cancel-requires-clause-row
cancel-requires-clause-row c =
    let count : c.self.inside.before + c.len.result + 1 ≡ c.self.inside.before + (length c.self.inside.tree + 1) = omega (arith, c.len.ensures) in
    let number = subst (λ (t : CancelTable). c.self.inside.before + c.len.result + 1 ≡ t.before + (length t.nodes + 1)) c.self.view_is count in
    let has = has_added c.args.self.now c.add-in-Some-2.new.self c.row_of-inside.result c.args.options.shield c.args.place c.new-account.result (c.self.inside.before + c.len.result + 1) number c.in_ok-add-in-Some-2.ensures.added in
    has_deadlined c.add-in-Some-2.new.self c.pass_deadline.new.self (c.self.inside.before + c.len.result + 1) (Some c.in-Some-2.deadline) has c.pass_deadline.ensures

pub cancel-requires-clause-latest : goal.cancel-requires-clause-latest
cancel-requires-clause-latest c =
    let count : c.self.inside.before + c.len.result + 1 ≡ c.self.inside.before + (length c.self.inside.tree + 1) = omega (arith, c.len.ensures) in
    let number = subst (λ (t : CancelTable). c.self.inside.before + c.len.result + 1 ≡ t.before + (length t.nodes + 1)) c.self.view_is count in
    let has = has_added c.args.self.now c.add-in-Some-2.new.self c.row_of-inside.result c.args.options.shield c.args.place c.new-account.result (c.self.inside.before + c.len.result + 1) number c.in_ok-add-in-Some-2.ensures.added in
    latest_deadlined c.add-in-Some-2.new.self c.pass_deadline.new.self (c.self.inside.before + c.len.result + 1) c.args.place (Some c.in-Some-2.deadline) has c.pass_deadline.ensures
    (latest_added c.args.self.now c.add-in-Some-2.new.self c.row_of-inside.result c.args.options.shield c.new-account.result c.args.place c.in_ok-add-in-Some-2.ensures.added c.requires.latest)

pub returns-in_ok-add-in-None-clause-opened : goal.returns-in_ok-add-in-None-clause-opened
returns-in_ok-add-in-None-clause-opened c =
    let rows = subst (λ (t : CancelTable). c.row_of-inside.result ≡ option_map (λ p. p - t.before) c.args.parent) c.self.view_is c.row_of-inside.ensures in
    let stands : StandsFor c.new-account.result [] = record { totals = sym c.new-account.ensures.totals; seen = λ has. c.new-account.ensures.seen } in
    opened_plain c.args.self.now c.add.new.self c.args.parent c.args.policy c.args.options c.args.place c.new-account.result c.requires.there c.new-account.ensures.policy stands c.in-None.is
    (c.in_ok-add-in-None.ensures.added ∙ ap (λ r. with_scope c.args.self.now r c.args.options.shield c.args.place c.new-account.result) rows)

pub returns-in_ok-add_before-in-Some-clause-opened : goal.returns-in_ok-add_before-in-Some-clause-opened
returns-in_ok-add_before-in-Some-clause-opened c =
    let rows = subst (λ (t : CancelTable). c.row_of-inside.result ≡ option_map (λ p. p - t.before) c.args.parent) c.self.view_is c.row_of-inside.ensures in
    let stands : StandsFor c.new-account.result [] = record { totals = sym c.new-account.ensures.totals; seen = λ has. c.new-account.ensures.seen } in
    let coming = subst (λ (t : CancelTable). t.moment < c.in-Some.deadline) c.self.view_is c.if-deadline-self.true in
    opened_coming c.args.self.now c.add_before.new.self c.args.parent c.args.policy c.args.options c.args.place c.in-Some.deadline c.new-account.result c.requires.there c.new-account.ensures.policy stands c.in-Some.is coming
    (c.in_ok-add_before-in-Some.ensures.added ∙ ap (λ r. deadlined (with_scope c.args.self.now r c.args.options.shield c.args.place c.new-account.result) (c.args.self.now.before + (length c.args.self.now.nodes + 1)) (Some c.in-Some.deadline)) rows)

pub returns-in_ok-add-in-Some-2-clause-opened : goal.returns-in_ok-add-in-Some-2-clause-opened
returns-in_ok-add-in-Some-2-clause-opened c =
    let rows = subst (λ (t : CancelTable). c.row_of-inside.result ≡ option_map (λ p. p - t.before) c.args.parent) c.self.view_is c.row_of-inside.ensures in
    let stands : StandsFor c.new-account.result [] = record { totals = sym c.new-account.ensures.totals; seen = λ has. c.new-account.ensures.seen } in
    let count : c.self.inside.before + c.len.result + 1 ≡ c.self.inside.before + (length c.self.inside.tree + 1) = omega (arith, c.len.ensures) in
    let number = subst (λ (t : CancelTable). c.self.inside.before + c.len.result + 1 ≡ t.before + (length t.nodes + 1)) c.self.view_is count in
    let one : c.in-Some.deadline ≡ c.in-Some-2.deadline = some_same _ _ (sym c.in-Some.is ∙ c.in-Some-2.is) in
    let past : c.in-Some-2.deadline ≤ c.args.self.now.moment = subst (λ d. d ≤ c.args.self.now.moment) one (subst (λ (t : CancelTable). c.in-Some.deadline ≤ t.moment) c.self.view_is c.if-deadline-self.false) in
    opened_past c.args.self.now c.add-in-Some-2.new.self c.pass_deadline.new.self c.cancel.new.self c.args.parent c.args.policy c.args.options c.args.place c.in-Some-2.deadline (c.self.inside.before + c.len.result + 1) c.new-account.result
    c.requires.there c.new-account.ensures.policy stands c.in-Some-2.is past number
    (c.in_ok-add-in-Some-2.ensures.added ∙ ap (λ r. with_scope c.args.self.now r c.args.options.shield c.args.place c.new-account.result) rows)
    c.pass_deadline.ensures c.cancel.ensures
