use Rattle.std.proofs.Common.{◌<◌, ◌∙◌, ◌≡◌, ◌≤◌, Some, subst, sym}
use Rattle.scope_index.specs.{CancelTable, IsMoved}
use Rattle.scope_index.proofs.Words.{some_same}
use Rattle.scope_index.proofs.Moves.{has_deadlined, latest_deadlined, moved_away, moved_on, moved_past}
use Rattle.scope_index.proofs.cancels.CancelIndex.move_deadline.Goals as goal

pub cancel-requires-clause-row : goal.cancel-requires-clause-row
cancel-requires-clause-row c = has_deadlined c.args.self.now c.pass_deadline.new.self c.args.scope (Some c.in-Some-2.deadline) c.requires.row c.pass_deadline.ensures

pub cancel-requires-clause-latest : goal.cancel-requires-clause-latest
cancel-requires-clause-latest c = latest_deadlined c.args.self.now c.pass_deadline.new.self c.args.scope c.args.place (Some c.in-Some-2.deadline) c.requires.row c.pass_deadline.ensures c.requires.latest

pub returns-in-None-clause-moved : goal.returns-in-None-clause-moved
returns-in-None-clause-moved c =
    subst (λ d. IsMoved c.args.self.now c.drop_deadline.new.self c.args.scope d c.args.place) (sym c.in-None.is)
    (moved_away c.args.self.now c.drop_deadline.new.self c.args.scope c.args.place c.requires.row c.drop_deadline.ensures)

pub returns-in_ok-await_deadline-in-Some-clause-moved : goal.returns-in_ok-await_deadline-in-Some-clause-moved
returns-in_ok-await_deadline-in-Some-clause-moved c =
    let coming : c.args.self.now.moment < c.in-Some.deadline = subst (λ (t : CancelTable). t.moment < c.in-Some.deadline) c.self.view_is c.if-deadline-self.true in
    subst (λ d. IsMoved c.args.self.now c.await_deadline.new.self c.args.scope d c.args.place) (sym c.in-Some.is)
    (moved_on c.args.self.now c.await_deadline.new.self c.args.scope c.in-Some.deadline c.args.place c.requires.row coming c.in_ok-await_deadline-in-Some.ensures.given)

pub returns-in-Some-2-clause-moved : goal.returns-in-Some-2-clause-moved
returns-in-Some-2-clause-moved c =
    let one : c.in-Some.deadline ≡ c.in-Some-2.deadline = some_same _ _ (sym c.in-Some.is ∙ c.in-Some-2.is) in
    let past : c.in-Some-2.deadline ≤ c.args.self.now.moment = subst (λ d. d ≤ c.args.self.now.moment) one (subst (λ (t : CancelTable). c.in-Some.deadline ≤ t.moment) c.self.view_is c.if-deadline-self.false) in
    subst (λ d. IsMoved c.args.self.now c.cancel.new.self c.args.scope d c.args.place) (sym c.in-Some-2.is)
    (moved_past c.args.self.now c.pass_deadline.new.self c.cancel.new.self c.args.scope c.in-Some-2.deadline c.args.place c.requires.row past c.pass_deadline.ensures c.cancel.ensures)
