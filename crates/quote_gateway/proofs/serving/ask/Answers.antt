use Rattle.quote_gateway.specs.{IsTold, history_seen, policy_of}
use Rattle.quote_gateway.proofs.Asking.{here_inside, opened_for, opened_here}
use Rattle.quote_gateway.proofs.{Requested.begins_new, Requested.left_new, Requested.new_is, Requested.served, Telling.on_ok_then, Telling.told_over}
use Rattle.quote_gateway.proofs.serving.ask.Goals as goal

pub find-found-requires-clause-empty : goal.find-found-requires-clause-empty
find-found-requires-clause-empty g c =
    let old = c.args.ctx.now.token in
    let one = c.open_scope.new.ctx.token in
    let scope = c.in_ok-scope.scope in
    let opens = opened_for old one scope c.mode.ensures c.options.ensures c.in_ok-scope.ensures.opened in
    opened_here old one (policy_of c.args.plan.now.mode) (g.U.Until.scope_options c.args.until.now) scope c.open_scope.ensures.token opens

pub close_scope-requires : goal.close_scope-requires
close_scope-requires g c =
    let old = c.args.ctx.now.token in
    let one = c.open_scope.new.ctx.token in
    let scope = c.in_ok-scope.scope in
    let opens = opened_for old one scope c.mode.ensures c.options.ensures c.in_ok-scope.ensures.opened in
    let empty = opened_here old one (policy_of c.args.plan.now.mode) (g.U.Until.scope_options c.args.until.now) scope c.open_scope.ensures.token opens in
    record { here = here_inside one c.find-found.new.ctx.token scope c.find-found.ensures.token c.find-found.ensures.keeps empty.here }

pub returns-clause-token : goal.returns-clause-token
returns-clause-token g c =
    let old = c.args.ctx.now.token in
    let one = c.open_scope.new.ctx.token in
    let four = c.find-found.new.ctx.token in
    let new = c.close_scope.new.ctx.token in
    let plan = c.args.plan.now in
    let scope = c.in_ok-scope.scope in
    let opens = opened_for old one scope c.mode.ensures c.options.ensures c.in_ok-scope.ensures.opened in (
      new_is old one four new plan (g.U.Until.scope_options c.args.until.now) scope c.open_scope.ensures.token opens c.find-found.ensures.token c.find-found.ensures.keeps c.close_scope.ensures.token c.close_scope.ensures.ends,
      begins_new old one four new plan (g.U.Until.scope_options c.args.until.now) scope c.open_scope.ensures.token opens c.find-found.ensures.token c.find-found.ensures.keeps c.close_scope.ensures.token c.close_scope.ensures.ends,
    )

pub returns-clause-left : goal.returns-clause-left
returns-clause-left g c =
    let old = c.args.ctx.now.token in
    let one = c.open_scope.new.ctx.token in
    let four = c.find-found.new.ctx.token in
    let new = c.close_scope.new.ctx.token in
    let plan = c.args.plan.now in
    let scope = c.in_ok-scope.scope in
    let opens = opened_for old one scope c.mode.ensures c.options.ensures c.in_ok-scope.ensures.opened in
    left_new old one four new plan (g.U.Until.scope_options c.args.until.now) scope c.open_scope.ensures.token opens c.find-found.ensures.token c.find-found.ensures.keeps c.close_scope.ensures.token c.close_scope.ensures.ends

pub returns-clause-rests : goal.returns-clause-rests
returns-clause-rests g c =
    let old = c.args.ctx.now.token in
    let one = c.open_scope.new.ctx.token in
    let four = c.find-found.new.ctx.token in
    let new = c.close_scope.new.ctx.token in
    let plan = c.args.plan.now in
    let scope = c.in_ok-scope.scope in
    let opens = opened_for old one scope c.mode.ensures c.options.ensures c.in_ok-scope.ensures.opened in
    served old one four new plan (g.U.Until.scope_options c.args.until.now) scope c.open_scope.ensures.token opens c.find-found.ensures.token c.find-found.ensures.keeps c.close_scope.ensures.token c.close_scope.ensures.ends (g.U.Until.is_over c.args.until.now c.find-found.new.clock) c.find-found.result c.find-found.ensures.found

pub returns-clause-told : goal.returns-clause-told
returns-clause-told g c =
    let old = c.args.ctx.now.token in
    let one = c.open_scope.new.ctx.token in
    let four = c.find-found.new.ctx.token in
    let new = c.close_scope.new.ctx.token in
    let scope = c.in_ok-scope.scope in
    let reading = g.U.Until.reading c.find-found.new.clock in
    let opens = opened_for old one scope c.mode.ensures c.options.ensures c.in_ok-scope.ensures.opened in
    let empty = opened_here old one (policy_of c.args.plan.now.mode) (g.U.Until.scope_options c.args.until.now) scope c.open_scope.ensures.token opens in
    let here = here_inside one four scope c.find-found.ensures.token c.find-found.ensures.keeps empty.here in
    on_ok_then (IsTold (history_seen four) reading) (IsTold (history_seen new) reading) c.find-found.result (told_over four new scope reading c.close_scope.ensures.ends here) c.find-found.ensures.told
