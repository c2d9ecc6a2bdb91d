-- An accepted open and fork have a number for what they make, and what is closed was opened.
use Rattle.std.proofs.Common.{◌∙◌, ◌≡◌, IsSome, Ok, ap, arith, refl, subst, sym}
use Rattle.scope_checks.specs.{EndClose, Fork, Open, check_of}
use Rattle.scope_checks.proofs.Words.{end_close_passed, fork_number, open_number}
use Rattle.scope_checks.proofs.Remade.{row_passes}
use Rattle.scope_checks.proofs.table.try_event.Goals as goal

pub overflow_add-reply : goal.overflow_add-reply
overflow_add-reply g c =
    let L = c.args.limits.now in
    let h = g.R.Readings.history c.args.readings.now in
    let of = c.in-Open in
    let ok : check_of L h (Open of.actor of.policy of.options) ≡ Ok tt = row_passes g.F.FromFailed.made L h _ (sym (c.open_row.ensures of.policy of.options) ∙ c.in_ok-open_row-in-Open.was) in
    omega (arith, (open_number L h of.actor of.policy of.options ok).1, c.scopes.ensures)

pub fork_answer-requires : goal.fork_answer-requires
fork_answer-requires g c =
    let L = c.args.limits.now in
    let h = g.R.Readings.history c.args.readings.now in
    let of = c.in-Fork in
    let ok : check_of L h (Fork of.actor of.scope of.label) ≡ Ok tt = row_passes g.F.FromFailed.made L h _ (sym (c.fork_row.ensures of.label) ∙ c.in_ok-fork_row-in-Fork.was) in
    omega (arith, (fork_number L h of.actor of.scope of.label ok).1)

pub verdict-requires : goal.verdict-requires
verdict-requires g c =
    let L = c.args.limits.now in
    let h = g.R.Readings.history c.args.readings.now in
    let of = c.in-EndClose in
    let ok : check_of L h (EndClose of.actor of.scope) ≡ Ok tt = row_passes g.F.FromFailed.made L h _ (sym (c.end_close_row.ensures L) ∙ c.in_ok-end_close_row-in-EndClose.was) in
    let owner = (end_close_passed L h of.actor of.scope (record { passed = ok; recorded = refl })).owner in
    subst IsSome (sym owner.is) refl
