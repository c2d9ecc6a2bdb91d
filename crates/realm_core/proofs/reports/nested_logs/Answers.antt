use Rattle.std.proofs.Common.{◌<◌, reverse, subst, sym}
use Rattle.realm_core.proofs.{Preparing.IsPreparing, Preparing.all_ordered, Preparing.all_prepared, Preparing.next_begun, Preparing.next_opened, Preparing.one_more, Preparing.preparing_begins, Preparing.preparing_goes_on}
use Rattle.realm_core.proofs.{Settling.left, Settling.left_falls}
use Rattle.realm_core.proofs.reports.nested_logs.Goals as goal

pub loop-next-init : goal.loop-next-init
loop-next-init c = rw c.new-shown.ensures.items (preparing_begins c.args.realm.now.history c.args.actor c.args.scope c.inner-next.result c.inner-next.ensures)

pub closing_log-requires : goal.closing_log-requires
closing_log-requires c =
    let h = c.args.realm.now.history in
    let so_far = subst (IsPreparing h c.args.actor c.args.scope (reverse c.loop-next.shown.items)) c.in-Some.is c.loop-next.invariant in
    record { begun = next_begun _ h c.args.actor c.args.scope c.limits-legal.ensures.legal c.requires.can (reverse c.loop-next.shown.items) c.in-Some.here so_far }

pub verdict-requires : goal.verdict-requires
verdict-requires c =
    let h = c.args.realm.now.history in
    let so_far = subst (IsPreparing h c.args.actor c.args.scope (reverse c.loop-next.shown.items)) c.in-Some.is c.loop-next.invariant in
    next_opened _ h c.args.actor c.args.scope c.limits-legal.ensures.legal c.requires.can (reverse c.loop-next.shown.items) c.in-Some.here so_far

pub loop-next-smaller : goal.loop-next-smaller
loop-next-smaller c =
    let h = c.args.realm.now.history in
    subst (λ o. left h c.inner-next-in-Some.result < left h o) (sym c.in-Some.is) (left_falls h c.in-Some.here c.inner-next-in-Some.result c.inner-next-in-Some.ensures)

pub loop-next-preserved : goal.loop-next-preserved
loop-next-preserved c =
    let h = c.args.realm.now.history in
    let so_far = subst (IsPreparing h c.args.actor c.args.scope (reverse c.loop-next.shown.items)) c.in-Some.is c.loop-next.invariant in
    let legal = c.limits-legal.ensures.legal in
    rw c.in-Ok.ensures.items
    (one_more h c.args.actor c.args.scope c.loop-next.shown.items (c.in-Some.here, c.verdict.result, c.in_ok-log.log) c.inner-next-in-Some.result
    (preparing_goes_on _ h c.args.actor c.args.scope legal c.requires.can (reverse c.loop-next.shown.items) c.in-Some.here c.verdict.result c.in_ok-log.log c.inner-next-in-Some.result so_far c.verdict.ensures c.in_ok-log.ensures.log c.inner-next-in-Some.ensures))

pub returns-clause-order : goal.returns-clause-order
returns-clause-order c =
    let h = c.args.realm.now.history in
    let legal = c.limits-legal.ensures.legal in
    rw c.reverse.ensures.items
    (all_ordered _ h c.args.actor c.args.scope legal c.requires.can (reverse c.loop-next.shown.items)
    (subst (IsPreparing h c.args.actor c.args.scope (reverse c.loop-next.shown.items)) c.in_default.is c.loop-next.invariant))

pub returns-clause-prepared : goal.returns-clause-prepared
returns-clause-prepared c =
    rw c.reverse.ensures.items (all_prepared c.args.realm.now.history c.args.actor c.args.scope (reverse c.loop-next.shown.items) c.loop-next.next c.loop-next.invariant)
