-- The walk sees each close that covers the scope.
use Rattle.std.specs.Prelude.{◌<◌, ◌≡◌}
use Rattle.refusal_reasons.specs.{History, IfSome, Legal, None, begun_place, earlier, if_after, inner, length}
use Rattle.refusal_reasons.proofs.Lemmas.{◌∙◌, ap, subst, sym}
use Rattle.refusal_reasons.proofs.Closings.{Seen, ends_seen, fewer_left, first_within, never_closing, none_seen, numbers_left, one_seen, passed_seen}
use Rattle.refusal_reasons.proofs.places.closing_place.Goals as goal

pub returns-in_default-clause-place : goal.returns-in_default-clause-place
returns-in_default-clause-place g c =
    let h = g.R.Readings.history c.args.readings.now in
    let legal = subst (Legal c.count-legal.ensures.legal.0) c.requires.history c.count-legal.ensures.legal.1 in
    never_closing c.count-legal.ensures.legal.0 h c.args.scope legal (sym c.opening.ensures ∙ c.in_default.is)

pub loop-next-init : goal.loop-next-init
loop-next-init g c =
    let h = g.R.Readings.history c.args.readings.now in
    subst (λ next. Seen h c.args.scope c.in-Some.opened next None) (sym c.outermost-next.ensures) (none_seen h c.args.scope c.in-Some.opened)

pub returns-then-scope-around-clause-place : goal.returns-then-scope-around-clause-place
returns-then-scope-around-clause-place g c =
    let h = g.R.Readings.history c.args.readings.now in
    let legal = subst (Legal c.count-legal.ensures.legal.0) c.requires.history c.count-legal.ensures.legal.1 in
    passed_seen c.count-legal.ensures.legal.0 h c.args.scope c.in-Some.opened legal (sym c.opening.ensures ∙ c.in-Some.is) c.requires.unclosed c.in-Some-next.around c.loop-next.first c.if-scope-around.true
    (subst (λ next. Seen h c.args.scope c.in-Some.opened next c.loop-next.first) c.in-Some-next.is c.loop-next.invariant)

pub returns-then-scope-around-clause-within : goal.returns-then-scope-around-clause-within
returns-then-scope-around-clause-within g c =
    let h = g.R.Readings.history c.args.readings.now in
    let legal = subst (Legal c.count-legal.ensures.legal.0) c.requires.history c.count-legal.ensures.legal.1 in
    subst (λ (x : History). IfSome c.loop-next.first (λ place. place < length x.events)) (sym c.requires.history)
    (first_within c.count-legal.ensures.legal.0 h c.args.scope c.in-Some.opened legal (sym c.opening.ensures ∙ c.in-Some.is) c.requires.unclosed c.loop-next.next c.loop-next.first c.loop-next.invariant)

pub loop-next-smaller : goal.loop-next-smaller
loop-next-smaller g c =
    let h = g.R.Readings.history c.args.readings.now in
    let seen = subst (λ next. Seen h c.args.scope c.in-Some.opened next c.loop-next.first) c.in-Some-next.is c.loop-next.invariant in
    subst (λ next. numbers_left c.args.scope c.inner-next.result < numbers_left c.args.scope next) (sym c.in-Some-next.is)
    (fewer_left h c.args.scope c.in-Some.opened c.in-Some-next.around c.loop-next.first c.inner-next.result c.if-scope-around.false seen c.inner-next.ensures)

pub loop-next-preserved : goal.loop-next-preserved
loop-next-preserved g c =
    let h = g.R.Readings.history c.args.readings.now in
    let legal = subst (Legal c.count-legal.ensures.legal.0) c.requires.history c.count-legal.ensures.legal.1 in
    let place = c.in-Some.opened.place in
    let around = c.in-Some-next.around in
    let so_far = c.loop-next.first in
    let first : c.earlier-first.result ≡ earlier so_far (if_after place (begun_place h.events around)) =
    c.earlier-first.ensures ∙ ap (earlier so_far) (c.if_after.ensures ∙ ap (if_after place) (c.begun_place.ensures.place ∙ ap (λ (x : History). begun_place x.events around) c.requires.history)) in
    let seen = subst (λ next. Seen h c.args.scope c.in-Some.opened next so_far) c.in-Some-next.is c.loop-next.invariant in
    let more = one_seen c.count-legal.ensures.legal.0 h c.args.scope c.in-Some.opened legal (sym c.opening.ensures ∙ c.in-Some.is) c.requires.unclosed around so_far c.if-scope-around.false seen in
    subst (λ next. Seen h c.args.scope c.in-Some.opened next c.earlier-first.result) (sym c.inner-next.ensures)
    (subst (Seen h c.args.scope c.in-Some.opened (inner h around)) (sym first) more)

pub returns-clause-place : goal.returns-clause-place
returns-clause-place g c =
    let h = g.R.Readings.history c.args.readings.now in
    let legal = subst (Legal c.count-legal.ensures.legal.0) c.requires.history c.count-legal.ensures.legal.1 in
    ends_seen c.count-legal.ensures.legal.0 h c.args.scope c.in-Some.opened legal (sym c.opening.ensures ∙ c.in-Some.is) c.requires.unclosed c.loop-next.first
    (subst (λ next. Seen h c.args.scope c.in-Some.opened next c.loop-next.first) c.in_default-next.is c.loop-next.invariant)

pub returns-clause-within : goal.returns-clause-within
returns-clause-within g c =
    let h = g.R.Readings.history c.args.readings.now in
    let legal = subst (Legal c.count-legal.ensures.legal.0) c.requires.history c.count-legal.ensures.legal.1 in
    subst (λ (x : History). IfSome c.loop-next.first (λ place. place < length x.events)) (sym c.requires.history)
    (first_within c.count-legal.ensures.legal.0 h c.args.scope c.in-Some.opened legal (sym c.opening.ensures ∙ c.in-Some.is) c.requires.unclosed c.loop-next.next c.loop-next.first c.loop-next.invariant)
