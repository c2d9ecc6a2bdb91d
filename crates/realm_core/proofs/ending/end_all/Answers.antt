use Rattle.realm_core.specs.{CoreValue, OwnerValue}
use Rattle.realm_core.proofs.Words.{◌∙◌, ap}
use Rattle.realm_core.proofs.EndSteps.{event_reply_of, way_begins, way_ends, way_goes_on}
use Rattle.realm_core.proofs.ending.end_all.Goals as goal

pub loop-last-init : goal.loop-last-init
loop-last-init g c =
    let it = c.end_innermost-last.ensures in
    (it.seen.0, it.seen.1, way_begins _ _ _ _ _ _ it.end, it.verdict)

pub loop-last-preserved : goal.loop-last-preserved
loop-last-preserved g c =
    let it = c.end_innermost-last-in-loop-last.ensures in
    let so_far = c.loop-last.invariant in
    let seen = c.end_innermost-last-in-loop-last.new.token.seen in
    let end = event_reply_of _ _ _ _ _ _ _ _ _ (ap (λ (t : OwnerValue). t.limits) so_far.0) (ap (λ (t : OwnerValue). t.actor) so_far.0) (ap (λ (c : CoreValue). c.steps) so_far.1) it.end in (
      it.seen.0 ∙ ap (λ (t : OwnerValue). record t { seen = seen }) so_far.0,
      it.seen.1 ∙ ap (λ (c : CoreValue). record c { steps = seen }) so_far.1,
      way_goes_on _ _ _ _ _ _ _ _ so_far.2 end,
      it.verdict,
    )

pub returns-clause-ends : goal.returns-clause-ends
returns-clause-ends g c = way_ends _ _ _ _ _ _ c.loop-last.invariant.2 c.loop-last-test.false
