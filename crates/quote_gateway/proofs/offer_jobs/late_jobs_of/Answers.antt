use Rattle.std.specs.Prelude.{◌∷◌}
use Rattle.quote_gateway.specs.{[], labels_in}
use Rattle.quote_gateway.proofs.Words.{◌∙◌, ap, map-append, sym}
use Rattle.quote_gateway.proofs.{OfferLabels.no_label, OfferLabels.one_label, offer_jobs.late_jobs_of.Goals.in-Some+in_ok-push, offer_jobs.late_jobs_of.Goals.in_default}
use Rattle.quote_gateway.proofs.offer_jobs.late_jobs_of.Goals as goal

pub loop-place-preserved : goal.loop-place-preserved
loop-place-preserved g c =
    let offers = c.args.plan.now.offers in
    let index = c.loop-place.place in
    let before = c.loop-place.jobs.items in
    elim c.match-named_at.branch [
      | in-Some+in_ok-push w ↦
          let job = w.late_job.result in
          rw (w.jobs-is, one_label offers index _ (sym w.in-Some.ensures)) (ap labels_in w.in_ok-push.ensures.items ∙ (map-append (λ j. j.label) before (job ∷ []) ∙ cc (c.loop-place.invariant, w.late_job.ensures)))
      | in_default w ↦ rw (w.jobs-is, no_label offers index (sym w.in_default.ensures)) c.loop-place.invariant
    ]
