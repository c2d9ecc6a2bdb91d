use Rattle.quote_gateway.specs.{label_of, labels_in, labels_of}
use Rattle.quote_gateway.proofs.Words.{◌∙◌, agree, arith, length, length-map, sym}
use Rattle.quote_gateway.proofs.labels.are_offers.Goals as goal

pub returns : goal.returns
returns g c =
    let jobs = c.args.jobs.now in
    let offers = c.args.plan.now.offers in
    agree (labels_in jobs) (labels_of c.args.plan.now) (length jobs) c.len.result (length-map jobs (λ job. job.label)) (length-map offers label_of ∙ sym c.len.ensures) (λ k below. c.loop-index.invariant k (omega (arith, below)))
