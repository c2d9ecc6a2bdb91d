use Rattle.script_jobs.proofs.Words.{arith}
use Rattle.script_jobs.proofs.Compared.{one_more, shorter}
use Rattle.script_jobs.proofs.comparing.first_difference.Goals as goal

pub loop-rest-preserved : goal.loop-rest-preserved
loop-rest-preserved c = record {
  same = one_more _ _ _ _ _ _ _ c.loop-rest.invariant.same c.in-Some.ensures;
  numbered = omega (arith, c.loop-rest.invariant.numbered, shorter c.loop-rest.one.now c.in-Some.ensures.line c.in-Some.rest.now c.in-Some.ensures.one_is);
}

pub loop-rest-smaller : goal.loop-rest-smaller
loop-rest-smaller c = shorter c.loop-rest.one.now c.in-Some.ensures.line c.in-Some.rest.now c.in-Some.ensures.one_is
