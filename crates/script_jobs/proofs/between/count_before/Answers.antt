use Rattle.script_jobs.proofs.Words.{arith}
use Rattle.script_jobs.proofs.Counted.{counted_all, counted_on, counted_to, is_before, is_later}
use Rattle.script_jobs.proofs.between.count_before.Goals as goal

pub returns-then-moment-from : goal.returns-then-moment-from
returns-then-moment-from c =
    counted_to c.loop-time.rest.now c.in-Some.others.now c.args.moment c.in-Some.time.now c.loop-time.count _ c.in-Some.ensures.cases.0 (is_later c.args.moment c.in-Some.time.now c.from.result c.from.ensures c.if-moment-from.true) c.loop-time.invariant.counted

pub loop-time-preserved : goal.loop-time-preserved
loop-time-preserved c = record {
  counted = counted_on c.loop-time.rest.now c.in-Some.others.now c.args.moment c.in-Some.time.now c.loop-time.count _ c.in-Some.ensures.cases.0 (is_before c.args.moment c.in-Some.time.now c.from.result c.from.ensures c.if-moment-from.false) c.loop-time.invariant.counted;
  fits = omega (arith, c.in-Some.ensures.cases.1, c.loop-time.invariant.fits);
}

pub returns : goal.returns
returns c = counted_all c.loop-time.rest.now c.args.moment c.loop-time.count _ c.in_default.ensures.cases c.loop-time.invariant.counted
