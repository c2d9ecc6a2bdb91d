use Rattle.std.proofs.Common.{[], ◌++◌, ◌∷◌, inr, refl}
use Rattle.balkreyn.specs.{StopsForking, into, no_slot}
use Rattle.balkreyn.proofs.Looked.{by_memory, none_forked, one_forked}
use Rattle.balkreyn.proofs.act.valued.fork_all.Goals as goal

pub loop-job-init : goal.loop-job-init
loop-job-init g c = (no_slot c.new-slots.ensures.items, none_forked c.new-slots.result.items c.into_iter-job-iterator.result.rest.items c.args.jobs.items c.new-slots.ensures.items c.into_iter-job-iterator.ensures.into_iter_gives.0)

pub loop-job-preserved : goal.loop-job-preserved
loop-job-preserved g c = (
  into c.loop-job.invariant.0 c.in_ok-slot.ensures.answer c.in_ok-push.ensures.items,
  one_forked c.loop-job.slots.items c.push.new.self.items c.in_ok-slot.slot c.loop-job.job-iterator.rest.items c.next.new.self.rest.items c.in-Some.job c.args.jobs.items c.in_ok-push.ensures.items c.in-Some.ensures.steps.0 c.loop-job.invariant.1,
)

-- there was no memory for the slot of one that was forked
pub returns-in_err-push : goal.returns-in_err-push
returns-in_err-push g c =
    by_memory _ (StopsForking g.X.Scopes.token c.args.scope c.args.name c.args.cx.now c.fork_value.new.cx) c.from_residual-in_err-push.result c.from_residual-in_err-push.ensures.1
    (record {
      slots = c.loop-job.slots.items ++ c.in_ok-slot.slot ∷ [];
      here = c.fork_value.new.cx;
      forked = into c.loop-job.invariant.0 c.in_ok-slot.ensures.answer refl;
      stopped = inr (refl, refl);
    })
