use Rattle.balkreyn.specs.{Channels.none, one}
use Rattle.balkreyn.proofs.Words.{inl, inr, mut_next, refl, rules}
use Rattle.balkreyn.proofs.Acted.{called_so}
use Rattle.balkreyn.proofs.act.items.each.Goals as goal

pub loop-init : goal.loop-init
loop-init g c = (λ always. always, none)

-- the wait for a value was refused
pub returns-in_err-received : goal.returns-in_err-received
returns-in_err-received g c = record {
  state = c.loop.body;
  begun = c.loop.cx;
  handled = c.loop.invariant.1;
  ends = inr (inr (inl (_, c.in_err-received.ensures, search rules)));
}

-- the body failed
pub returns-in-Err : goal.returns-in-Err
returns-in-Err g c = record {
  state = c.loop.body;
  begun = c.loop.cx;
  handled = c.loop.invariant.1;
  ends = inr (inr (inr (record {
    there = c.receive.new.cx;
    value = c.in-Value.value;
    received = rw c.in-Value.is at c.in_ok-received.ensures;
    error = c.in-Err.error;
    state_new = c.body.new.self;
    called = called_so g.F.FnMut _ _ _ _ _ _ _ c.in-Err.is (record { shown = _; shows = refl; left = _; called = c.body.ensures; leaves = refl });
    answers = refl;
  })));
}

-- it succeeded with one value more
pub loop-preserved : goal.loop-preserved
loop-preserved g c = (
  λ always. mut_next g.F.FnMut _ _ _ _ _ c.body.ensures refl (c.loop.invariant.0 always),
  one c.loop.invariant.1 (rw c.in-Value.is at c.in_ok-received.ensures) (called_so g.F.FnMut _ _ _ _ _ _ _ c.in-Ok.is (record { shown = _; shows = refl; left = _; called = c.body.ensures; leaves = refl })),
)
