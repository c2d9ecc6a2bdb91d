use Rattle.balkreyn.specs.{Sleeps, round, start}
use Rattle.balkreyn.proofs.Words.{Ok, inl, inr, mut_next, refl, rules}
use Rattle.balkreyn.proofs.Acted.{called_so, none_of, shown_of}
use Rattle.balkreyn.proofs.act.periods.every.Goals as goal

pub loop-number-init : goal.loop-number-init
loop-number-init g c = (λ always. always, search rules, start)

-- the body failed
pub returns-in-Err : goal.returns-in-Err
returns-in-Err g c = record {
  number = c.loop-number.number;
  state = c.loop-number.body;
  begun = c.loop-number.cx;
  repeated = c.loop-number.invariant.2;
  within = c.loop-number.invariant.1;
  ends = inr (record {
    found = _;
    state_new = c.body.new.self;
    ended = c.body.new.arg2;
    called = called_so g.F.FnMut _ _ _ _ _ _ _ c.in-Err.is (record { shown = _; shows = refl; left = _; called = c.body.ensures; leaves = refl });
    ends = (refl, refl);
  });
}

-- the pause behind it was refused
pub returns-in_err-slept : goal.returns-in_err-slept
returns-in_err-slept g c = record {
  number = c.loop-number.number;
  state = c.loop-number.body;
  begun = c.loop-number.cx;
  repeated = c.loop-number.invariant.2;
  within = c.loop-number.invariant.1;
  ends = inr (record {
    found = _;
    state_new = c.body.new.self;
    ended = c.body.new.arg2;
    called = called_so g.F.FnMut _ _ _ _ _ _ _ c.in-Ok.is (record { shown = _; shows = refl; left = _; called = c.body.ensures; leaves = refl });
    ends = inr (_, c.in_err-slept.ensures.answer, search rules);
  });
}

-- a mark was shown in it
pub returns-then-is_some : goal.returns-then-is_some
returns-then-is_some g c =
    let shown = shown_of (λ shown. Sleeps g.X.Acts.reads g.X.Acts.reading g.X.Acts.time g.X.Scopes.token g.X.Acts.seat c.args.millis c.body.new.arg2 c.sleep.new.self (Ok shown)) c.in_ok-slept.slept _ (search rules) refl c.in_ok-slept.ensures.answer in
    record {
      number = c.loop-number.number;
      state = c.loop-number.body;
      begun = c.loop-number.cx;
      repeated = c.loop-number.invariant.2;
      within = c.loop-number.invariant.1;
      ends = inr (record {
        found = _;
        state_new = c.body.new.self;
        ended = c.body.new.arg2;
        called = called_so g.F.FnMut _ _ _ _ _ _ _ c.in-Ok.is (record { shown = _; shows = refl; left = _; called = c.body.ensures; leaves = refl });
        ends = inl (shown.0, shown.1, shown.2);
      });
    }

-- one round more was done
pub loop-number-preserved : goal.loop-number-preserved
loop-number-preserved g c = (
  λ always. mut_next g.F.FnMut _ _ _ _ _ c.body.ensures refl (c.loop-number.invariant.0 always),
  search rules,
  round c.loop-number.invariant.2 (called_so g.F.FnMut _ _ _ _ _ _ _ c.in-Ok.is (record { shown = _; shows = refl; left = _; called = c.body.ensures; leaves = refl })) (none_of (λ shown. Sleeps g.X.Acts.reads g.X.Acts.reading g.X.Acts.time g.X.Scopes.token g.X.Acts.seat c.args.millis c.body.new.arg2 c.sleep.new.self (Ok shown)) c.in_ok-slept.slept (search rules) c.in_ok-slept.ensures.answer),
)

-- all rounds were done
pub returns : goal.returns
returns g c = record {
  number = c.loop-number.number;
  state = c.loop-number.body;
  begun = c.loop-number.cx;
  repeated = c.loop-number.invariant.2;
  within = c.loop-number.invariant.1;
  ends = inl (search rules, refl, refl);
}
