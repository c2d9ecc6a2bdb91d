use Rattle.balkreyn.specs.{Acting.none, Sleeps, more}
use Rattle.balkreyn.proofs.Words.{Ok, inl, inr, mut_next, refl, rules}
use Rattle.balkreyn.proofs.Acted.{called_so, last_try, mark_of, none_of}
use Rattle.balkreyn.proofs.act.blocks.retry.Goals as goal

pub loop-number-init : goal.loop-number-init
loop-number-init g c = (λ always. always, search rules, none)

-- it succeeded
pub returns-in-Ok : goal.returns-in-Ok
returns-in-Ok g c = record {
  number = c.loop-number.number;
  pause = c.loop-number.pause;
  state = c.loop-number.body;
  begun = c.loop-number.cx;
  failed = c.loop-number.invariant.2;
  within = c.loop-number.invariant.1;
  found = _;
  state_new = c.body.new.self;
  ended = c.body.new.arg2;
  called = called_so g.F.FnMut _ _ _ _ _ _ _ c.in-Ok.is (record { shown = _; shows = refl; left = _; called = c.body.ensures; leaves = refl });
  ends = (refl, refl);
}

-- the pause behind it was refused
pub returns-in_err-sleep : goal.returns-in_err-sleep
returns-in_err-sleep g c = record {
  number = c.loop-number.number;
  pause = c.loop-number.pause;
  state = c.loop-number.body;
  begun = c.loop-number.cx;
  failed = c.loop-number.invariant.2;
  within = c.loop-number.invariant.1;
  found = _;
  state_new = c.body.new.self;
  ended = c.body.new.arg2;
  called = called_so g.F.FnMut _ _ _ _ _ _ _ c.in-Err.is (record { shown = _; shows = refl; left = _; called = c.body.ensures; leaves = refl });
  ends = inr (inr (_, c.in_err-sleep.ensures.answer, search rules));
}

-- a mark was shown in it
pub returns-then-is_some : goal.returns-then-is_some
returns-then-is_some g c =
    let shown = mark_of (λ shown. Sleeps g.X.Acts.reads g.X.Acts.reading g.X.Acts.time g.X.Scopes.token g.X.Acts.seat c.loop-number.pause c.body.new.arg2 c.sleep.new.self (Ok shown)) c.in_ok-sleep.field-0 (search rules) c.in_ok-sleep.ensures.answer in
    record {
      number = c.loop-number.number;
      pause = c.loop-number.pause;
      state = c.loop-number.body;
      begun = c.loop-number.cx;
      failed = c.loop-number.invariant.2;
      within = c.loop-number.invariant.1;
      found = _;
      state_new = c.body.new.self;
      ended = c.body.new.arg2;
      called = called_so g.F.FnMut _ _ _ _ _ _ _ c.in-Err.is (record { shown = _; shows = refl; left = _; called = c.body.ensures; leaves = refl });
      ends = inr (inl (shown.0, shown.1, refl));
    }

-- one try more has failed
pub loop-number-preserved : goal.loop-number-preserved
loop-number-preserved g c = (
  λ always. mut_next g.F.FnMut _ _ _ _ _ c.body.ensures refl (c.loop-number.invariant.0 always),
  search rules,
  more c.loop-number.invariant.2 (called_so g.F.FnMut _ _ _ _ _ _ _ c.in-Err.is (record { shown = _; shows = refl; left = _; called = c.body.ensures; leaves = refl })) (none_of (λ shown. Sleeps g.X.Acts.reads g.X.Acts.reading g.X.Acts.time g.X.Scopes.token g.X.Acts.seat c.loop-number.pause c.body.new.arg2 c.sleep.new.self (Ok shown)) c.in_ok-sleep.field-0 (search rules) c.in_ok-sleep.ensures.answer) (search rules),
)

-- it was the last
pub returns : goal.returns
returns g c = record {
  number = c.loop-number.number;
  pause = c.loop-number.pause;
  state = c.loop-number.body;
  begun = c.loop-number.cx;
  failed = c.loop-number.invariant.2;
  within = c.loop-number.invariant.1;
  found = c.body-2.result;
  state_new = c.body-2.new.self;
  ended = c.body-2.new.arg2;
  called = record { shown = _; shows = refl; left = _; called = c.body-2.ensures; leaves = refl };
  ends = last_try g.E.From.from_gives (λ old new slept. Sleeps g.X.Acts.reads g.X.Acts.reading g.X.Acts.time g.X.Scopes.token g.X.Acts.seat c.loop-number.pause old new slept) _ (search rules) c.body-2.result c.body-2.new.arg2;
}
