use Rattle.balkreyn.proofs.Words.{inl, inr, refl, rules}
use Rattle.balkreyn.proofs.act.limits.limited.Goals as goal

-- a cancel or a deadline came before a permit
pub returns-in-Err : goal.returns-in-Err
returns-in-Err g c = inr (inl (c.in-Err.mark, rw c.in-Err.is at c.in_ok-permit.ensures.answer, refl))

-- the body succeeded
pub returns-in-Ok-found : goal.returns-in-Ok-found
returns-in-Ok-found g c = inl (record {
  begun = c.awaited-waited.new.cx;
  waited = c.awaited-waited.ensures.sees;
  found = c.body-found.result;
  ran = record { lent = _; given = refl; back = _; left = refl; met = c.body-found.ensures };
  answers = search rules;
})

-- and here it failed
pub returns-in-Err-found : goal.returns-in-Err-found
returns-in-Err-found g c = inl (record {
  begun = c.awaited-waited.new.cx;
  waited = c.awaited-waited.ensures.sees;
  found = c.body-found.result;
  ran = record { lent = _; given = refl; back = _; left = refl; met = c.body-found.ensures };
  answers = search rules;
})
