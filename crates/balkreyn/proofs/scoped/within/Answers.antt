use Rattle.balkreyn.proofs.Words.{Ok, inr, refl, rules, true}
use Rattle.balkreyn.proofs.scoped.within.Goals as goal

-- the scope was opened, the body came back, and the close was refused
pub returns-in_err-verdict : goal.returns-in_err-verdict
returns-in_err-verdict g c = inr (record {
  scope = c.in_ok-scope.scope;
  begun = c.open_scope.new.self;
  ended = c.body-found.new.arg2;
  found = c.body-found.result;
  closed = c.close_opened.result;
  opened = c.in_ok-scope.ensures;
  ran = record { lent = _; given = refl; back = _; left = refl; met = c.body-found.ensures };
  shut = c.close_opened.ensures;
  owed = true;
  told = refl;
  answers = search rules;
})

-- and here it was not
pub returns : goal.returns
returns g c = inr (record {
  scope = c.in_ok-scope.scope;
  begun = c.open_scope.new.self;
  ended = c.body-found.new.arg2;
  found = c.body-found.result;
  closed = Ok c.in_ok-verdict.verdict;
  opened = c.in_ok-scope.ensures;
  ran = record { lent = _; given = refl; back = _; left = refl; met = c.body-found.ensures };
  shut = c.in_ok-verdict.ensures;
  owed = true;
  told = refl;
  answers = c.settled.ensures;
})
