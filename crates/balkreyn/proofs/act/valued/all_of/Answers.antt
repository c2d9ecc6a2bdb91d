use Rattle.balkreyn.proofs.Words.{inr, rules}
use Rattle.balkreyn.proofs.act.valued.all_of.Goals as goal

-- the jobs ran, and the close was refused
pub returns-in_err-close : goal.returns-in_err-close
returns-in_err-close g c = inr (record {
  scope = c.in_ok-scope.scope;
  begun = c.entered.new.cx;
  ended = c.gathered-found.new.cx;
  found = c.gathered-found.result;
  closed = c.close.result;
  opened = c.in_ok-scope.ensures;
  ran = c.gathered-found.ensures;
  shut = c.close.ensures;
  answers = search rules;
})

-- and here it was not
pub returns : goal.returns
returns g c = inr (record {
  scope = c.in_ok-scope.scope;
  begun = c.entered.new.cx;
  ended = c.gathered-found.new.cx;
  found = c.gathered-found.result;
  closed = c.close.result;
  opened = c.in_ok-scope.ensures;
  ran = c.gathered-found.ensures;
  shut = c.close.ensures;
  answers = search rules;
})
