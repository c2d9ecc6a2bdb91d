use Rattle.balkreyn.proofs.Words.{inr, refl, rules}
use Rattle.balkreyn.proofs.act.blocks.bound.Goals as goal

-- the key was bound, the body came back, and the unbind was refused
pub returns-in_err-unbind : goal.returns-in_err-unbind
returns-in_err-unbind g c = inr (record {
  begun = c.bind.new.self;
  ended = c.body-found.new.arg2;
  found = c.body-found.result;
  unbound = c.unbind.result;
  bound = search rules;
  ran = record { lent = _; given = refl; back = _; left = refl; met = c.body-found.ensures };
  taken = c.unbind.ensures;
  answers = search rules;
})

-- and here it was not
pub returns : goal.returns
returns g c = inr (record {
  begun = c.bind.new.self;
  ended = c.body-found.new.arg2;
  found = c.body-found.result;
  unbound = c.unbind.result;
  bound = search rules;
  ran = record { lent = _; given = refl; back = _; left = refl; met = c.body-found.ensures };
  taken = c.unbind.ensures;
  answers = search rules;
})
