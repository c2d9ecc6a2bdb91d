use Rattle.balkreyn.proofs.Words.{inr, refl, rules}
use Rattle.balkreyn.proofs.Acted.{slept}
use Rattle.balkreyn.proofs.act.contexts.CxActs.sleep.Goals as goal

-- the moment until which it sleeps is that of the first reading and the milliseconds
pub returns-clause-answer : goal.returns-clause-answer
returns-clause-answer g c = record {
  begun = c.now.new.self;
  now = c.now.result;
  read = c.now.ensures.read;
  last = c.wait_by-found.new.time;
  slept = slept _ (λ clock. clock.last) _ _ _ _ _ _ (search rules) c.wait_by-found.result c.wait_by-found.ensures.answer (λ none. c.wait_by-found.ensures.slept none refl (inr refl));
  shows = c.wait_by-found.ensures.shows;
}
