use Rattle.balkreyn.proofs.Words.{inr, refl}
use Rattle.balkreyn.proofs.Acted.{heard}
use Rattle.balkreyn.proofs.act.contexts.CxActs.wait_rung.Goals as goal

-- what the context's wait did
pub returns-clause-answer : goal.returns-clause-answer
returns-clause-answer g c = record {
  last = c.wait_by-found.new.time;
  heard = heard _ (λ clock. clock.last) _ _ _ _ c.wait_by-found.result c.wait_by-found.ensures.answer (λ none. c.wait_by-found.ensures.passed_all none (inr (inr refl)));
  shows = c.wait_by-found.ensures.shows;
}
