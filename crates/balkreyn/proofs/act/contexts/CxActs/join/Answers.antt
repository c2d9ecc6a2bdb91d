use Rattle.balkreyn.proofs.act.contexts.CxActs.join.Goals as goal

pub returns-clause-answer : goal.returns-clause-answer
returns-clause-answer g c = record { last = c.join_by-found.new.time; joins = c.join_by-found.ensures.answer }
