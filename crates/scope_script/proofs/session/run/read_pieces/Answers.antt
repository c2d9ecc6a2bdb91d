use Rattle.scope_script.specs.{session_of}
use Rattle.scope_script.proofs.Lemmas.{Keeps-refl, rules}
use Rattle.scope_script.proofs.Progress.{begins_run, ends_tallied, goes_on, reads_none, stops_ending, stops_reading, stops_within}
use Rattle.scope_script.proofs.session.run.read_pieces.Goals as goal

pub reading-init : goal.reading-init
reading-init g c = record {
  run = λ L is. begins_run _ _ c.args.mode L _ is;
  room = c.requires.some;
  sent = c.requires.empty;
  reads = c.requires.reader;
  writes = c.requires.writer;
}

pub returns-in_default-clause-fault : goal.returns-in_default-clause-fault
returns-in_default-clause-fault g c =
    λ L is. stops_reading _ _ _ _ _ c.args.mode L _ (c.reading.invariant.run L is) (search rules)

pub returns-in-Ok-finish-clause-ok : goal.returns-in-Ok-finish-clause-ok
returns-in-Ok-finish-clause-ok g c =
    λ L is. ends_tallied _ _ _ _ _ c.args.mode L (session_of c.reading.script) _ _
    (reads_none _ _ _ _ _ c.args.mode L _ _ c.in-Ok.count c.if-count-eq0.true (c.reading.invariant.run L is) c.in-Ok.ensures.bytes)
    (c.in-Ok.ensures.end c.if-count-eq0.true)
    c.in-Ok-finish.ensures.ok
    c.finish.ensures.realm
    c.finish.ensures.tally

pub returns-in-Err-clause-fault : goal.returns-in-Err-clause-fault
returns-in-Err-clause-fault g c =
    λ L is. stops_ending _ _ _ _ _ c.args.mode L (session_of c.reading.script)
    (reads_none _ _ _ _ _ c.args.mode L _ _ c.in-Ok.count c.if-count-eq0.true (c.reading.invariant.run L is) c.in-Ok.ensures.bytes)
    c.in-Err.ensures.err

pub returns-in-Err-step-clause-fault : goal.returns-in-Err-step-clause-fault
returns-in-Err-step-clause-fault g c =
    λ L is. stops_within _ _ _ _ _ _ c.args.mode L (session_of c.reading.script) _ (c.reading.invariant.run L is) c.in-Ok.ensures.bytes c.in-Err-step.ensures.err

pub reading-preserved : goal.reading-preserved
reading-preserved g c = record {
  run = λ L is. goes_on _ _ _ _ _ _ c.args.mode L (session_of c.reading.script) (session_of c.step.new.script) _ (c.reading.invariant.run L is) c.in-Ok.ensures.bytes c.in-Ok-step.ensures.ok c.in-Ok-step.ensures.script;
  room = search rules;
  sent = c.in-Ok-step.ensures.sent.0;
  reads = search rules;
  writes = search rules;
}

pub returns-clause-fault : goal.returns-clause-fault
returns-clause-fault g c =
    λ L is. stops_reading _ _ _ _ _ c.args.mode L _ (c.reading.invariant.run L is) (Keeps-refl _)
