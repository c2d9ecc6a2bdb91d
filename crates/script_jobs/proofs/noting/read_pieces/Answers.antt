use Rattle.script_jobs.specs.{Replies, plain_of}
use Rattle.script_jobs.proofs.Words.{◌∙◌, Keeps-refl, begins_run, ends_tallied, goes_on, reads_none, refl, rules, stops_ending, stops_reading, stops_within}
use Rattle.script_jobs.proofs.Runs.{replayed}
use Rattle.script_jobs.proofs.noting.read_pieces.Goals as goal

pub reading-init : goal.reading-init
reading-init g c = record {
  run = λ L is. begins_run _ _ Replies L _ is;
  room = c.requires.some;
  replied = c.requires.replies;
  reads = c.requires.reader;
  writes = c.requires.writer;
  says = refl;
}

pub returns-in_default-clause-fault : goal.returns-in_default-clause-fault
returns-in_default-clause-fault g c =
    λ L is. stops_reading _ _ _ _ _ Replies L _ (c.reading.invariant.run L is) (search rules)

pub returns-in-Ok-finish-clause-ok : goal.returns-in-Ok-finish-clause-ok
returns-in-Ok-finish-clause-ok g c =
    λ L is. replayed L _ _ _ _ _ _ c.count.result
    (ends_tallied _ _ _ _ _ Replies L (plain_of c.reading.script) _ _
    (reads_none _ _ _ _ _ Replies L _ _ c.in-Ok.count c.if-count-eq0.true (c.reading.invariant.run L is) c.in-Ok.ensures.bytes)
    (c.in-Ok.ensures.end c.if-count-eq0.true)
    c.in-Ok-finish.ensures.wrote
    c.finish.ensures.realm
    c.in-Ok-finish.ensures.tally)
    c.count.ensures

pub returns-in-Err-clause-fault : goal.returns-in-Err-clause-fault
returns-in-Err-clause-fault g c =
    λ L is. stops_ending _ _ _ _ _ Replies L (plain_of c.reading.script)
    (reads_none _ _ _ _ _ Replies L _ _ c.in-Ok.count c.if-count-eq0.true (c.reading.invariant.run L is) c.in-Ok.ensures.bytes)
    c.in-Err.ensures.wrote_part

pub returns-in-Err-step-clause-fault : goal.returns-in-Err-step-clause-fault
returns-in-Err-step-clause-fault g c =
    λ L is. stops_within _ _ _ _ _ _ Replies L (plain_of c.reading.script) _ (c.reading.invariant.run L is) c.in-Ok.ensures.bytes c.in-Err-step.ensures.wrote_part

pub reading-preserved : goal.reading-preserved
reading-preserved g c = record {
  run = λ L is. goes_on _ _ _ _ _ _ Replies L (plain_of c.reading.script) (plain_of c.step.new.script) _ (c.reading.invariant.run L is) c.in-Ok.ensures.bytes c.in-Ok-step.ensures.wrote c.in-Ok-step.ensures.plain;
  room = search rules;
  replied = c.in-Ok-step.ensures.sent.0;
  reads = search rules;
  writes = search rules;
  says = c.in-Ok-step.ensures.sent.2 ∙ c.reading.invariant.says;
}

pub returns-clause-fault : goal.returns-clause-fault
returns-clause-fault g c =
    λ L is. stops_reading _ _ _ _ _ Replies L _ (c.reading.invariant.run L is) (Keeps-refl _)
