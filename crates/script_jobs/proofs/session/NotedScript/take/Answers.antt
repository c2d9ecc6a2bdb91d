use Rattle.script_jobs.specs.{Begun.Begun, Replies, kept, line_said, plain_of}
use Rattle.script_jobs.proofs.Words.{◌∙◌, all_replied, ap, leaves_rest, none_kept, refl, stops_taking, takes_line, takes_none}
use Rattle.script_jobs.proofs.Growing.{plain_begun, plain_said}
use Rattle.script_jobs.proofs.session.NotedScript.take.Goals as goal

pub loop-line-init : goal.loop-line-init
loop-line-init g c = takes_none Replies (plain_of c.args.self.now) c.args.bytes.now c.args.replies.now.items

pub loop-line-preserved : goal.loop-line-preserved
loop-line-preserved g c =
    takes_line Replies _ (plain_of c.loop-line.self) (plain_of c.answer.new.self) _ c.loop-line.rest.now c.in-Some.line.now c.in-Some.others.now _ c.loop-line.replies.items _ (line_said c.extend.new.self.first)
    c.loop-line.invariant c.in-Some.ensures
    (ap (λ (k : Begun). line_said k.first) c.extend.ensures.grown ∙ plain_said c.loop-line.self.begun c.in-Some.line.now c.extend.ensures.within)
    c.in-Ok.ensures.realm c.in-Ok.ensures.tally (ap (λ (k : Begun). kept k.first) c.in-Ok.ensures.begun ∙ none_kept) c.in-Ok.ensures.replies

pub returns-in-Err-clause-replies_part : goal.returns-in-Err-clause-replies_part
returns-in-Err-clause-replies_part g c =
    stops_taking Replies _ (plain_of c.loop-line.self) _ c.loop-line.rest.now _ c.loop-line.replies.items _ c.loop-line.invariant c.in-Err.ensures.err

pub returns-clause-plain : goal.returns-clause-plain
returns-clause-plain g c =
    leaves_rest Replies _ (plain_of c.loop-line.self) _ _ c.loop-line.rest.now _ _ c.loop-line.invariant c.in_default.ensures refl refl
    (ap (λ (k : Begun). kept k.first) c.extend-2.ensures.grown ∙ plain_begun c.loop-line.self.begun c.loop-line.rest.now c.extend-2.ensures.within)

pub returns-clause-replies : goal.returns-clause-replies
returns-clause-replies g c =
    all_replied Replies _ (plain_of c.loop-line.self) _ c.loop-line.rest.now _ _ c.loop-line.invariant c.in_default.ensures
