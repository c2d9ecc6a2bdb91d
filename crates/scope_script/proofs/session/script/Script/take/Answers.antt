use Rattle.scope_script.specs.{session_of}
use Rattle.scope_script.proofs.Lemmas.{◌∙◌, refl}
use Rattle.scope_script.proofs.Taken.{all_replied, leaves_rest, stops_taking, takes_line, takes_none}
use Rattle.scope_script.proofs.session.script.Script.take.Goals as goal

pub loop-line-init : goal.loop-line-init
loop-line-init g c = takes_none c.args.mode (session_of c.args.self.now) c.args.bytes.now c.args.replies.now.items

pub loop-line-preserved : goal.loop-line-preserved
loop-line-preserved g c =
    takes_line c.args.mode _ (session_of c.loop-line.self) (session_of c.answer.new.self) _ c.loop-line.rest.now c.in-Some.line.now c.in-Some.others.now _ c.loop-line.replies.items _ c.end_with.new.line
    c.loop-line.invariant c.in-Some.ensures c.end_with.ensures.said c.in-Ok.ensures.realm c.in-Ok.ensures.tally (c.in-Ok.ensures.begun ∙ c.end_with.ensures.next) c.in-Ok.ensures.ok

pub returns-in-Err-clause-err : goal.returns-in-Err-clause-err
returns-in-Err-clause-err g c =
    stops_taking c.args.mode _ (session_of c.loop-line.self) _ c.loop-line.rest.now _ c.loop-line.replies.items _ c.loop-line.invariant c.in-Err.ensures.err

pub returns-clause-script : goal.returns-clause-script
returns-clause-script g c =
    leaves_rest c.args.mode _ (session_of c.loop-line.self) _ _ c.loop-line.rest.now _ _ c.loop-line.invariant c.in_default.ensures refl refl c.extend.ensures

pub returns-clause-ok : goal.returns-clause-ok
returns-clause-ok g c =
    all_replied c.args.mode _ (session_of c.loop-line.self) _ c.loop-line.rest.now _ _ c.loop-line.invariant c.in_default.ensures
