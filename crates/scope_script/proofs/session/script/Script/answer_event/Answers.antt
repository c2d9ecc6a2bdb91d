-- An event that is no join is answered as its line is.
use Rattle.std.proofs.Common.{[], ◌++◌, ◌∷◌, ◌≡◌, OnOk}
use Rattle.scope_script.specs.{Reply, reply_text, shown, with_reply}
use Rattle.scope_script.proofs.Lemmas.{on_ok_weaker, refl, subst}
use Rattle.scope_script.proofs.Answered.{accepted_after, accepted_counted, accepted_said, refused_said}
use Rattle.scope_script.proofs.session.script.Script.answer_event.Goals as goal

pub returns-in-Ok-clause-realm : goal.returns-in-Ok-clause-realm
returns-in-Ok-clause-realm g c = on_ok_weaker c.tell_event.result (λ u. accepted_after _ _ c.args.event.now c.in-Ok.told c.requires c.in-Ok.ensures) c.tell_event.ensures.ok

pub returns-in-Ok-clause-tally : goal.returns-in-Ok-clause-tally
returns-in-Ok-clause-tally g c = on_ok_weaker c.tell_event.result (λ u. accepted_counted _ _ _ c.args.event.now c.in-Ok.told c.requires c.in-Ok.ensures) c.tell_event.ensures.ok

pub returns-in-Ok-clause-ok : goal.returns-in-Ok-clause-ok
returns-in-Ok-clause-ok g c =
    subst (λ (r : Reply). OnOk c.tell_event.result (c.tell_event.new.replies.items ≡ c.args.replies.now.items ++ shown c.args.mode (reply_text r ++ 10 ∷ [])))
    (accepted_said _ _ c.args.event.now c.in-Ok.told c.requires c.in-Ok.ensures) c.tell_event.ensures.ok

pub returns-in_default : goal.returns-in_default
returns-in_default g c =
    let done = refused_said _ _ c.args.event.now c.in-Err.refusal c.requires c.in_default.not-Memory c.in-Err.ensures in
    record {
      realm = on_ok_weaker c.tell.result (λ u. done.realm) c.tell.ensures.ok;
      tally = on_ok_weaker c.tell.result (λ u. subst (λ (r : Reply). c.with_reply-self.result ≡ with_reply c.args.self.now.tally r) done.reply c.with_reply-self.ensures) c.tell.ensures.ok;
      begun = refl;
      ok = subst (λ (r : Reply). OnOk c.tell.result (c.tell.new.replies.items ≡ c.args.replies.now.items ++ shown c.args.mode (reply_text r ++ 10 ∷ []))) done.reply c.tell.ensures.ok;
      err = c.tell.ensures.err;
    }
