use Rattle.scope_script.specs.{realm_after, reply_to}
use Rattle.scope_script.proofs.Lemmas.{inr, refl}
use Rattle.scope_script.proofs.Answered.{retires}
use Rattle.scope_script.proofs.performing.commands.answer.Goals as goal

pub returns-in-Retire : goal.returns-in-Retire
returns-in-Retire g c = rw c.in-Retire.is (retires _ _ c.in-Retire.actor _ _ c.retired.ensures c.retire.ensures.0 c.retire.ensures.1)

pub returns-in-Ask : goal.returns-in-Ask
unfolding reply_to realm_after
returns-in-Ask g c = rw c.in-Ask.is (inr (record { reply = c.ask.ensures; realm = refl }))
