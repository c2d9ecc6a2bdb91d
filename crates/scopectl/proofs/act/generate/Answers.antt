use Rattle.scopectl.specs.{ℕ, Appends, AppendsPart, IsScript, Memory, Write, string_bytes}
use Rattle.scopectl.proofs.Words.{inr, subst}
use Rattle.scopectl.proofs.act.generate.Goals as goal

pub returns-in-Ok-clause-done : goal.returns-in-Ok-clause-done
returns-in-Ok-clause-done g c = λ e. (
  string_bytes c.in-Ok.text,
  subst (λ (n : ℕ). IsScript n (string_bytes c.in-Ok.text)) c.unwrap_or-2.ensures c.in-Ok.ensures,
  subst (Appends _ _) c.deref.ensures (c.tell.ensures.done e),
)

pub returns-in-Ok-clause-fault : goal.returns-in-Ok-clause-fault
returns-in-Ok-clause-fault g c = λ e. inr (
  string_bytes c.in-Ok.text,
  subst (λ (n : ℕ). IsScript n (string_bytes c.in-Ok.text)) c.unwrap_or-2.ensures c.in-Ok.ensures,
  subst (AppendsPart _ _) c.deref.ensures (c.tell.ensures.fault e),
  c.tell.ensures.failed e,
)

pub returns-in-Ok-clause-named : goal.returns-in-Ok-clause-named
returns-in-Ok-clause-named g c = λ e. record { fault = Write; came = c.tell.ensures.failed e; line = c.tell.ensures.named e }

pub returns-in-Err-clause-named : goal.returns-in-Err-clause-named
returns-in-Err-clause-named g c = λ e. record { fault = Memory; came = c.requires; line = c.fail.ensures.named }
