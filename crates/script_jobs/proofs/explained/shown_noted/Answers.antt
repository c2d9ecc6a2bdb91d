use Rattle.script_jobs.specs.{ℕ, IsShown, List, count_of_script, realm_of_script, stamps_of_script, string_bytes}
use Rattle.script_jobs.proofs.Words.{◌∙◌, ap, subst}
use Rattle.script_jobs.proofs.explained.shown_noted.Goals as goal

pub returns-in-Ok-shown_of_script-clause-ok : goal.returns-in-Ok-shown_of_script-clause-ok
returns-in-Ok-shown_of_script-clause-ok g c = record {
  script = c.in-Ok.script.items;
  read = c.in-Ok.ensures.ok.0;
  all = c.in-Ok.ensures.ok.1;
  is = subst (λ (b : List ℕ). IsShown c.args.view c.args.limits (realm_of_script c.args.limits b).history (stamps_of_script c.args.limits b) (string_bytes c.in-Ok-shown_of_script.shown.text)) c.deref-2.ensures.value c.in-Ok-shown_of_script.ensures.text;
  counted = c.in-Ok-shown_of_script.ensures.count ∙ ap (count_of_script c.args.limits) c.deref-2.ensures.value;
}
