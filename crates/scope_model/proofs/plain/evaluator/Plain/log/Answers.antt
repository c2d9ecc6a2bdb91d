-- Logs are short within the limits, and a scope that is there has one.
use Rattle.std.specs.Prelude.{◌+◌, ◌<◌, ◌^◌, ◌≡◌, ◌≤◌}
use Rattle.scope_model.specs.{ℕ, Words.History, IsWithin, LOAD_LIMIT, Words.Legal, Limits, entries, length}
use Rattle.scope_model.proofs.Words.{◌∙◌, arith, entries_small, entries_there, log_there_where, subst, sym}
use Rattle.scope_model.proofs.plain.evaluator.Plain.log.Goals as goal

short : (L M : Limits) (h : History) (s : ℕ) → M ≡ L → Legal L h → IsWithin L h → length (entries h s) + 1 < 2 ^ 32
short L M h s same legal within = entries_small L h s legal within (subst (λ (x : Limits). x.load ≤ LOAD_LIMIT) same M.load_in_range)

pub log-requires : goal.log-requires
log-requires c =
    let facts = c.limits-legal.ensures in
    rw c.view.ensures (omega (arith, short _ _ _ c.args.scope facts.limits facts.legal facts.within))

pub unreachable-requires : goal.unreachable-requires
unreachable-requires c =
    log_there_where _ c.args.scope c.requires (rw c.view.ensures at (sym c.in-Ok-None.ensures ∙ c.in-Ok-None.field-0-is))

pub returns-in-Ok-Some-clause-small : goal.returns-in-Ok-Some-clause-small
returns-in-Ok-Some-clause-small c =
    let facts = c.limits-legal.ensures in
    rw (entries_there _ _ _ (rw c.view.ensures at (sym c.in-Ok-Some.ensures ∙ c.in-Ok-Some.field-0-is))) (short _ _ _ c.args.scope facts.limits facts.legal facts.within)
