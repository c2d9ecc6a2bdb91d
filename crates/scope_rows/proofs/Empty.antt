-- No rows agree with a history of no events.
use Rattle.std.proofs.Common.{[], ℕ, ◌∙◌, ◌≡◌, None, Some, ap, length, refl, slice_get, sym}
use Rattle.scope_rows.specs.{AreRowsOf, Origin, RowTable, innermost, latest}

no_innermost : (b : Origin) (a : ℕ) → innermost (record { base = b; events = [] }) a ≡ None
unfolding innermost latest
no_innermost b a = refl

-- the rows of no scope and no task, on a base with the numbers before
pub rows_empty : (b : Origin) (t : RowTable) → t.scopes ≡ [] → t.tasks ≡ [] → t.main_innermost ≡ None → b.scopes ≡ t.scopes_before → b.tasks ≡ t.tasks_before → AreRowsOf (record { base = b; events = [] }) t
rows_empty b t no_scopes no_tasks no_inner scopes_are tasks_are = record {
  scopes_before = sym scopes_are;
  tasks_before = sym tasks_are;
  main = no_innermost b 0 ∙ sym no_inner;
  scope_count = ap length no_scopes;
  task_count = ap length no_tasks;
  scopes = λ i r at. let none : None ≡ Some r = ap (λ rows. slice_get rows i) (sym no_scopes) ∙ at in absurd cc;
  tasks = λ i r at. let none : None ≡ Some r = ap (λ rows. slice_get rows i) (sym no_tasks) ∙ at in absurd cc;
}
