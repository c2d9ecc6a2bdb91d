-- Each number since the base has its row.
use Rattle.std.specs.Prelude.{◌++◌, ◌+◌, ◌∷◌, ◌≡◌}
use Rattle.run_picture.specs.{[], IsScopeRow, None, ScopeRow, is_some, length, opening, slice_get}
use Rattle.run_picture.proofs.Lemmas.{◌∙◌, ap, arith, length-append, subst, sym}
use Rattle.run_picture.proofs.Existing.{opened_there, rows_more}
use Rattle.run_picture.proofs.columns.scope_rows.Goals as goal

pub unreachable-requires : goal.unreachable-requires
unreachable-requires g c =
    let h = g.R.Readings.history c.args.readings.now in
    let i = c.loop-index.index in
    let there = opened_there h i (omega arith) in
    let number : h.base.scopes + 1 + i ≡ c.retired_scopes-before.result + 1 + i = omega arith in
    let none : opening h (h.base.scopes + 1 + i) ≡ None = ap (opening h) number ∙ (sym c.opening.ensures ∙ c.in_default.is) in
    let some = ap is_some none in
    absurd (cc (there, some))

pub loop-index-preserved : goal.loop-index-preserved
loop-index-preserved g c =
    let h = g.R.Readings.history c.args.readings.now in
    let rows = c.loop-index.rows.items in
    let row = c.scope_row.result in
    let pushed : c.push.new.self.items ≡ rows ++ row ∷ [] = c.in_ok-push.ensures.items in
    let at : c.retired_scopes-before.result + 1 + c.loop-index.index ≡ h.base.scopes + 1 + length rows = omega (arith, c.loop-index.invariant.long) in
    let last : IsScopeRow h (h.base.scopes + 1 + length rows) row = subst (λ n. IsScopeRow h n row) at c.scope_row.ensures in
    let all = rows_more (λ i (x : ScopeRow). IsScopeRow h (h.base.scopes + 1 + i) x) rows row c.loop-index.invariant.each last in
    record {
      long = ap length pushed ∙ (length-append rows (row ∷ []) ∙ omega (arith, c.loop-index.invariant.long));
      each = λ i x there. all i x (ap (λ xs. slice_get xs i) (sym pushed) ∙ there);
    }
