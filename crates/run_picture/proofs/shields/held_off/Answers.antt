-- The shield held just where this says so.
use Rattle.std.specs.Prelude.{◌≡◌}
use Rattle.run_picture.specs.{ℕ, Cause, None, Option, Some, false, goes_on, option_map_or, true}
use Rattle.run_picture.proofs.Lemmas.{◌∙◌, ap, subst, sym}
use Rattle.run_picture.proofs.Shielded.{cancel_same, held_all, held_so, outside_same}
use Rattle.run_picture.proofs.shields.held_off.Goals as goal

pub returns-in_err-row-clause-all : goal.returns-in_err-row-clause-all
returns-in_err-row-clause-all c h s i x are is it =
    let held = held_all c.args.columns.now h s i x c.args.row.now are is it in
    let both : None ≡ Some held.number = sym c.in_err-row.was ∙ held.up in
    absurd cc

pub returns-in_err-around-clause-all : goal.returns-in_err-around-clause-all
returns-in_err-around-clause-all c h s i x are is it =
    let held = held_all c.args.columns.now h s i x c.args.row.now are is it in
    let both : None ≡ Some held.outside = sym c.in_err-around.was ∙ outside_same c.args.columns.now c.args.row.now x i held c.in_ok-row.field-0 c.in_ok-row.was c.scope_at.result c.scope_at.ensures in
    absurd cc

pub returns-in_err-place-clause-all : goal.returns-in_err-place-clause-all
returns-in_err-place-clause-all c h s i x are is it =
    let held = held_all c.args.columns.now h s i x c.args.row.now are is it in
    let both : ◌≡◌ {A = Option (ℕ × Cause)} None (Some (i, x)) = sym c.in_err-place.was ∙ cancel_same c.args.columns.now c.args.row.now x i held c.in_ok-row.field-0 c.in_ok-row.was c.scope_at.result c.scope_at.ensures c.in_ok-around.around c.in_ok-around.was in
    absurd cc

pub returns-then-goes_on-clause-so : goal.returns-then-goes_on-clause-so
returns-then-goes_on-clause-so c h s i x are is same =
    let place : c.in_ok-place.place ≡ i = ap (λ (o : Option (ℕ × Cause)). option_map_or (λ p. p.0) o 0) same in
    let goes = sym c.goes_on.ensures ∙ c.if-goes_on.true in
    held_so c.args.columns.now h s c.in_ok-row.field-0 i x c.args.row.now c.in_ok-around.around are is c.if-not-row.false c.in_ok-row.was (sym c.scope_at.ensures ∙ c.in_ok-around.was) (c.in_ok-place.was ∙ same) (subst (λ n. goes_on c.args.row.now n ≡ true) place goes)

pub returns-then-goes_on-clause-all : goal.returns-then-goes_on-clause-all
returns-then-goes_on-clause-all c h s i x are is it =
    let held = held_all c.args.columns.now h s i x c.args.row.now are is it in
    sym c.in_ok-place.was ∙ cancel_same c.args.columns.now c.args.row.now x i held c.in_ok-row.field-0 c.in_ok-row.was c.scope_at.result c.scope_at.ensures c.in_ok-around.around c.in_ok-around.was

pub returns-else-goes_on-clause-all : goal.returns-else-goes_on-clause-all
returns-else-goes_on-clause-all c h s i x are is it =
    let held = held_all c.args.columns.now h s i x c.args.row.now are is it in
    let cancel = cancel_same c.args.columns.now c.args.row.now x i held c.in_ok-row.field-0 c.in_ok-row.was c.scope_at.result c.scope_at.ensures c.in_ok-around.around c.in_ok-around.was in
    let same = sym c.in_ok-place.was ∙ cancel in
    let place : c.in_ok-place.place ≡ i = ap (λ (o : Option (ℕ × Cause)). option_map_or (λ p. p.0) o 0) same in
    let goes : goes_on c.args.row.now c.in_ok-place.place ≡ true = subst (λ n. goes_on c.args.row.now n ≡ true) (sym place) held.goes in
    let both : true ≡ false = sym goes ∙ (sym c.goes_on.ensures ∙ c.if-goes_on.false) in
    absurd cc
