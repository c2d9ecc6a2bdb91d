-- An index without deadlines has none that is due.
use Rattle.std.proofs.Common.{ℕ, ◌∙◌, ◌≡◌, ap, false, subst, sym}
use Rattle.deadline_core.specs.{IfNone, Moments.Moments, is_due, is_past, nat_cmp}
use Rattle.std.specs.FinMap as map
use Rattle.deadline_core.proofs.order.DeadlineOrder.pop_expired.Goals as goal

none_due : (m : Moments) (now scope : ℕ) → m ≡ map.empty → is_due m now scope ≡ false
none_due m now scope e = ap (λ n. is_due n now scope) e ∙ ap (is_past now) (map.get-empty nat_cmp scope)

pub returns-in_err-deadline-clause-none : goal.returns-in_err-deadline-clause-none
returns-in_err-deadline-clause-none c =
    subst (λ r. IfNone r ((scope : ℕ) → is_due c.args.self.now c.args.now scope ≡ false)) (sym c.from_residual.ensures) (λ scope. none_due c.args.self.now c.args.now scope c.in_err-deadline.ensures.none)
