-- Of a task that was never forked nothing is said.
use Rattle.std.proofs.Common.{ℕ, ◌+◌, ◌∙◌, ◌≡◌, ◌≢◌, ◌⊎◌, Bool, None, ap, arith, false, inl, inr, refl, sym, true}
use Rattle.scope_rows.specs.{History, Legal, Limits, Words.finished, closed, forking, innermost, tasks}
use Rattle.scope_rows.proofs.Words.{IsActor, IsForked, false_from_ne_true, finished_forked, forked_after, innermost_is_none, owners_act, running_forked}

-- the next number was given to no task
pub next_unforked : (h : History) → IsForked h (tasks h + 1) → ⊥
next_unforked h it = let number = forked_after h (tasks h + 1) it.forked it.is in absurd (omega (arith, number.1, number.2))

-- who acts is main, or was forked
pub actor_split : (h : History) (a : ℕ) → IsActor h a → (a ≡ 0) ⊎ IsForked h a
actor_split h a acts = elim acts [ inl main ↦ inl main | inr runs ↦ inr (running_forked h a runs) ]

closed_by : (b : Bool) → (b ≡ false → ⊥) → b ≡ true
closed_by true not = refl
closed_by false not = absurd (not refl)

-- in a legal history what is neither main nor a forked task has no innermost scope
pub unforked_innermost : (L : Limits) (h : History) (a : ℕ) → Legal L h → a ≢ 0 → (IsForked h a → ⊥) → innermost h a ≡ None
unforked_innermost L h a legal other unforked =
    innermost_is_none h a
    (λ t o is by. closed_by (closed h t)
    (λ unclosed. elim (actor_split h o.actor (owners_act L h t o legal is unclosed)) [
      | inl main ↦ other (sym by ∙ main)
      | inr forked ↦ unforked (record { forked = forked.forked; is = ap (forking h) (sym by) ∙ forked.is })
    ]))

-- nor has it finished
pub unforked_unfinished : (L : Limits) (h : History) (k : ℕ) → Legal L h → (IsForked h k → ⊥) → finished h k ≡ false
unforked_unfinished L h k legal unforked = false_from_ne_true (finished h k) (λ so. unforked (finished_forked L h k legal so))
