-- What counting a completion makes of the account, and what may be asked of it then.
use Rattle.std.proofs.Common.{[], ℕ, ◌++◌, ◌+◌, ◌-◌, ◌<◌, ◌∙◌, ◌∷◌, ◌≡◌, ◌≤◌, Bool, List, Some, ap, arith, cond, length, refl, slice_get, subst, sym}
use Rattle.scope_index.specs.{CancelTable, Completion, HasCounted, HasRow, IfSome, IsCompleted, IsCounted, IsLatest, Joiner, JoinerStanding, StandsFor, TASK_LIMIT, Totals, account_at, cancelled, counted, fires}
use Rattle.scope_index.proofs.Words.{some_same, stands-push}

-- the account, before the completion was counted
pub record CountedFrom (old : CancelTable) (s : ℕ) (d : Completion) (a : JoinerStanding) : Type 0 where
  pub was : JoinerStanding
  pub is : account_at old s ≡ Some was
  pub by : IsCounted was a d

pub counted_from : (old mid : CancelTable) (s : ℕ) (d : Completion) (a : JoinerStanding) → HasCounted old mid s d → account_at mid s ≡ Some a → CountedFrom old s d a
counted_from old mid s d a step at =
    let from = step.here a (ap (λ b. slice_get mid.accounts (s - b - 1)) (sym step.before) ∙ at) in
    record { was = from.0; is = from.1.0; by = from.1.1 }

-- the table has the rows that it had
pub counted_row : (old mid : CancelTable) (s n : ℕ) (d : Completion) → HasCounted old mid s d → HasRow old n → HasRow mid n
counted_row old mid s n d step has =
    let rows = ap length step.nodes in
    record { after = omega (arith, has.after, step.before); within = omega (arith, has.within, step.before, rows) }

pub counted_latest : (old mid : CancelTable) (s place : ℕ) (d : Completion) → HasCounted old mid s d → IsLatest old.nodes place → IsLatest mid.nodes place
counted_latest old mid s place d step latest = subst (λ ts. IsLatest ts place) (sym step.nodes) latest

one_more : (t : Totals) (d : Completion) → (counted t d).completions ≡ t.completions + 1
unfolding counted
one_more t d = refl

-- it counts no more than the limit
pub few_counted : (old mid : CancelTable) (s : ℕ) (d : Completion) (a : JoinerStanding) → HasCounted old mid s d → account_at mid s ≡ Some a → IfSome (account_at old s) (λ x. x.totals.completions < TASK_LIMIT) → a.totals.completions ≤ TASK_LIMIT
few_counted old mid s d a step at few =
    let from = counted_from old mid s d a step at in
    let was = subst (λ o. IfSome o (λ x. x.totals.completions < TASK_LIMIT)) from.is few in
    let count = ap (λ (t : Totals). t.completions) from.by.totals ∙ one_more from.was.totals d in
    omega (arith, was, count)

-- what it answers is the joiner's answer at the completion
pub fires_counted : (old mid : CancelTable) (s : ℕ) (d : Completion) (a : JoinerStanding) (b : Bool) → HasCounted old mid s d → account_at mid s ≡ Some a → ((list : List Completion) → StandsFor a list → b ≡ fires a.policy list)
    → (x : JoinerStanding) (list : List Completion) → account_at old s ≡ Some x → StandsFor x list → b ≡ fires x.policy (list ++ d ∷ [])
fires_counted old mid s d a b step at says x list is stands =
    let from = counted_from old mid s d a step at in
    let one : from.was ≡ x = some_same _ _ (sym from.is ∙ is) in
    let then = stands-push from.was a list d from.by.totals from.by.seen from.by.joiner (subst (λ w. StandsFor w list) (sym one) stands) in
    says (list ++ d ∷ []) then ∙ ap (λ p. fires p (list ++ d ∷ [])) (from.by.joiner.policy ∙ ap (λ (w : JoinerStanding). w.policy) one)

-- it is counted, and cancels the scope if that answer is yes
pub completed_so : (old mid new : CancelTable) (s place : ℕ) (d : Completion) (a : JoinerStanding) (b answer : Bool) → HasCounted old mid s d → account_at mid s ≡ Some a → ((list : List Completion) → StandsFor a list → answer ≡ fires a.policy list) → answer ≡ b
    → new ≡ cond b (cancelled mid s Joiner place) mid → IsCompleted old new s d place
completed_so old mid new s place d a b answer step at says same is = record {
  counted_one = mid;
  fired = b;
  counted = step;
  fires = fires_counted old mid s d a b step at (λ list stands. sym same ∙ says list stands);
  is = is;
}
