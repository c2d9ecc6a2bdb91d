-- What a caller has, whose parts are kept of one history: rows, lists and the place of a join.
use Rattle.std.proofs.Common.{ℕ, ◌∙◌, ◌≡◌, Option, ap, arith, is_some, length, refl, subst, sym, true}
use Rattle.scope_rows.proofs.Altering.{altered_length}
use Rattle.scope_index.specs.{AreCancelsOf, AreForksOf, AreRowsOf, CancelTable, ForkTable.ForkTable, ForkedTasks, HasForks, HasJoined, HasRow, HasScope, History, IsSome, Legal, Limits, RowTable, ScopeRow, joined, option_and_then}
use Rattle.scope_index.specs.{place_of, with_forks}
use Rattle.scope_index.proofs.Words.{IsOpened, joined_is_some, joined_opened, opened_numbered, scope_at, scope_row_is}
use Rattle.scope_index.proofs.CancelReadings.{has_row}

-- an opened scope has a list
pub opened_has_forks : (h : History) (t : ForkTable) (s : ℕ) → AreForksOf h t → IsOpened h s → HasForks t s
opened_has_forks h t s are it = opened_numbered h t.before t.lists s are.numbered are.count it

-- a scope that has a row has a list, if both are of one history
pub has_forks : (h : History) (rows : RowTable) (t : ForkTable) (s : ℕ) → AreRowsOf h rows → AreForksOf h t → HasScope rows s → HasForks t s
has_forks h rows t s those are has = (omega (arith, has.0, those.scopes_before, are.numbered), omega (arith, has.1, those.scopes_before, those.scope_count, are.numbered, are.count))

-- a change of one list leaves how many there are, and their numbers
pub same_scopes : (t u : ForkTable) (s : ℕ) (f : ForkedTasks → ForkedTasks) → u ≡ with_forks t s f → (u.before ≡ t.before) × (length u.lists ≡ length t.lists)
same_scopes t u s f is =
    subst (λ (v : ForkTable). (v.before ≡ t.before) × (length v.lists ≡ length t.lists)) (sym is) (refl, altered_length f t.lists (place_of t.before s))

-- so each scope has a list that had one
pub still_has_forks : (t u : ForkTable) (s n : ℕ) (f : ForkedTasks → ForkedTasks) → u ≡ with_forks t s f → HasForks t n → HasForks u n
still_has_forks t u s n f is has = let same = same_scopes t u s f is in (omega (arith, same.0, has.0), omega (arith, same.0, same.1, has.1))

-- the row of a joined scope has the place of its join
pub has_joined : (L : Limits) (h : History) (t : RowTable) (s : ℕ) → Legal L h → AreRowsOf h t → joined h s ≡ true → HasJoined t s
has_joined L h t s legal are so =
    let it = scope_at h t s are (joined_opened L h s legal so) in
    let placed : is_some it.row.joined ≡ true = ap is_some (sym it.says.joined) ∙ (sym (joined_is_some h s) ∙ so) in
    subst (λ (o : Option ScopeRow). IsSome (option_and_then (λ (r : ScopeRow). r.joined) o)) (sym (scope_row_is h t s it)) placed

-- what the outcome of a joined scope wants of the parts
pub record HasOutcome (t : RowTable) (u : CancelTable) (v : ForkTable) (s : ℕ) : Type 0 where
  pub joined : HasJoined t s
  pub row : HasRow u s
  pub list : HasForks v s

-- parts that are kept of one history have it
pub has_outcome : (L : Limits) (h : History) (t : RowTable) (u : CancelTable) (v : ForkTable) (s : ℕ) → Legal L h → AreRowsOf h t → AreCancelsOf h u → AreForksOf h v → joined h s ≡ true → HasOutcome t u v s
has_outcome L h t u v s legal rows cancels forks so =
    let it = joined_opened L h s legal so in
    record { joined = has_joined L h t s legal rows so; row = has_row h u s cancels it; list = opened_has_forks h v s forks it }
