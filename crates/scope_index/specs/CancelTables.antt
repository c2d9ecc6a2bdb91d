-- What is kept of cancels: a row a scope of what the tree was told, an account a scope, and the moment.
-- Rows count from 1, and `before` scopes were numbered before them.
use Rattle.std.specs.Prelude.{[], ℕ, ◌++◌, ◌+◌, ◌-◌, ◌<◌, ◌^◌, ◌∷◌, ◌≡◌, ◌≢◌, ◌≤◌, Bool, List, None, Option, Some, if◌then◌else◌, is_some, length, nat_lt, slice_get, true}
use Rattle.scope_index.specs.Words.{CauseKind, Completion, HasRoom, JoinerStanding, Moments, SameButRoom, SameJoiner, ScopeNode, cancel_at, changed, counted, new_row, option_and_then, row, with_deadline, with_own}
use Rattle.std.specs.FinMap as map

pub record CancelTable : Type 0 where
  pub before : ℕ
  pub moment : ℕ
  pub nodes : List ScopeNode
  pub accounts : List JoinerStanding

-- the deadline, if it is still to come
abbrev pub to_come : ℕ → Option ℕ → Option ℕ
to_come now None = None
to_come now (Some deadline) = if nat_lt now deadline then Some deadline else None

-- what the index has of a row: its deadline, while it is still to come, and would be its own cancel
abbrev pub awaited : ℕ → ScopeNode → Option ℕ
awaited now t = if is_some t.own then None else to_come now t.deadline

-- the same of the row with this number
abbrev pub awaited_of : ℕ → List ScopeNode → ℕ → Option ℕ
awaited_of now nodes n = option_and_then (awaited now) (row nodes n)

abbrev pub IsIndexed : ℕ → List ScopeNode → Moments → Type 0
IsIndexed now nodes moments = (n : ℕ) → map.get moments n ≡ awaited_of now nodes n

-- there is an account for each row, the numbers fit 32 bits, and the index is that of the rows
pub record AreKept (before now : ℕ) (nodes : List ScopeNode) (accounts : List JoinerStanding) (moments : Moments) : Type 0 where
  pub rows : length accounts ≡ length nodes
  pub numbers : before + length nodes < 2 ^ 32
  pub indexed : IsIndexed now nodes moments

-- the scope has a row
pub record HasRow (t : CancelTable) (s : ℕ) : Type 0 where
  pub after : t.before + 1 ≤ s
  pub within : s ≤ t.before + length t.nodes

-- the account of the scope
abbrev pub account_at : CancelTable → ℕ → Option JoinerStanding
account_at t s = slice_get t.accounts (s - t.before - 1)

-- the table with the scope's own cancel, if it has none yet
abbrev pub cancelled : CancelTable → ℕ → CauseKind → ℕ → CancelTable
cancelled t s kind place = record t { nodes = changed t.nodes (s - t.before) (with_own (cancel_at place (s - t.before) kind)) }

-- the table with the scope's deadline set so, or taken away
abbrev pub deadlined : CancelTable → ℕ → Option ℕ → CancelTable
deadlined t s deadline = record t { nodes = changed t.nodes (s - t.before) (with_deadline deadline) }

-- the table with one scope more, opened at the place, which has no deadline
abbrev pub with_scope : CancelTable → Option ℕ → Bool → ℕ → JoinerStanding → CancelTable
with_scope t inside shield place account = record t { nodes = t.nodes ++ new_row inside shield place ∷ []; accounts = t.accounts ++ account ∷ [] }

-- the accounts, and one more behind them
abbrev pub AreOneMore : List JoinerStanding → List JoinerStanding → Type 0
AreOneMore old new = (account : JoinerStanding) × (new ≡ old ++ account ∷ [])

-- the account with one completion more
pub record IsCounted (old new : JoinerStanding) (d : Completion) : Type 0 where
  pub totals : new.totals ≡ counted old.totals d
  pub seen : old.has_closure ≡ true → new.seen ≡ old.seen ++ d ∷ []
  pub joiner : SameJoiner old new
  pub room : old.room ≤ new.room + 1

-- the tables differ in the scope's account alone, which became another by the relation
pub record IsAccountStep (old new : CancelTable) (s : ℕ) (R : JoinerStanding → JoinerStanding → Type 0) : Type 0 where
  pub before : new.before ≡ old.before
  pub moment : new.moment ≡ old.moment
  pub nodes : new.nodes ≡ old.nodes
  pub length : length new.accounts ≡ length old.accounts
  pub others : (i : ℕ) → i ≢ s - old.before - 1 → slice_get new.accounts i ≡ slice_get old.accounts i
  pub here : (a : JoinerStanding) → slice_get new.accounts (s - old.before - 1) ≡ Some a → (was : JoinerStanding) × ((account_at old s ≡ Some was) × R was a)

-- there is room for so many more completions of the scope, and nothing else is another
abbrev pub HasReserved : CancelTable → CancelTable → ℕ → ℕ → Type 0
HasReserved old new s more = IsAccountStep old new s (λ was a. SameButRoom was a × HasRoom a more)

-- the scope's account has one completion more
abbrev pub HasCounted : CancelTable → CancelTable → ℕ → Completion → Type 0
HasCounted old new s d = IsAccountStep old new s (λ was a. IsCounted was a d)
