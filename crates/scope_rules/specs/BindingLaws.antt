-- What holds of bindings in every legal history, in the words of actors, forks and openings.
use Rattle.std.specs.Prelude.{[], ℕ, ◌++◌, ◌+◌, ◌<◌, ◌↔◌, ◌∷◌, ◌≡◌, ◌≤◌, ◌⊎◌, IsTrue, Some, false, length, slice_get, take}
use Rattle.scope_rules.specs.Words.{Bind, Binding, Forking, Limits, Opening}
use Rattle.scope_rules.specs.{Bindings.bindings, Bindings.bound_as_opened, Bindings.first_stack, Bindings.holds_last, Bindings.stack, History.History, History.before, History.forking, History.opening, Legal.Legal, Scopes.closed}

-- a task sees what its forker saw at the fork, then its own pairs
abbrev pub TaskSeesForker : Type 0
TaskSeesForker = (L : Limits) (h : History) (a : ℕ) (f : Forking) → Legal L h → forking h a ≡ Some f → bindings h a ≡ bindings (before h f.place) f.actor ++ stack h a

-- main sees its own pairs alone
abbrev pub MainSeesOwn : Type 0
MainSeesOwn = (h : History) → bindings h 0 ≡ stack h 0

-- the test of a fork says that its actor sees what it saw at the opening
abbrev pub BoundAsOpened : Type 0
BoundAsOpened = (L : Limits) (h : History) (s : ℕ) (o : Opening) → Legal L h → opening h s ≡ Some o → IsTrue (bound_as_opened h o.actor s) ↔ (bindings h o.actor ≡ bindings (before h o.place) o.actor)

-- each task of a scope was forked with the bindings of the scope's opening
abbrev pub ForkedAsOpened : Type 0
ForkedAsOpened = (L : Limits) (h : History) (k : ℕ) (f : Forking) (o : Opening) → Legal L h → forking h k ≡ Some f → opening h f.scope ≡ Some o → bindings (before h f.place) f.actor ≡ bindings (before h o.place) o.actor

-- the actor's last pair was bound at place i: its stack is what it was before, with the pair, and
-- has had as many pairs ever since
pub record IsLastBound (h : History) (a i : ℕ) : Type 0 where
  pub pair : Binding
  pub bound : slice_get h.events i ≡ Some (Bind a pair)
  pub last : stack h a ≡ stack (before h i) a ++ pair ∷ []
  pub stands : (j : ℕ) → i < j → j ≤ length h.events → length (stack h a) ≤ length (stack (before h j) a)

-- the actor bound none of the pairs that it has: they are the first of those it began with, and it
-- has had as many ever since
pub record BeganWithAll (h : History) (a : ℕ) : Type 0 where
  pub begun : stack h a ≡ take (length (stack h a)) (first_stack h a)
  pub stands : (j : ℕ) → j ≤ length h.events → length (stack h a) ≤ length (stack (before h j) a)

-- the actor opened a scope at this place or later, and has not closed it
pub record HasOpenedSince (h : History) (a place : ℕ) : Type 0 where
  pub scope : ℕ
  pub opened : Opening
  pub is : opening h scope ≡ Some opened
  pub owner : opened.actor ≡ a
  pub unclosed : closed h scope ≡ false
  pub later : place ≤ opened.place

-- an actor's last pair is one that it began with, or was bound at some place
abbrev pub LastWasBound : Type 0
LastWasBound = (h : History) (a : ℕ) → BeganWithAll h a ⊎ ((i : ℕ) × IsLastBound h a i)

-- never both, and at one place alone
abbrev pub LastBoundOnce : Type 0
LastBoundOnce = (h : History) (a i j : ℕ) → IsLastBound h a i → (BeganWithAll h a → ⊥) × (IsLastBound h a j → i ≡ j)

-- the test of an unbind says that a scope which was opened after the last pair was bound isn't closed
abbrev pub HeldByLaterScopes : Type 0
HeldByLaterScopes = (L : Limits) (h : History) (a i : ℕ) → Legal L h → IsLastBound h a i → IsTrue (holds_last h a) ↔ HasOpenedSince h a (i + 1)

-- if the actor began with its last pair, each of its scopes came later
abbrev pub HeldByAnyScope : Type 0
HeldByAnyScope = (h : History) (a : ℕ) → BeganWithAll h a → IsTrue (holds_last h a) ↔ HasOpenedSince h a 0

-- while a scope isn't closed, its owner's stack is no lower than at the opening
abbrev pub StackStaysAbove : Type 0
StackStaysAbove = (L : Limits) (h : History) (s j : ℕ) (o : Opening) → Legal L h → opening h s ≡ Some o → closed h s ≡ false → o.place ≤ j → length (stack (before h o.place) o.actor) ≤ length (stack (before h j) o.actor)
