-- What a context's list of open scopes holds.
use Rattle.std.specs.Prelude.{[], ℕ, ◌++◌, ◌∷◌, ◌≡◌, ◌≢◌, ◌⊎◌, List, None, Option, nat_lt}
use Rattle.job_runner.specs.Words.{All, OpenScope, Seen, filter}

-- scope s is listed as the last, with a seat that was shown nothing yet, and the others are as they were
pub record ListsOne (s : ℕ) (old new : List OpenScope) : Type 0 where
  pub listed : OpenScope
  pub of : listed.scope ≡ s
  pub fresh : listed.reader.known ≡ None
  pub is : new ≡ old ++ listed ∷ []

-- just the scopes are left that were opened before scope s
abbrev pub ListsBelow : ℕ → List OpenScope → List OpenScope → Type 0
ListsBelow s old new = new ≡ filter (λ (o : OpenScope). nat_lt o.scope s) old

-- the seat of the last scope was looked from, and all else is as it was
pub record LooksFromLast (around around_then : Option Seen) (old new : List OpenScope) : Type 0 where
  pub others : List OpenScope
  pub before : OpenScope
  pub after : OpenScope
  pub was : old ≡ others ++ before ∷ []
  pub is : new ≡ others ++ after ∷ []
  pub same : after.scope ≡ before.scope
  pub kept : around_then ≡ around

-- what a look leaves of a context's seats: all as they were, but the one that it looked from, which is that of the
-- last open scope, or else that of the scope around
abbrev pub KeepsOthers : Option Seen → Option Seen → List OpenScope → List OpenScope → Type 0
KeepsOthers around around_then old new = ((old ≡ []) × (new ≡ [])) ⊎ LooksFromLast around around_then old new

-- no scope of this number is listed
abbrev pub IsUnlisted : ℕ → List OpenScope → Type 0
IsUnlisted s opened = All (λ (o : OpenScope). o.scope ≢ s) opened
