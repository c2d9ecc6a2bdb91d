-- What a progress keeps of the completions that it was handed, and which lists of them it stands for.
use Rattle.std.specs.Prelude.{ℕ, ◌≡◌, ◌≤◌, Bool, List, true}
use Rattle.join_rules.specs.Words.{Completion, Policy}
use Rattle.join_rules.specs.Totals.{Totals, totals_of}

pub record JoinerStanding : Type 0 where
  -- the joiner as plain data, and whether it asks a closure of the caller's
  pub policy : Policy
  pub has_closure : Bool
  pub totals : Totals
  -- what a closure is shown
  pub seen : List Completion
  -- how many more completions `seen` takes without memory
  pub room : ℕ

-- the list gives what is kept
pub record StandsFor (kept : JoinerStanding) (list : List Completion) : Type 0 where
  pub totals : totals_of list ≡ kept.totals
  pub seen : kept.has_closure ≡ true → kept.seen ≡ list

-- so many more completions can be handed in without memory: any number, if no closure is asked
abbrev pub HasRoom : JoinerStanding → ℕ → Type 0
HasRoom kept n = kept.has_closure ≡ true → n ≤ kept.room

-- the joiner is the same in both
pub record SameJoiner (old new : JoinerStanding) : Type 0 where
  pub policy : new.policy ≡ old.policy
  pub has_closure : new.has_closure ≡ old.has_closure

-- the same is kept in both, and the room may differ
pub record SameButRoom (old new : JoinerStanding) : Type 0 where
  pub policy : new.policy ≡ old.policy
  pub has_closure : new.has_closure ≡ old.has_closure
  pub totals : new.totals ≡ old.totals
  pub seen : new.seen ≡ old.seen
