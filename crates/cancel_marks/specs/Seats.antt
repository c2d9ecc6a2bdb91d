-- A cell and its scope, what a seat was shown of it, and what its setter did.
use Rattle.std.specs.Prelude.{ℕ, Option}
use Rattle.cancel_marks.specs.declared.cancellation.Cancellation.{Cancellation}

-- the name of the cell, and the scope whose it is
pub record CellValue : Type 0 where
  pub name : ℕ
  pub scope : ℕ

-- the cell, and what it held when it was looked at, if that was something
pub record Seen : Type 0 where
  pub cell : CellValue
  pub known : Option Cancellation

-- the cell, what it was set with, if it was, and what it was seen to hold then
pub record SetterValue : Type 0 where
  pub cell : CellValue
  pub used : Option Cancellation
  pub known : Option Cancellation
