-- All that is promised of a run of the program: of its status, and of what it did with its streams.
use Rattle.std.specs.Prelude.{◌≡◌, ◌≢◌, ◌≤◌, ◌⊎◌}
use Rattle.scopectl.specs.Words.{ℕ, List}
use Rattle.scopectl.specs.{Naming.NamesAny, Program.DidAsSaid, Program.DidPartly, Program.GaveText, Program.GaveTextPartly, Program.IsNotUnderstood, Runs.Run, Saying.SaidSome}

-- the text that the words ask for was written, and nothing read or said; or all that they say was done
abbrev pub DidAll : (words : List (List ℕ)) → Run → (result : ℕ) → Type 0
DidAll words run result = ((result ≡ 0) × run.ReaderKept × run.ErrorsKept × GaveText words run) ⊎ DidAsSaid words run result

-- nothing was read or written; or a part of the text that the words ask for was written; or a part of what they say
-- was done
abbrev pub DidSome : (words : List (List ℕ)) → Run → Type 0
DidSome words run = (run.ReaderKept × run.WriterKept) ⊎ ((run.ReaderKept × GaveTextPartly words run) ⊎ DidPartly words run)

-- the words say nothing, which was said, and nothing was read or written
abbrev pub DidNothing : (words : List (List ℕ)) → Run → Type 0
DidNothing words run = IsNotUnderstood words × run.ReaderKept × run.WriterKept × SaidSome run.said.before run.said.after run.errors_failed

-- what was done of the words
pub record Acts (words : List (List ℕ)) (run : Run) (result : ℕ) : Type 0 where
  pub status : result ≤ 3
  pub done : result ≢ 1 → result ≢ 2 → DidAll words run result
  pub fault : result ≡ 1 → DidSome words run
  pub named : result ≡ 1 → NamesAny words run
  pub not_understood : result ≡ 2 → DidNothing words run
