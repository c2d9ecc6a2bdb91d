-- What a run of the program did with its streams.
use Rattle.std.specs.Prelude.{◌≡◌, ◌⊎◌}
use Rattle.scopectl.specs.Words.{ℕ, Bool, List, Option, Streams, Watched, false, true}
use Rattle.scopectl.specs.Turns.{Turn, turn}

-- the bytes that were taken from the reader, written, and said on standard error; which stream was left as it was;
-- whether the reader or the writer ended the run, and whether standard error has failed
pub record Run : Type 1 where
  pub taken : Turn
  pub written : Turn
  pub said : Turn
  pub ReaderKept : Type 0
  pub WriterKept : Type 0
  pub ErrorsKept : Type 0
  pub ByReader : Type 0
  pub ByWriter : Type 0
  pub Sound : Type 0
  pub errors_failed : Bool

-- the reader failed, or was given up
abbrev pub HasEnded : {T : Type 0} → Watched T → Type 0
HasEnded reader = (reader.failed ≡ true) ⊎ (reader.reads ≡ 18446744073709551615)

-- neither the reader nor the writer has failed
abbrev pub IsSound : {R W E : Type 0} → Streams R W E → Type 0
IsSound streams = (streams.reader.failed ≡ false) × (streams.writer.failed ≡ false)

-- the run between these streams, whose bytes are known so
abbrev pub run : {R W E : Type 0} (remaining : R → Option (List ℕ)) (contents : W → Option (List ℕ)) (messages : E → Option (List ℕ)) (old new : Streams R W E) → Run
run remaining contents messages old new = record {
  taken = turn remaining old.reader new.reader;
  written = turn contents old.writer new.writer;
  said = turn messages old.errors.now new.errors.now;
  ReaderKept = new.reader ≡ old.reader;
  WriterKept = new.writer ≡ old.writer;
  ErrorsKept = new.errors.now ≡ old.errors.now;
  ByReader = HasEnded new.reader;
  ByWriter = new.writer.failed ≡ true;
  Sound = IsSound new;
  errors_failed = new.errors.now.failed;
}
