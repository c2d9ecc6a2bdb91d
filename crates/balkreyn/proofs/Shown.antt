-- What is written of a copy is written of the history that was copied.
use Rattle.std.specs.Prelude.{ℕ, ◌≡◌, List, Option, Result, String}
use Rattle.balkreyn.specs.{Effective, EndValue, HasReached, History, IsCopyOf, IsNoted, IsSeen, LabelValue, NotesNow, OwnerValue, Reached, Reads, Refusal, RemainsNow, SaysAgesNow, SaysWaits, SaysWhen, SaysWhenNow, Words.Times}
use Rattle.balkreyn.specs.{answering, effective, history_of, history_seen, known_clock, left_in, until_check}
use Rattle.balkreyn.proofs.Words.{◌∙◌, ap}

pub seen_so : (fits : LabelValue → EndValue → Type 0) (said told : History → Type 0) → ((h : History) → said h → told h) → IsSeen fits said → IsSeen fits told
seen_so fits said told then it = record {
  limits = it.limits;
  steps = it.steps;
  legal = it.legal;
  fitting = it.fitting;
  shows = then (history_of it.steps) it.shows;
}

pub reads_so : (old new : OwnerValue) (said told : History → Type 0) → ((h : History) → said h → told h) → Reads old new said → Reads old new told
reads_so old new said told then it = (it.0, then (history_seen new) it.1)

-- what was noted, or written, at a time that the clock reads
pub notes_now : {K : Type 0} (reads : K → K → ℕ → Type 0) (start last : K) (at : ℕ) (old new : Times) (result : Result (Unit {0}) Refusal) (reached : Reached) → reads start last at → IsNoted old new reached at result → (h : History) → HasReached h reached → NotesNow reads start old new result h
notes_now reads start last at old new result reached read noted h has = record { last = last; at = at; read = read; reached = reached; has = has; noted = noted }

pub ages_now : {K Z : Type 0} (reads : K → K → ℕ → Type 0) (start last : K) (at : ℕ) (times : List ℕ) (copied : Result History Refusal) (result : Result (String Z) Refusal) → reads start last at → ((h : History) → IsCopyOf h copied → SaysWaits (known_clock h times at) h result) → (h : History) → IsCopyOf h copied → SaysAgesNow reads start times result h
ages_now reads start last at times copied result read says h is = record { last = last; at = at; read = read; says = says h is }

pub says_now : {K Z : Type 0} (reads : K → K → ℕ → Type 0) (start last : K) (at : ℕ) (times : List ℕ) (result : Result (String Z) Refusal) → reads start last at → (h : History) → SaysWhen h times at result → SaysWhenNow reads start times result h
says_now reads start last at times result read h says = record { last = last; at = at; read = read; says = says }

-- what is left of a scope's time, of a deadline that the history gives
pub remains_now : {K : Type 0} (reads : K → K → ℕ → Type 0) (start last : K) (now s : ℕ) (found : Result Effective Refusal) (result : Result (Option ℕ) Refusal) → reads start last now → result ≡ left_in now found → (h : History) → found ≡ answering (until_check h s) (effective h s) → RemainsNow reads start s result h
remains_now reads start last now s found result read left h is = record { last = last; now = now; read = read; is = left ∙ ap (left_in now) is }
