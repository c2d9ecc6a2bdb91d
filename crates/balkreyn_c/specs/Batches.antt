-- A batch: one event, tried again and again until it is refused.
use Rattle.std.specs.Prelude.{ℕ, ℤ, ◌+◌, ◌<ℤ◌, ◌<◌, ◌≡◌, ◌≤ℤ◌, ◌⊎◌, List, None, Option, Some, drop, length, pos, slice_index_or, slice_set, suc, zero}
use Rattle.balkreyn_c.specs.Words.{Event, Realm, TimedRealm}
use Rattle.balkreyn_c.specs.{Acting.Answers, Acting.Performs, Acting.Refuses, Timed.with_realm}

-- the answer at the place
abbrev pub answer_at : List ℤ → ℕ → ℤ
answer_at answers i = slice_index_or answers i (pos 0)

-- the event was tried so often, one time after another, and what it was answered stands in order
unfoldable pub Repeats : Realm → Event → List ℤ → ℕ → Realm → Type 0
Repeats old e answers zero new = new ≡ old
Repeats old e answers (suc n) new = (middle : Realm) × Repeats old e answers n middle × Performs middle e (answer_at answers n) new

-- it was tried once for each place
pub record IsWhole (tried made room : ℕ) : Type 0 where
  pub all : tried ≡ made
  pub full : made ≡ room

-- the try after those that were made was refused, and was the last
pub record IsStopped (tried made room : ℕ) (answers : List ℤ) : Type 0 where
  pub one_more : tried ≡ made + 1
  pub within : made < room
  pub refused : answer_at answers made <ℤ pos 0

-- so many tries were not refused; then came a refusal, or the end of the places; the places behind are as they were
pub record Batched (old : Realm) (e : Event) (answer : ℤ) (new : Realm) (was now : List ℤ) : Type 0 where
  pub made : ℕ
  pub tried : ℕ
  pub number : answer ≡ pos made
  pub repeats : Repeats old e now tried new
  pub went : (i : ℕ) → i < made → pos 0 ≤ℤ answer_at now i
  pub ended : IsWhole tried made (length was) ⊎ IsStopped tried made (length was) now
  pub others : drop tried now ≡ drop tried was

pub record NoBatch (answer : ℤ) (new : Option TimedRealm) (was now : List ℤ) : Type 0 where
  pub answers : Answers answer new
  pub kept : now ≡ was

pub record BadBatch (old : TimedRealm) (answer : ℤ) (new : Option TimedRealm) (was now : List ℤ) : Type 0 where
  pub refuses : Refuses old answer new
  pub kept : now ≡ was

pub record TriesBatch (old : TimedRealm) (e : Event) (answer : ℤ) (new : Option TimedRealm) (was now : List ℤ) : Type 0 where
  pub realm : Realm
  pub holds : new ≡ Some (with_realm old realm)
  pub batched : Batched old.realm e answer realm was now

abbrev pub ActsMany : Option TimedRealm → Option Event → ℤ → Option TimedRealm → List ℤ → List ℤ → Type 0
ActsMany None e answer new was now = NoBatch answer new was now
ActsMany (Some old) None answer new was now = BadBatch old answer new was now
ActsMany (Some old) (Some e) answer new was now = TriesBatch old e answer new was now

-- one more try, whose answer is written at the place
pub record TriesAt (old : Realm) (e : Event) (place : ℕ) (new : Realm) (was now : List ℤ) : Type 0 where
  pub answer : ℤ
  pub performs : Performs old e answer new
  pub written : now ≡ slice_set was place answer
