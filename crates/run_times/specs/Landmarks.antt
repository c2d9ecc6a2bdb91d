-- Where something happened first to a scope or a task.
use Rattle.std.specs.Prelude.{ℕ, ◌&&◌, ◌+◌, ◌<◌, ◌==◌, ◌≡◌, Bool, List, None, Option, Some, false, get_or, if◌then◌else◌, is_none, length, slice_get}
use Rattle.run_times.specs.Words.{Event, Firsts, Landmark, earliest, option_and_then, option_map_or}
use Rattle.scope_rules.specs.declared.types.events.Event.TheVariants as event
use Rattle.run_times.specs.declared.landmarks.Landmark.TheVariants as landmark

-- the number of the scope or the task to which the event is this
abbrev pub named : Landmark → Event → Option ℕ
named landmark.Started (event.Start task) = Some task
named landmark.Ended (event.Reject task) = Some task
named landmark.Ended (event.Finish task end) = Some task
named landmark.Joined (event.Join actor scope) = Some scope
named landmark.Began (event.BeginClose actor scope) = Some scope
named landmark.Closed (event.EndClose actor scope) = Some scope
named mark _ = None

-- the event is this to number n
abbrev pub is_named : Landmark → ℕ → Event → Bool
is_named mark n e = option_map_or (λ m. m == n) (named mark e) false

-- the place i, if the event there is this to number n
abbrev pub named_at : Landmark → List Event → ℕ → ℕ → Option ℕ
named_at mark events n i = option_and_then (λ e. if is_named mark n e then Some i else None) (slice_get events i)

-- the place of the first event that is this to number n
unfoldable pub first_place : Landmark → List Event → ℕ → Option ℕ
first_place mark events n = earliest (named_at mark events n) (length events)

-- what stands for the number before + 1 + k behind an event at the place that names this number
abbrev pub noted_in : ℕ → Option ℕ → ℕ → ℕ → Option ℕ → Option ℕ
noted_in before None place k old = old
noted_in before (Some n) place k old = if (n == before + 1 + k) && is_none old then Some place else old

-- nothing is noted at so many numbers
pub record IsUnnoted (places : List (Option ℕ)) (count : ℕ) : Type 0 where
  pub long : length places ≡ count
  pub each : (k : ℕ) → k < count → get_or places k None ≡ None

-- these are the first places below i, by number
pub record AreFirstsTo (places : List (Option ℕ)) (mark : Landmark) (events : List Event) (before count i : ℕ) : Type 0 where
  pub long : length places ≡ count
  pub each : (k : ℕ) → k < count → get_or places k None ≡ earliest (named_at mark events (before + 1 + k)) i

-- the places are the first ones of all events, for so many numbers behind `before`
pub record HasFirsts (firsts : Firsts) (mark : Landmark) (events : List Event) (before count : ℕ) : Type 0 where
  pub from : firsts.before ≡ before
  pub long : length firsts.places.items ≡ count
  pub each : (k : ℕ) → k < count → get_or firsts.places.items k None ≡ first_place mark events (before + 1 + k)
