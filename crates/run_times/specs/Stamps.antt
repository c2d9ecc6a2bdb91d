-- The readings of a clock by task and by scope.
use Rattle.std.specs.Prelude.{ℕ, ◌+◌, ◌||◌, ◌≡◌, List, Some, get_or, map, slice_get, true}
use Rattle.run_times.specs.Words.{Event, Forking, History, Landmark, Opening, finished, finishes, forked_count, forking, opened_count, opening, option_map_or, range_with_len, rejected, rejects, started}
use Rattle.run_times.specs.Landmarks.{first_place}
use Rattle.scope_rules.specs.declared.types.events.Event.TheVariants as event
use Rattle.run_times.specs.declared.landmarks.Landmark.TheVariants as landmark

-- the reading at the place, or 0, if there is none
abbrev pub reading_at : List ℕ → ℕ → ℕ
reading_at times place = get_or times place 0

-- the reading as the landmark was reached by task k, or 0, if it was not
unfoldable pub task_time : Landmark → History → List ℕ → ℕ → ℕ
task_time mark h times k = option_map_or (λ f. option_map_or (reading_at times) (first_place mark h.events k) 0) (forking h k) 0

-- the reading as task k was forked
unfoldable pub fork_time : History → List ℕ → ℕ → ℕ
fork_time h times k = option_map_or (λ f. reading_at times f.place) (forking h k) 0

-- the reading as scope s was opened
unfoldable pub open_time : History → List ℕ → ℕ → ℕ
open_time h times s = option_map_or (λ o. reading_at times o.place) (opening h s) 0

-- those of the first n tasks, and of the first n scopes
unfoldable pub tasks_to : Landmark → History → List ℕ → ℕ → List ℕ
tasks_to mark h times n = map (task_time mark h times) (range_with_len (h.base.tasks + 1) n)

unfoldable pub forks_to : History → List ℕ → ℕ → List ℕ
forks_to h times n = map (fork_time h times) (range_with_len (h.base.tasks + 1) n)

unfoldable pub opens_to : History → List ℕ → ℕ → List ℕ
opens_to h times n = map (open_time h times) (range_with_len (h.base.scopes + 1) n)

-- those of all tasks, and of all scopes
abbrev pub start_times : History → List ℕ → List ℕ
start_times h times = tasks_to landmark.Started h times (forked_count h)

abbrev pub end_times : History → List ℕ → List ℕ
end_times h times = tasks_to landmark.Ended h times (forked_count h)

abbrev pub fork_times : History → List ℕ → List ℕ
fork_times h times = forks_to h times (forked_count h)

abbrev pub open_times : History → List ℕ → List ℕ
open_times h times = opens_to h times (opened_count h)

-- ---- laws

-- the reading of a task's start is that of the event by which this task started
abbrev pub EachStartTimeIsItsOwn : Type 0
EachStartTimeIsItsOwn = (h : History) (times : List ℕ) (k : ℕ) (f : Forking) → forking h k ≡ Some f → started h k ≡ true → (i : ℕ) × (slice_get h.events i ≡ Some (event.Start k)) × (task_time landmark.Started h times k ≡ reading_at times i)

-- that of its end is that of an event by which it finished or was rejected
abbrev pub EachEndTimeIsItsOwn : Type 0
EachEndTimeIsItsOwn = (h : History) (times : List ℕ) (k : ℕ) (f : Forking) → forking h k ≡ Some f → (rejected h k || finished h k) ≡ true → (i : ℕ) × (e : Event) × (slice_get h.events i ≡ Some e) × ((rejects k e || finishes k e) ≡ true) × (task_time landmark.Ended h times k ≡ reading_at times i)

-- that of its fork is that of its own fork
abbrev pub EachForkTimeIsItsOwn : Type 0
EachForkTimeIsItsOwn = (h : History) (times : List ℕ) (k : ℕ) (f : Forking) → forking h k ≡ Some f → fork_time h times k ≡ reading_at times f.place

-- and that of a scope's opening is that of its own opening
abbrev pub EachOpenTimeIsItsOwn : Type 0
EachOpenTimeIsItsOwn = (h : History) (times : List ℕ) (s : ℕ) (o : Opening) → opening h s ≡ Some o → open_time h times s ≡ reading_at times o.place
