-- Which events of a history are of a scope, and their places.
use Rattle.std.specs.Prelude.{[], ℕ, ◌+◌, ◌<◌, ◌∷◌, ◌≡◌, Bool, List, None, Option, Some, false, if◌then◌else◌, length, option_map, slice_get, true}
use Rattle.scope_journal.specs.Words.{BeginClose, Cancel, EndClose, Event, Finish, Fork, Forking, History, Join, Move, Open, Reject, Start, before, flat_map, forking, is_of, option_map_or, range_with_len, scopes}

-- the scope in which task k was forked
abbrev pub scope_of_task : History → ℕ → Option ℕ
scope_of_task h k = option_map (λ (f : Forking). f.scope) (forking h k)

-- the scope that the event, the next after h, is of: an open is of the scope that it opens, and a bind,
-- an unbind and a tick of none
abbrev pub scope_of_event : History → Event → Option ℕ
scope_of_event h (Open actor policy options) = Some (scopes h + 1)
scope_of_event h (Fork actor scope label) = Some scope
scope_of_event h (Reject task) = scope_of_task h task
scope_of_event h (Start task) = scope_of_task h task
scope_of_event h (Finish task end) = scope_of_task h task
scope_of_event h (Cancel scope) = Some scope
scope_of_event h (Move scope deadline) = Some scope
scope_of_event h (Join actor scope) = Some scope
scope_of_event h (BeginClose actor scope) = Some scope
scope_of_event h (EndClose actor scope) = Some scope
scope_of_event h _ = None

-- the event at place i is of scope s, as its log has it
abbrev pub is_of_at : History → ℕ → ℕ → Bool
is_of_at h s i = option_map_or (is_of (before h i) s) (slice_get h.events i) false

-- the place, if the test holds
abbrev pub if_one : Bool → ℕ → List ℕ
if_one b i = if b then i ∷ [] else []

-- the places of the events of scope s, in order
unfoldable pub places_of : History → ℕ → List ℕ
places_of h s = flat_map (λ i. if_one (is_of_at h s i) i) (range_with_len 0 (length h.events))

-- the place, if there is one, is that of the last event of scope s before place n
abbrev pub IsLatest : History → ℕ → ℕ → Option ℕ → Type 0
IsLatest h s n None = (j : ℕ) → j < n → is_of_at h s j ≡ false
IsLatest h s n (Some i) = (i < n) × (is_of_at h s i ≡ true) × ((j : ℕ) → i < j → j < n → is_of_at h s j ≡ false)
