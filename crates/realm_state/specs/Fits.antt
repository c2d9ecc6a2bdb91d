-- Which histories are fitting: the end of each task fits the label that it was forked with.
use Rattle.std.specs.Prelude.{ℕ, ◌≡◌, Some, slice_get}
use Rattle.realm_state.specs.Words.{EndValue, Event, Finish, ForSome, History, LabelValue, before, forking}

-- the end fits the label of task k, if there is such a task
abbrev pub FitsTask : (LabelValue → EndValue → Type 0) → History → ℕ → EndValue → Type 0
FitsTask fits h k end = ForSome (forking h k) (λ f. fits f.label end)

-- if the event is the end of a task, it fits the task's label
abbrev pub FitsEvent : (LabelValue → EndValue → Type 0) → History → Event → Type 0
FitsEvent fits h (Finish task end) = FitsTask fits h task end
FitsEvent fits h _ = Unit {0}

-- each end fitted its task's label when it came
unfoldable pub Fitting : (LabelValue → EndValue → Type 0) → History → Type 0
Fitting fits h = (i : ℕ) (e : Event) → slice_get h.events i ≡ Some e → FitsEvent fits (before h i) e
