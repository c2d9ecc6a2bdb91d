-- The answer that the ends of a plan's jobs make.
use Rattle.std.specs.Prelude.{if◌then◌else◌, ◌<◌, ◌==◌, ◌∷◌, ◌≡◌, ◌⊎◌}
use Rattle.quote_plan.specs.Words.{[], ℕ, Answer, Fails, FaultValue, List, Mode, Name, NoAnswer, None, Num, Offer, Option, Outcome, Price, Quote, Some, State, TaskState}
use Rattle.quote_plan.specs.Words.{TaskValue, Value, cons_option, int_eq, length, map, option_and_then, position, same_name, slice_get}
use Rattle.quote_plan.specs.{Allowed.AllowedBest, Allowed.AllowedText, Allowed.PartText, Allowed.quote_in, Allowed.quotes_in, AnswerText.answer_text, Plans.Named, Plans.PlanValue}

-- the state of a task that ended as the offer says
abbrev pub state_due : Offer → State
state_due (Price price) = State.Success (Num price)
state_due (Fails fault) = State.Failed fault

-- the states of tasks that all ended as their offers say
abbrev pub dues_of : List Named → List State
dues_of offers = map (λ (e : Named). state_due e.1) offers

abbrev pub states_of : List TaskState → List State
states_of tasks = map (λ (t : TaskState). t.state) tasks

abbrev pub states_of_values : List TaskValue → List State
states_of_values values = map (λ (t : TaskValue). State.Success t.value) values

-- each task ended as its offer says
abbrev pub AreDue : List Named → List TaskState → Type 0
AreDue offers tasks = states_of tasks ≡ dues_of offers

-- each task, all being successful, ended as its offer says
abbrev pub AreDueValues : List Named → List TaskValue → Type 0
AreDueValues offers values = states_of_values values ≡ dues_of offers

-- there is a task for each offer, and each that ended did so as its offer says
abbrev pub AreDueSoFar : List Named → List TaskState → Type 0
AreDueSoFar offers tasks =
    (length tasks ≡ length offers) × ((k : ℕ) → k < length tasks → (slice_get (states_of tasks) k ≡ Some State.Unavailable) ⊎ (slice_get (states_of tasks) k ≡ slice_get (dues_of offers) k))

-- each task failed as its offer says
abbrev pub NoneSucceeds : List Named → List TaskState → Type 0
NoneSucceeds offers tasks = AreDue offers tasks × (quotes_in offers ≡ [])

-- the offer whose task has the number
unfoldable pub offer_of : List Named → List TaskState → ℕ → Option Named
offer_of offers tasks task = option_and_then (λ k. slice_get offers k) (position (λ (t : TaskState). t.task == task) tasks)

-- that the offer fails, if it is to fail so
abbrev pub failed_by : Name → Offer → FaultValue → Option Answer
failed_by name (Fails due) fault = if same_name due.0 fault.0 then Some (Answer.Failed name due) else None
failed_by name (Price due) fault = None

abbrev pub failed_answer : Option Named → FaultValue → Option Answer
failed_answer None fault = None
failed_answer (Some named) fault = failed_by named.0 named.1 fault

-- the offer with its price, where it is to end so
abbrev pub first_by : Name → Offer → Value → Option Answer
first_by name (Price due) (Num price) = if int_eq due price then Some (Answer.First (record { name = name; price = due })) else None
first_by name _ _ = None

abbrev pub first_answer : Option Named → Value → Option Answer
first_answer None value = None
first_answer (Some named) value = first_by named.0 named.1 value

-- the offer's price, if its task has ended
abbrev pub quote_there : State → Named → Option Quote
quote_there State.Unavailable named = None
quote_there _ named = quote_in named

-- the prices of the offers whose tasks have ended, in order
unfoldable pub available : List Named → List TaskState → List Quote
available [] tasks = []
available (e ∷ es) [] = []
available (e ∷ es) (t ∷ ts) = cons_option (quote_there t.state e) (available es ts)

-- the answer rests on the ends that the outcome shows, and each of these is its offer's:
--   in mode `best`, if all tasks have ended, on all ends;
--   in mode `all`, on all ends, or on the first failure;
--   in mode `first`, on the first success, or else on all ends, the first failure being named;
--   after the deadline, on all ends so far
abbrev pub Answers : Mode → List Named → List TaskState → Outcome → Answer → Type 0
Answers mode offers tasks (Outcome.Partial states) a = AreDueSoFar offers states × (a ≡ Answer.Partial (available offers states))
Answers Mode.Best offers tasks Outcome.Done a = AreDue offers tasks × AllowedBest offers a
Answers Mode.All offers tasks (Outcome.All values) a = AreDueValues offers values × (a ≡ Answer.All (quotes_in offers))
Answers Mode.All offers tasks (Outcome.Failed task fault) a = failed_answer (offer_of offers tasks task) fault ≡ Some a
Answers Mode.First offers tasks (Outcome.Any task value) a = first_answer (offer_of offers tasks task) value ≡ Some a
Answers Mode.First offers tasks (Outcome.Failed task fault) a = NoneSucceeds offers tasks × (failed_answer (offer_of offers tasks task) fault ≡ Some a)
Answers Mode.First offers tasks Outcome.Empty a = (offers ≡ []) × (a ≡ Answer.Empty)
Answers _ offers tasks _ a = ⊥

-- the plan allows the answer's line; or, if the outcome is partial, it says some of the prices
abbrev pub AllowedFor : PlanValue → Outcome → Answer → Type 0
AllowedFor plan (Outcome.Partial states) a = PartText plan (answer_text a)
AllowedFor plan _ a = AllowedText plan (answer_text a)

-- the scope was cancelled, or its time ran out
abbrev pub IsCancelled : Outcome → Type 0
IsCancelled Outcome.Timeout = Unit {0}
IsCancelled (Outcome.Cancelled scope) = Unit {0}
IsCancelled _ = ⊥

-- the answer lists prices
abbrev pub ListsPrices : Outcome → Type 0
ListsPrices (Outcome.All values) = Unit {0}
ListsPrices (Outcome.Partial states) = Unit {0}
ListsPrices _ = ⊥

-- why there is no answer: `Lost` where none can rest on ends that are the offers', and `Memory` only if
-- one does and lists prices
abbrev pub IsNoAnswer : (Answer → Type 0) → Outcome → NoAnswer → Type 0
IsNoAnswer Rests o NoAnswer.Lost = (a : Answer) → Rests a → ⊥
IsNoAnswer Rests o NoAnswer.Cancelled = IsCancelled o
IsNoAnswer Rests o NoAnswer.Memory = ListsPrices o × ((a : Answer) × Rests a)

-- the same of an answer that lists no prices
abbrev pub IsLost : Type 0 → NoAnswer → Type 0
IsLost Rests NoAnswer.Lost = Rests → ⊥
IsLost Rests NoAnswer.Cancelled = ⊥
IsLost Rests NoAnswer.Memory = ⊥

-- the same of one that does: if memory is refused, the ends are the offers'
abbrev pub IsLostOrMemory : Type 0 → NoAnswer → Type 0
IsLostOrMemory Rests NoAnswer.Lost = Rests → ⊥
IsLostOrMemory Rests NoAnswer.Cancelled = ⊥
IsLostOrMemory Rests NoAnswer.Memory = Rests
