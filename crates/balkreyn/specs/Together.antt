-- Many jobs in a scope of their own.
use Rattle.std.specs.Prelude.{[], ℕ, ◌++◌, ◌+◌, ◌<◌, ◌∷◌, ◌≡◌, ◌⊎◌, All, Contains, Err, List, None, Ok, Option, Result, Some, length, slice_index_or}
use Rattle.scope_rules.specs.declared.types.outcomes.Outcome.TheVariants.{Failed}
use Rattle.balkreyn.specs.Words.{Any, Came, Cut, ForkReply, Joined, Mark, Memory, Name, Outcome, OwnerValue, Refusal, Seen, SeesMore, Shows, Verdict}
use Rattle.balkreyn.specs.{Acting.JoinsFrom, Bodies.Settles, Bodies.StaysOut, Coming.IsCame, Coming.MayCome, Slots.ForksInto, Slots.ForksUnder, Slots.Says, Slots.SlotValue, Slots.task_of}

-- a scope was opened, then jobs ran in it so, by which this was found, and last the scope was closed, whatever was found
pub record RunsInScope {X V : Type 0} (opens : X → X → Result ℕ Refusal → Type 0) (closes : X → X → ℕ → Result Verdict Refusal → Type 0) (runs : ℕ → X → X → Result V Refusal → Type 0) (old new : X) (result : Result V Refusal) : Type 0 where
  pub scope : ℕ
  pub begun : X
  pub ended : X
  pub found : Result V Refusal
  pub closed : Result Verdict Refusal
  pub opened : opens old begun (Ok scope)
  pub ran : runs scope begun ended found
  pub shut : closes ended new scope closed
  pub answers : Settles (λ refusal error. error ≡ refusal) found closed result

-- the open was refused, and nothing was done behind it; or jobs ran in a scope
abbrev pub RunsJobs : {X V : Type 0} → (X → X → Result ℕ Refusal → Type 0) → (X → X → ℕ → Result Verdict Refusal → Type 0) → (ℕ → X → X → Result V Refusal → Type 0) → X → X → Result V Refusal → Type 0
RunsJobs opens closes runs old new result = StaysOut opens (λ refusal error. error ≡ refusal) old new result ⊎ RunsInScope opens closes runs old new result

-- ---- forks

-- so many jobs were forked in scope s under this name, one after the other
pub data Forked {X : Type 0} (token : X → OwnerValue) (s : ℕ) (name : Name) (old : X) : ℕ → X → Type 0 where
  unforked : Forked token s name old 0 old
  forked : {number : ℕ} {here new : X} {reply : ForkReply} → Forked token s name old number here → ForksUnder (token here) (token new) s name (Ok reply) → Forked token s name old (number + 1) new

-- jobs were forked in scope s under this name, one after the other, and these are their slots
pub data ForkedInto {X : Type 0} (token : X → OwnerValue) (s : ℕ) (name : Name) (old : X) : List SlotValue → X → Type 0 where
  no_slot : {slots : List SlotValue} → slots ≡ [] → ForkedInto token s name old slots old
  into : {slots more : List SlotValue} {here new : X} {slot : SlotValue} → ForkedInto token s name old slots here → ForksInto (token here) (token new) s name (Ok slot) → more ≡ slots ++ slot ∷ [] → ForkedInto token s name old more new

-- the fork of one of the jobs was refused, or there was no memory for its slot; those before it were forked
pub record StopsForking {X : Type 0} (token : X → OwnerValue) (s : ℕ) (name : Name) (begun ended : X) (refusal : Refusal) : Type 0 where
  pub slots : List SlotValue
  pub here : X
  pub forked : ForkedInto token s name begun slots here
  pub stopped : ForksInto (token here) (token ended) s name (Err refusal) ⊎ ((refusal ≡ Memory) × (ended ≡ here))

-- all the jobs were forked in scope s, and then its join was answered, this way or that
pub record AsksJoin {X K : Type 0} (token : X → OwnerValue) (reads : K → K → ℕ → Type 0) (time : X → K) (name : Name) (jobs : ℕ) (s : ℕ) (begun : X) : Type 0 where
  pub slots : List SlotValue
  pub there : X
  pub forked : ForkedInto token s name begun slots there
  pub all : length slots ≡ jobs
  pub answered : Result Joined Refusal
  pub after : OwnerValue
  pub joins : JoinsFrom reads (time there) (token there) after s answered

-- what was done if nothing is found: a fork was refused, or all jobs were forked, and the join was asked for
abbrev pub FindsNothing : {X K : Type 0} → (X → OwnerValue) → (K → K → ℕ → Type 0) → (X → K) → Name → ℕ → ℕ → X → X → Refusal → Type 0
FindsNothing token reads time name jobs s begun ended refusal = StopsForking token s name begun ended refusal ⊎ AsksJoin token reads time name jobs s begun

-- ---- what each comes to

-- a slot was asked, and this came of its job, if a look showed this mark
pub record Asks {V E : Type 0} (may : V → Type 0) (makes : Refusal → E → Type 0) (shown : Option Mark) (old new : OwnerValue) (task : ℕ) (came : Came V E) : Type 0 where
  pub answer : Result (Result V E) Refusal
  pub says : Says may old new task answer
  pub is : IsCame makes shown answer came

-- the slot of this task is one of these, and it was asked
pub record CameTo {X V E : Type 0} (token : X → OwnerValue) (may : Name → V → Type 0) (makes : Refusal → E → Type 0) (shown : Option Mark) (slots : List SlotValue) (old new : X) (task : ℕ) (came : Came V E) : Type 0 where
  pub slot : SlotValue
  pub among : Contains slots slot
  pub its : task_of slot.reply ≡ task
  pub asks : Asks (may slot.name) makes shown (token old) (token new) task came

-- a look showed this mark, or none
pub record Looked {X : Type 0} (token : X → OwnerValue) (seat : X → Option Seen) (old new : X) (shown : Option Mark) : Type 0 where
  pub sees : SeesMore (token old) (token new)
  pub shows : Shows (seat old) (seat new) shown

-- ---- the first

-- what came behind a join with this outcome: of the task that it names; or it names none, and a look showed the mark
abbrev pub OfOutcome : {X V E : Type 0} → (X → OwnerValue) → (X → Option Seen) → (Name → V → Type 0) → (Refusal → E → Type 0) → List SlotValue → X → X → Outcome → Came V E → Type 0
OfOutcome token seat may makes slots old new (Any task value) came = CameTo token may makes None slots old new task came
OfOutcome token seat may makes slots old new (Failed task fault) came = CameTo token may makes None slots old new task came
OfOutcome token seat may makes slots old new outcome came = (mark : Mark) × (came ≡ Cut mark) × Looked token seat old new (Some mark)

-- the join of scope s was answered, and this came behind it
pub record FirstCame {X K V E : Type 0} (token : X → OwnerValue) (reads : K → K → ℕ → Type 0) (time : X → K) (seat : X → Option Seen) (may : Name → V → Type 0) (makes : Refusal → E → Type 0) (s : ℕ) (slots : List SlotValue) (old new : X) (came : Came V E) : Type 0 where
  pub joined : Joined
  pub there : X
  pub joins : JoinsFrom reads (time old) (token old) (token there) s (Ok joined)
  pub first : OfOutcome token seat may makes slots there new joined.outcome came

-- in scope s just so many jobs were forked, and once they were, it was joined, and this came first
pub record Races {X K V E : Type 0} (token : X → OwnerValue) (reads : K → K → ℕ → Type 0) (time : X → K) (seat : X → Option Seen) (may : Name → V → Type 0) (makes : Refusal → E → Type 0) (name : Name) (jobs : ℕ) (s : ℕ) (begun ended : X) (came : Came V E) : Type 0 where
  pub slots : List SlotValue
  pub there : X
  pub forked : ForkedInto token s name begun slots there
  pub all : length slots ≡ jobs
  pub first : FirstCame token reads time seat may makes s slots there ended came

-- ---- all

-- so many of the slots were asked, in order, and this came of each, if a look showed this mark
pub data Gave {X V E : Type 0} (token : X → OwnerValue) (may : Name → V → Type 0) (makes : Refusal → E → Type 0) (shown : Option Mark) (slots : List SlotValue) (old : X) : ℕ → List (Came V E) → X → Type 0 where
  not_asked : {cames : List (Came V E)} → cames ≡ [] → Gave token may makes shown slots old 0 cames old
  asked : {number : ℕ} {cames more : List (Came V E)} {here new : X} {slot : SlotValue} {came : Came V E} → Gave token may makes shown slots old number cames here → slice_index_or slots number slot ≡ slot → Asks (may slot.name) makes shown (token here) (token new) (task_of slot.reply) came → more ≡ cames ++ came ∷ [] → Gave token may makes shown slots old (number + 1) more new

-- in scope s just so many jobs were forked, it was joined, a look was made, and each slot was asked: this came of them
pub record Gathers {X K V E : Type 0} (token : X → OwnerValue) (reads : K → K → ℕ → Type 0) (time : X → K) (seat : X → Option Seen) (may : Name → V → Type 0) (makes : Refusal → E → Type 0) (name : Name) (jobs : ℕ) (s : ℕ) (begun ended : X) (cames : List (Came V E)) : Type 0 where
  pub slots : List SlotValue
  pub there : X
  pub forked : ForkedInto token s name begun slots there
  pub all : length slots ≡ jobs
  pub joined : Joined
  pub after : X
  pub joins : JoinsFrom reads (time there) (token there) (token after) s (Ok joined)
  pub behind : X
  pub shown : Option Mark
  pub looked : Looked token seat after behind shown
  pub gave : Gave token may makes shown slots behind jobs cames ended

-- ---- so many at a time

-- in scope s just so many workers were forked, and once they were, its join was answered so
pub record Staffs {X K : Type 0} (token : X → OwnerValue) (reads : K → K → ℕ → Type 0) (time : X → K) (name : Name) (workers : ℕ) (s : ℕ) (begun ended : X) (joined : Joined) : Type 0 where
  pub there : X
  pub staffed : Forked token s name begun workers there
  pub joins : JoinsFrom reads (time there) (token there) (token ended) s (Ok joined)

-- the fork of one of the workers was refused, or there was no memory for it; those before it were forked
pub record StopsStaffing {X : Type 0} (token : X → OwnerValue) (s : ℕ) (name : Name) (begun ended : X) (refusal : Refusal) : Type 0 where
  pub number : ℕ
  pub here : X
  pub staffed : Forked token s name begun number here
  pub stopped : ForksUnder (token here) (token ended) s name (Err refusal) ⊎ ((refusal ≡ Memory) × (ended ≡ here))

-- so many workers were forked in scope s, and then its join was answered, this way or that
pub record StaffsAndAsks {X K : Type 0} (token : X → OwnerValue) (reads : K → K → ℕ → Type 0) (time : X → K) (name : Name) (workers : ℕ) (s : ℕ) (begun ended : X) : Type 0 where
  pub there : X
  pub staffed : Forked token s name begun workers there
  pub answered : Result Joined Refusal
  pub after : OwnerValue
  pub joins : JoinsFrom reads (time there) (token there) after s answered

-- a look was made, and this came of each of so many jobs
pub record GivesEach {X V E : Type 0} (token : X → OwnerValue) (seat : X → Option Seen) (may : V → Type 0) (makes : Refusal → E → Type 0) (jobs : ℕ) (old new : X) (cames : List (Came V E)) : Type 0 where
  pub shown : Option Mark
  pub looked : Looked token seat old new shown
  pub each : All (MayCome may shown) cames
  pub all : length cames ≡ jobs

-- what is found by so many workers: this, if they were joined; and if nothing is found, the fork of a worker was refused, or
-- all were forked, and the join was asked for
abbrev pub Maps : {X K C : Type 0} → (X → OwnerValue) → (K → K → ℕ → Type 0) → (X → K) → Name → ℕ → (X → X → C → Type 0) → ℕ → X → X → Result C Refusal → Type 0
Maps {X = X} token reads time name workers gives s begun ended (Ok cames) = (joined : Joined) × (after : X) × Staffs token reads time name workers s begun after joined × gives after ended cames
Maps token reads time name workers gives s begun ended (Err refusal) = StopsStaffing token s name begun ended refusal ⊎ StaffsAndAsks token reads time name workers s begun ended
