-- What was done by waits that look again and again.
use Rattle.std.specs.Prelude.{[], ℕ, ◌++◌, ◌+◌, ◌∷◌, ◌≡◌, All, Bool, Contains, Err, IfOk, IsErrAnd, List, MatchResult, None, Ok, Option, Result, Some, false, is_some, length, remove, true}
use Rattle.scope_rules.specs.declared.types.refusals.Refusal.TheVariants.{Unavailable}
use Rattle.balkreyn.specs.{Came, CameTo, Completes, Fault, FindsDone, FindsNothing, FirstCame, Forked, ForkedInto, Gathers, Gave, GivesEach, IsCame, Joined, JoinsFrom, Looked, Maps, Mark, MayCome, Memory, Name, OfOutcome, Outcome}
use Rattle.balkreyn.specs.{OwnerValue, Passes, Races, Refusal, Seen, SeesMore, SleptLast, SlotValue, Slots.Says, Staffs, StaffsAndAsks, TakesDone, Value, WaitsTurn, task_of}
use Rattle.balkreyn.proofs.Words.{◌∙◌, All-append, All-cons, All-nil, ap, arith, inl, inr, length-append, refl, subst, sym, true≢false}
use Rattle.balkreyn.specs.declared.act.came.Came.TheVariants as came
use Rattle.scope_rules.specs.declared.types.outcomes.Outcome.TheVariants as first

-- a token that has seen more, and then more, has seen more
pub sees_on : (old mid new : OwnerValue) → SeesMore old mid → SeesMore mid new → SeesMore old new
sees_on old mid new first second = second ∙ ap (λ (m : OwnerValue). record m { seen = new.seen }) first

-- a mark was shown in the sleep
pub mark_shown : {X : Type 0} (token : X → OwnerValue) (sleeps : X → X → Result (Option Mark) Refusal → Type 0) (old before new : X) (shown : Option Mark) → is_some shown ≡ true → SeesMore (token old) (token before) → sleeps before new (Ok shown) → (mark : Mark) × SleptLast token sleeps old new (Ok (Some mark))
mark_shown token sleeps old before new (Some mark) some sees slept = (mark, record { before = before; waited = sees; answered = slept })
mark_shown token sleeps old before new None some sees slept = absurd (true≢false (sym some))

-- a sleep later on was one from the begin on
pub slept_later : {X : Type 0} (token : X → OwnerValue) (sleeps : X → X → Result (Option Mark) Refusal → Type 0) (old mid new : X) (slept : Result (Option Mark) Refusal) → SeesMore (token old) (token mid) → SleptLast token sleeps mid new slept → SleptLast token sleeps old new slept
slept_later token sleeps old mid new slept sees it = record { before = it.before; waited = sees_on (token old) (token mid) (token it.before) sees it.waited; answered = it.answered }

module _ {X : Type 0} (token : X → OwnerValue) (pauses : ℕ → X → X → Result (Option Mark) Refusal → Type 0) (old : X) where
  -- the pause before a turn was refused
  pub turn_refused : (new : X) (millis : ℕ) (refusal : Refusal) (result : Result Bool Refusal) → IsErrAnd result (λ r. r ≡ refusal) → SleptLast token (pauses millis) old new (Err refusal) → WaitsTurn token pauses old new result
  turn_refused new millis refusal (Err other) same slept = (millis, subst (λ r. SleptLast token (pauses millis) old new (Err r)) (sym same) slept)
  turn_refused new millis refusal (Ok passed) same slept = absurd same

  -- a turn that was waited for behind the line
  pub turn_later : (mid new : X) → SeesMore (token old) (token mid) → (result : Result Bool Refusal) → WaitsTurn token pauses mid new result → Passes token pauses old new result
  turn_later mid new sees (Ok true) waits = tt
  turn_later mid new sees (Ok false) (millis, mark, slept) = (millis, mark, slept_later token (pauses millis) old mid new (Ok (Some mark)) sees slept)
  turn_later mid new sees (Err refusal) (millis, slept) = inr (millis, slept_later token (pauses millis) old mid new (Err refusal) sees slept)

-- one more of which this is so
pub all_more : {V : Type 0} (P : V → Type 0) (values more : List V) (value : V) → more ≡ values ++ value ∷ [] → All P values → P value → All P more
all_more P values more value same all so = subst (All P) (sym same) (All-append P values (value ∷ []) all (All-cons P value [] so (All-nil P)))

-- what was seen of a slot later was seen from the begin on
pub found_later : {X V E : Type 0} (token : X → OwnerValue) (may : Name → V → Type 0) (makes : Refusal → E → Type 0) (slots : List SlotValue) (old mid new : X) (index task : ℕ) (given : Result V E) → SeesMore (token old) (token mid) → FindsDone token may makes slots mid new index task given → FindsDone token may makes slots old new index task given
found_later token may makes slots old mid new index task given sees it = record {
  slot = it.slot;
  within = it.within;
  here = it.here;
  its = it.its;
  there = it.there;
  waited = sees_on (token old) (token mid) (token it.there) sees it.waited;
  completes = it.completes;
}

-- it is taken out, by a context whose token is the same
pub taken_out : {X V E : Type 0} (token : X → OwnerValue) (may : Name → V → Type 0) (makes : Refusal → E → Type 0) (slots shown left : List SlotValue) (old mid new : X) (index task : ℕ) (found given : Result V E) → shown ≡ slots → token new ≡ token mid → found ≡ given → left ≡ remove slots index → FindsDone token may makes shown old mid index task found → TakesDone token may makes slots left old new task given
taken_out token may makes slots shown left old mid new index task found given seen same is out done =
    let it = subst (λ l. FindsDone token may makes l old mid index task found) seen done in
    record {
      index = index;
      found = record {
        slot = it.slot;
        within = it.within;
        here = it.here;
        its = it.its;
        there = it.there;
        waited = it.waited;
        completes = subst (λ g. Completes (may it.slot.name) makes (token it.there) (token new) task g) is (subst (λ t. Completes (may it.slot.name) makes (token it.there) t task found) (sym same) it.completes);
      };
      taken = out;
    }

-- ---- many jobs

-- no job was forked yet, or one more
pub none_forked : {A B : Type 0} (slots : List A) (rest jobs : List B) → slots ≡ [] → rest ≡ jobs → length slots + length rest ≡ length jobs
none_forked slots rest jobs none all =
    let a : length slots ≡ 0 = ap length none in
    let b : length rest ≡ length jobs = ap length all in
    omega (arith, a, b)

pub one_forked : {A B : Type 0} (slots more : List A) (slot : A) (rest left : List B) (job : B) (jobs : List B) → more ≡ slots ++ slot ∷ [] → rest ≡ job ∷ left → length slots + length rest ≡ length jobs → length more + length left ≡ length jobs
one_forked slots more slot rest left job jobs is at all =
    let a : length more ≡ length slots + 1 = ap length is ∙ length-append slots (slot ∷ []) in
    let b = ap length at in
    omega (arith, a, b, all)

-- it ended by a lack of memory
pub by_memory : {A : Type 0} (P : A → Type 0) (Q : Refusal → Type 0) (result : Result A Refusal) → IsErrAnd result (λ r. r ≡ Memory) → Q Memory → MatchResult result P Q
by_memory P Q (Err refusal) is so = subst Q (sym is) so
by_memory P Q (Ok value) is so = absurd is

-- it ended by an error
pub by_error : {A : Type 0} (P : A → Type 0) (Q R : Refusal → Type 0) (result : Result A Refusal) → IsErrAnd result R → ((refusal : Refusal) → Q refusal) → MatchResult result P Q
by_error P Q R (Err refusal) is all = all refusal
by_error P Q R (Ok value) is all = absurd is

-- what came of the task, whose slot is one of these
pub came_so : {X V E : Type 0} (token : X → OwnerValue) (may : Name → V → Type 0) (makes : Refusal → E → Type 0) (slots : List SlotValue) (old new : X) (slot : SlotValue) (task : ℕ) (answer : Result (Result V E) Refusal) (came : Came V E) → Contains slots slot → task_of slot.reply ≡ task → Says (may slot.name) (token old) (token new) (task_of slot.reply) answer → IsCame makes None answer came → CameTo token may makes None slots old new task came
came_so token may makes slots old new slot task answer came among its says is = record { slot = slot; among = among; its = its; asks = record { answer = answer; says = subst (λ t. Says (may slot.name) (token old) (token new) t answer) its says; is = is } }

-- the outcome names no task
pub of_no_task : {X V E : Type 0} (token : X → OwnerValue) (seat : X → Option Seen) (may : Name → V → Type 0) (makes : Refusal → E → Type 0) (slots : List SlotValue) (old new : X) (outcome : Outcome) (it : Came V E) → ((task : ℕ) (value : Value) → outcome ≡ first.Any task value → ⊥) → ((task : ℕ) (fault : Fault) → outcome ≡ first.Failed task fault → ⊥) → (mark : Mark) × (it ≡ came.Cut mark) × Looked token seat old new (Some mark) → OfOutcome token seat may makes slots old new outcome it
of_no_task token seat may makes slots old new (first.Any task value) it none failed cut = absurd (none task value refl)
of_no_task token seat may makes slots old new (first.Failed task fault) it none failed cut = absurd (failed task fault refl)
of_no_task token seat may makes slots old new (first.All values) it none failed cut = cut
of_no_task token seat may makes slots old new first.Empty it none failed cut = cut
of_no_task token seat may makes slots old new first.Done it none failed cut = cut
of_no_task token seat may makes slots old new (first.List states) it none failed cut = cut
of_no_task token seat may makes slots old new first.Timeout it none failed cut = cut
of_no_task token seat may makes slots old new (first.Partial states) it none failed cut = cut
of_no_task token seat may makes slots old new (first.Cancelled scope) it none failed cut = cut

-- the same of what is said of a result as a whole
pub on_error : {A : Type 0} (P : Result A Refusal → Type 0) (R : Refusal → Type 0) (result : Result A Refusal) → IsErrAnd result R → ((refusal : Refusal) → P (Err refusal)) → P result
on_error P R (Err refusal) is all = all refusal
on_error P R (Ok value) is all = absurd is

module _ {X K V E : Type 0} (token : X → OwnerValue) (reads : K → K → ℕ → Type 0) (time : X → K) (seat : X → Option Seen) (may : Name → V → Type 0) (makes : Refusal → E → Type 0) (s : ℕ) (old there new : X) (slots : List SlotValue) (joined : Joined) where
  -- the outcome names the task of which this came
  pub first_by : JoinsFrom reads (time old) (token old) (token there) s (Ok joined) → (task : ℕ) → ((came : Came V E) → CameTo token may makes None slots there new task came → OfOutcome token seat may makes slots there new joined.outcome came) → (result : Result (Came V E) Refusal) → IfOk result (CameTo token may makes None slots there new task) → MatchResult result (FirstCame token reads time seat may makes s slots old new) (λ _. (answered : Result Joined Refusal) × (after : OwnerValue) × JoinsFrom reads (time old) (token old) after s answered)
  first_by joins task named (Ok came) it = record { joined = joined; there = there; joins = joins; first = named came it }
  first_by joins task named (Err refusal) it = (Ok joined, token there, joins)

module _ {X K V E : Type 0} (token : X → OwnerValue) (reads : K → K → ℕ → Type 0) (time : X → K) (seat : X → Option Seen) (may : Name → V → Type 0) (makes : Refusal → E → Type 0) (name : Name) (jobs s : ℕ) (begun there ended : X) (slots shown : List SlotValue) where
  -- a race of jobs that were all forked
  pub raced_by : ForkedInto token s name begun slots there → length slots ≡ jobs → shown ≡ slots → (result : Result (Came V E) Refusal) → MatchResult result (FirstCame token reads time seat may makes s shown there ended) (λ _. (answered : Result Joined Refusal) × (after : OwnerValue) × JoinsFrom reads (time there) (token there) after s answered) → MatchResult result (Races token reads time seat may makes name jobs s begun ended) (FindsNothing token reads time name jobs s begun ended)
  raced_by forked all same (Ok came) first = record { slots = slots; there = there; forked = forked; all = all; first = subst (λ l. FirstCame token reads time seat may makes s l there ended came) same first }
  raced_by forked all same (Err refusal) asked = inr (record { slots = slots; there = there; forked = forked; all = all; answered = asked.0; after = asked.1; joins = asked.2 })

  -- what was gathered of jobs that were all forked, and joined
  pub gathered_by : ForkedInto token s name begun slots there → length slots ≡ jobs → shown ≡ slots → (after behind : X) (joined : Joined) (mark : Option Mark) → JoinsFrom reads (time there) (token there) (token after) s (Ok joined) → Looked token seat after behind mark → {A : Type 0} (result : Result A Refusal) (items : A → List (Came V E)) → IfOk result (λ cames. Gave token may makes mark shown behind (length shown) (items cames) ended) → MatchResult result (λ cames. Gathers token reads time seat may makes name jobs s begun ended (items cames)) (FindsNothing token reads time name jobs s begun ended)
  gathered_by forked all same after behind joined mark joins looked (Ok cames) items gave = record { slots = slots; there = there; forked = forked; all = all; joined = joined; after = after; joins = joins; behind = behind; shown = mark; looked = looked; gave = subst (λ n. Gave token may makes mark slots behind n (items cames) ended) all (subst (λ l. Gave token may makes mark l behind (length l) (items cames) ended) same gave) }
  gathered_by forked all same after behind joined mark joins looked (Err refusal) items gave = inr (record { slots = slots; there = there; forked = forked; all = all; answered = Ok joined; after = token after; joins = joins })

-- what may have come of a job that left this
pub may_come : {V E : Type 0} (may : V → Type 0) (makes : Refusal → E → Type 0) (shown : Option Mark) (answer : Result (Result V E) Refusal) (came : Came V E) → MatchResult answer (λ found. MatchResult found may (λ _. Unit {0})) (λ refusal. refusal ≡ Unavailable) → IsCame makes shown answer came → MayCome may shown came
may_come may makes shown answer (came.Value value) left is = subst (λ a. MatchResult a (λ found. MatchResult found may (λ _. Unit {0})) (λ refusal. refusal ≡ Unavailable)) is left
may_come may makes shown answer (came.Failed error) left is = tt
may_come may makes shown answer (came.Cut mark) left is = is.1

module _ {X K V E : Type 0} (token : X → OwnerValue) (reads : K → K → ℕ → Type 0) (time : X → K) (seat : X → Option Seen) (may : V → Type 0) (makes : Refusal → E → Type 0) (name : Name) (workers jobs s : ℕ) (begun there after behind : X) (joined : Joined) (shown : Option Mark) where
  -- so many workers were joined, and this is what they left
  pub mapped_by : Forked token s name begun workers there → JoinsFrom reads (time there) (token there) (token after) s (Ok joined) → Looked token seat after behind shown → {C : Type 0} (items : C → List (Came V E)) (result : Result C Refusal) → IfOk result (λ cames. All (MayCome may shown) (items cames) × (length (items cames) ≡ jobs)) → Maps token reads time name workers (λ after new cames. GivesEach token seat may makes jobs after new (items cames)) s begun behind result
  mapped_by staffed joins looked items (Ok cames) it = (joined, after, record { there = there; staffed = staffed; joins = joins }, record { shown = shown; looked = looked; each = it.0; all = it.1 })
  mapped_by staffed joins looked items (Err refusal) it = inr (record { there = there; staffed = staffed; answered = Ok joined; after = token after; joins = joins })

-- so many workers are that many, and what is given so is given as well
pub maps_so : {X K C : Type 0} (token : X → OwnerValue) (reads : K → K → ℕ → Type 0) (time : X → K) (name : Name) (workers other : ℕ) (gives its : X → X → C → Type 0) (s : ℕ) (begun ended : X) → workers ≡ other → ((after : X) (cames : C) → gives after ended cames → its after ended cames) → (found : Result C Refusal) → Maps token reads time name workers gives s begun ended found → Maps token reads time name other its s begun ended found
maps_so token reads time name workers other gives its s begun ended same more (Ok cames) it = (it.0, it.1, subst (λ n. Staffs token reads time name n s begun it.1 it.0) same it.2, more it.1 cames it.3)
maps_so token reads time name workers other gives its s begun ended same more (Err refusal) (inl it) = inl it
maps_so token reads time name workers other gives its s begun ended same more (Err refusal) (inr it) = inr (subst (λ n. StaffsAndAsks token reads time name n s begun ended) same it)
