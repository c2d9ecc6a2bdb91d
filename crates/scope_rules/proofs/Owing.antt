-- An accepted event pays for what is owed after it.
use Rattle.std.proofs.Common.{[], ℕ, ◌*◌, ◌++◌, ◌+◌, ◌<◌, ◌∙◌, ◌∷◌, ◌≡◌, ◌≤◌, Bool, Err, List, None, Ok, Option, Some, ap, arith, cond, count_by, false, is_some, length, refl, slice_get, suc, true, zero}
use Rattle.scope_rules.specs.{Accepts, BeginClose, Bind, Cancel, Checked, EndClose, Event, Finish, Fork, History.History, Join, Limits, Move, Reject, Start, Tick, Unbind, begin_mark, declared.types.events.Event.TheVariants.Open}
use Rattle.scope_rules.specs.{earliest, end_mark, finish_mark, followed, forking, forking_of, is_fork, is_open, join_mark, known_scope, known_task, lacks, missing, numbered_at, opening, opening_of, owed, range_with_len, row_check}
use Rattle.scope_rules.specs.{scope_check, scope_numbers, take_mark, task_check, task_numbers, weight}
use Rattle.scope_rules.proofs.Words.{sum_by-append}
use Rattle.scope_rules.proofs.{Accepted.checks_at, Accepted.lacks_begin, Accepted.lacks_end, Accepted.lacks_finish, Accepted.lacks_join, Accepted.lacks_take, Accepted.not_not, Accepted.not_refused, Accepted.running_task}
use Rattle.scope_rules.proofs.{Accepted.waiting_task, Missing.missing_lower, Missing.missing_number, Missing.missing_same, Openings.forks_it, Openings.numbered_within, Openings.opens_it}

-- the n-th of a range of numbers
range_at : (a k j : ℕ) → j < k → slice_get (range_with_len a k) j ≡ Some (a + j)
range_at a zero j within = absurd (omega arith)
range_at a (suc k) zero within = ap Some (omega arith)
range_at a (suc k) (suc j) within = range_at (a + 1) k j (omega arith) ∙ ap Some (omega arith)

-- the place of a number among those given
pub record Given (ns : List ℕ) (n : ℕ) : Type 0 where
  pub place : ℕ
  pub there : slice_get ns place ≡ Some n

given_at : (a k n j : ℕ) → j < k → n ≡ a + j + 1 → Given (range_with_len (a + 1) k) n
given_at a k n j within is = record { place = j; there = range_at (a + 1) k j within ∙ ap Some (omega arith) }

given_by : {R : Type 0} (kind : Event → Bool) (shown : ℕ → Event → Option R) (start n : ℕ) (es : List Event) (of_kind : (i : ℕ) (e : Event) (x : R) → shown i e ≡ Some x → kind e ≡ true) (o : Option R)
    → earliest (numbered_at kind shown start es n) (length es) ≡ o → is_some o ≡ true → Given (range_with_len (start + 1) (count_by kind es)) n
given_by kind shown start n es of_kind None is found = absurd cc
given_by kind shown start n es of_kind (Some x) is found =
    let there = numbered_within kind shown start es n of_kind x is in
    given_at start (count_by kind es) n there.0 there.1 there.2

pub if_refused : (b : Bool) (c : Checked) (r : _) → cond b (Err r) c ≡ Ok tt → c ≡ Ok tt
if_refused true c r passed = absurd cc
if_refused false c r passed = passed

-- a scope whose number passed was given it
pub given_scope : (h : History) (s : ℕ) → scope_check h s ≡ Ok tt → Given (scope_numbers h) s
unfolding known_scope opening
given_scope h s passed = given_by is_open opening_of h.base.scopes s h.events opens_it (opening h s) refl (not_not _ (not_refused _ _ (if_refused _ _ _ passed)))

-- a task whose number passed was given it
pub given_task : (h : History) (k : ℕ) → task_check h k ≡ Ok tt → Given (task_numbers h) k
unfolding known_task forking
given_task h k passed = given_by is_fork forking_of h.base.tasks k h.events forks_it (forking h k) refl (not_not _ (not_refused _ _ (if_refused _ _ _ passed)))

pub count_push : (kind : Event → Bool) (es : List Event) (e : Event) → count_by kind (es ++ e ∷ []) ≡ count_by kind es + cond (kind e) 1 0
count_push kind es e = sum_by-append (λ x. cond (kind x) 1 0) es (e ∷ []) ∙ omega arith

numbers_by : (mark : Event → Option ℕ) (a k m : ℕ) (b : Bool) (es : List Event) → m ≡ k + cond b 1 0 → missing mark (range_with_len a m) es ≤ missing mark (range_with_len a k) es + cond b 1 0
numbers_by mark a k m true es is = rw is (missing_number mark a k es)
numbers_by mark a k m false es is = let same : m ≡ k = is ∙ omega arith in rw same (omega arith)

-- one event more: a number more if it is of the kind that is numbered, and nothing more is missing otherwise
numbered_missing : (mark : Event → Option ℕ) (kind : Event → Bool) (first : ℕ) (h : History) (e : Event)
    → missing mark (range_with_len first (count_by kind (followed h e).events)) (h.events ++ e ∷ []) ≤ missing mark (range_with_len first (count_by kind h.events)) h.events + cond (kind e) 1 0
numbered_missing mark kind first h e =
    let number = numbers_by mark first (count_by kind h.events) (count_by kind (followed h e).events) (kind e) (h.events ++ e ∷ []) (count_push kind h.events e) in
    let event = missing_same mark (range_with_len first (count_by kind h.events)) h.events e in
    omega (arith, number, event)

scopes_missing : (mark : Event → Option ℕ) (h : History) (e : Event) → missing mark (scope_numbers (followed h e)) (h.events ++ e ∷ []) ≤ missing mark (scope_numbers h) h.events + cond (is_open e) 1 0
scopes_missing mark h e = numbered_missing mark is_open (h.base.scopes + 1) h e

tasks_missing : (mark : Event → Option ℕ) (h : History) (e : Event) → missing mark (task_numbers (followed h e)) (h.events ++ e ∷ []) ≤ missing mark (task_numbers h) h.events + cond (is_fork e) 1 0
tasks_missing mark h e = numbered_missing mark is_fork (h.base.tasks + 1) h e

-- an event that was missing for a number, and isn't numbered itself
numbered_lower : (mark : Event → Option ℕ) (kind : Event → Bool) (first : ℕ) (h : History) (e : Event) (n : ℕ) → kind e ≡ false → Given (range_with_len first (count_by kind h.events)) n → lacks mark h.events n ≡ true → mark e ≡ Some n
    → missing mark (range_with_len first (count_by kind (followed h e).events)) (h.events ++ e ∷ []) + 1 ≤ missing mark (range_with_len first (count_by kind h.events)) h.events
numbered_lower mark kind first h e n other given lacked is =
    let number = numbers_by mark first (count_by kind h.events) (count_by kind (followed h e).events) (kind e) (h.events ++ e ∷ []) (count_push kind h.events e) in
    let none : cond {A = ℕ} (kind e) 1 0 ≡ 0 = ap (λ b. cond {A = ℕ} b 1 0) other in
    let event = missing_lower mark (range_with_len first (count_by kind h.events)) h.events e given.place n given.there lacked is in
    omega (arith, number, event, none)

scope_lower : (mark : Event → Option ℕ) (h : History) (e : Event) (s : ℕ) → is_open e ≡ false → Given (scope_numbers h) s → lacks mark h.events s ≡ true → mark e ≡ Some s
    → missing mark (scope_numbers (followed h e)) (h.events ++ e ∷ []) + 1 ≤ missing mark (scope_numbers h) h.events
scope_lower mark h e s other given lacked is = numbered_lower mark is_open (h.base.scopes + 1) h e s other given lacked is

task_lower : (mark : Event → Option ℕ) (h : History) (e : Event) (k : ℕ) → is_fork e ≡ false → Given (task_numbers h) k → lacks mark h.events k ≡ true → mark e ≡ Some k
    → missing mark (task_numbers (followed h e)) (h.events ++ e ∷ []) + 1 ≤ missing mark (task_numbers h) h.events
task_lower mark h e k other given lacked is = numbered_lower mark is_fork (h.base.tasks + 1) h e k other given lacked is

abbrev one_if : Bool → ℕ
one_if b = cond {A = ℕ} b 1 0

-- an event that pays for what it makes owed
paid_more : (h : History) (e : Event) → one_if (is_open e) * 3 + one_if (is_fork e) * 2 + 1 ≤ weight e → owed (followed h e) + 1 ≤ owed h + weight e
unfolding owed
paid_more h e pays =
    omega (arith, pays, scopes_missing join_mark h e, scopes_missing begin_mark h e, scopes_missing end_mark h e, tasks_missing take_mark h e, tasks_missing finish_mark h e)

-- an event that was owed to a scope
paid_scope_join : (h : History) (e : Event) (s : ℕ) → Given (scope_numbers h) s → lacks join_mark h.events s ≡ true → join_mark e ≡ Some s → is_open e ≡ false → is_fork e ≡ false → owed (followed h e) + 1 ≤ owed h
unfolding owed
paid_scope_join h e s given lacked is opens_none forks_none =
    let no_scope : one_if (is_open e) ≡ 0 = ap one_if opens_none in
    let no_task : one_if (is_fork e) ≡ 0 = ap one_if forks_none in
    omega (arith, no_scope, no_task, scope_lower join_mark h e s opens_none given lacked is, scopes_missing begin_mark h e, scopes_missing end_mark h e, tasks_missing take_mark h e, tasks_missing finish_mark h e)

paid_scope_begin : (h : History) (e : Event) (s : ℕ) → Given (scope_numbers h) s → lacks begin_mark h.events s ≡ true → begin_mark e ≡ Some s → is_open e ≡ false → is_fork e ≡ false → owed (followed h e) + 1 ≤ owed h
unfolding owed
paid_scope_begin h e s given lacked is opens_none forks_none =
    let no_scope : one_if (is_open e) ≡ 0 = ap one_if opens_none in
    let no_task : one_if (is_fork e) ≡ 0 = ap one_if forks_none in
    omega (arith, no_scope, no_task, scopes_missing join_mark h e, scope_lower begin_mark h e s opens_none given lacked is, scopes_missing end_mark h e, tasks_missing take_mark h e, tasks_missing finish_mark h e)

paid_scope_end : (h : History) (e : Event) (s : ℕ) → Given (scope_numbers h) s → lacks end_mark h.events s ≡ true → end_mark e ≡ Some s → is_open e ≡ false → is_fork e ≡ false → owed (followed h e) + 1 ≤ owed h
unfolding owed
paid_scope_end h e s given lacked is opens_none forks_none =
    let no_scope : one_if (is_open e) ≡ 0 = ap one_if opens_none in
    let no_task : one_if (is_fork e) ≡ 0 = ap one_if forks_none in
    omega (arith, no_scope, no_task, scopes_missing join_mark h e, scopes_missing begin_mark h e, scope_lower end_mark h e s opens_none given lacked is, tasks_missing take_mark h e, tasks_missing finish_mark h e)

-- an event that was owed to a task
paid_task_take : (h : History) (e : Event) (k : ℕ) → Given (task_numbers h) k → lacks take_mark h.events k ≡ true → take_mark e ≡ Some k → is_open e ≡ false → is_fork e ≡ false → owed (followed h e) + 1 ≤ owed h
unfolding owed
paid_task_take h e k given lacked is opens_none forks_none =
    let no_scope : one_if (is_open e) ≡ 0 = ap one_if opens_none in
    let no_task : one_if (is_fork e) ≡ 0 = ap one_if forks_none in
    omega (arith, no_scope, no_task, scopes_missing join_mark h e, scopes_missing begin_mark h e, scopes_missing end_mark h e, task_lower take_mark h e k forks_none given lacked is, tasks_missing finish_mark h e)

paid_task_finish : (h : History) (e : Event) (k : ℕ) → Given (task_numbers h) k → lacks finish_mark h.events k ≡ true → finish_mark e ≡ Some k → is_open e ≡ false → is_fork e ≡ false → owed (followed h e) + 1 ≤ owed h
unfolding owed
paid_task_finish h e k given lacked is opens_none forks_none =
    let no_scope : one_if (is_open e) ≡ 0 = ap one_if opens_none in
    let no_task : one_if (is_fork e) ≡ 0 = ap one_if forks_none in
    omega (arith, no_scope, no_task, scopes_missing join_mark h e, scopes_missing begin_mark h e, scopes_missing end_mark h e, tasks_missing take_mark h e, task_lower finish_mark h e k forks_none given lacked is)

-- what an accepted event takes has not been taken
rejected_lacks : (L : Limits) (h : History) (k : ℕ) → Accepts L h (Reject k) → Given (task_numbers h) k × (lacks take_mark h.events k ≡ true)
unfolding row_check
rejected_lacks L h k ok =
    let waits = waiting_task h k (not_not _ (not_refused _ _ (checks_at _ 1 _ ok.passed refl))) in
    (given_task h k (checks_at _ 0 _ ok.passed refl), lacks_take h k waits.0 waits.1)

started_lacks : (L : Limits) (h : History) (k : ℕ) → Accepts L h (Start k) → Given (task_numbers h) k × (lacks take_mark h.events k ≡ true)
unfolding row_check
started_lacks L h k ok =
    let waits = waiting_task h k (not_not _ (not_refused _ _ (checks_at _ 1 _ ok.passed refl))) in
    (given_task h k (checks_at _ 0 _ ok.passed refl), lacks_take h k waits.0 waits.1)

finished_lacks : (L : Limits) (h : History) (k : ℕ) (end : _) → Accepts L h (Finish k end) → Given (task_numbers h) k × (lacks finish_mark h.events k ≡ true)
unfolding row_check
finished_lacks L h k end ok =
    (given_task h k (checks_at _ 0 _ ok.passed refl), lacks_finish h k (running_task h k (not_not _ (not_refused _ _ (checks_at _ 1 _ ok.passed refl)))))

joined_lacks : (L : Limits) (h : History) (a s : ℕ) → Accepts L h (Join a s) → Given (scope_numbers h) s × (lacks join_mark h.events s ≡ true)
unfolding row_check
joined_lacks L h a s ok = (given_scope h s (checks_at _ 1 _ ok.passed refl), lacks_join h s (not_refused _ _ (checks_at _ 4 _ ok.passed refl)))

begun_lacks : (L : Limits) (h : History) (a s : ℕ) → Accepts L h (BeginClose a s) → Given (scope_numbers h) s × (lacks begin_mark h.events s ≡ true)
unfolding row_check
begun_lacks L h a s ok = (given_scope h s (checks_at _ 1 _ ok.passed refl), lacks_begin h s ok.recorded)

ended_lacks : (L : Limits) (h : History) (a s : ℕ) → Accepts L h (EndClose a s) → Given (scope_numbers h) s × (lacks end_mark h.events s ≡ true)
unfolding row_check
ended_lacks L h a s ok = (given_scope h s (checks_at _ 1 _ ok.passed refl), lacks_end h s (not_refused _ _ (checks_at _ 4 _ ok.passed refl)))

-- what an accepted event pays for covers what is owed after it
pub owed_event : (L : Limits) (h : History) (e : Event) → Accepts L h e → owed (followed h e) + 1 ≤ owed h + weight e
owed_event L h (Open actor policy options) ok = paid_more h (Open actor policy options) (omega arith)
owed_event L h (Fork actor scope label) ok = paid_more h (Fork actor scope label) (omega arith)
owed_event L h (Cancel scope) ok = paid_more h (Cancel scope) (omega arith)
owed_event L h (Move scope deadline) ok = paid_more h (Move scope deadline) (omega arith)
owed_event L h (Tick now) ok = paid_more h (Tick now) (omega arith)
owed_event L h (Bind actor pair) ok = paid_more h (Bind actor pair) (omega arith)
owed_event L h (Unbind actor) ok = paid_more h (Unbind actor) (omega arith)
owed_event L h (Reject task) ok = let it = rejected_lacks L h task ok in omega (arith, paid_task_take h (Reject task) task it.0 it.1 refl refl refl)
owed_event L h (Start task) ok = let it = started_lacks L h task ok in omega (arith, paid_task_take h (Start task) task it.0 it.1 refl refl refl)
owed_event L h (Finish task end) ok = let it = finished_lacks L h task end ok in omega (arith, paid_task_finish h (Finish task end) task it.0 it.1 refl refl refl)
owed_event L h (Join actor scope) ok = let it = joined_lacks L h actor scope ok in omega (arith, paid_scope_join h (Join actor scope) scope it.0 it.1 refl refl refl)
owed_event L h (BeginClose actor scope) ok = let it = begun_lacks L h actor scope ok in omega (arith, paid_scope_begin h (BeginClose actor scope) scope it.0 it.1 refl refl refl)
owed_event L h (EndClose actor scope) ok = let it = ended_lacks L h actor scope ok in omega (arith, paid_scope_end h (EndClose actor scope) scope it.0 it.1 refl refl refl)
