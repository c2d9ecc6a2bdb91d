-- What follows from a passed row of checks.
use Rattle.std.proofs.Common.{[], ℕ, ◌<◌, ◌==◌, ◌||◌, ◌∙◌, ◌∷◌, ◌≡◌, ◌≤◌, Bool, Err, List, None, Ok, Option, Some, add-one, ap, arith, cond, false, length, not, refl, slice_get, suc, sym, take, true, zero}
use Rattle.scope_rules.specs.{BeginClose, Checked, EndClose, Event, Finish, Finished, Forking, History.History, Join, Refusal, Reject, Running, Scopes.joined, Start, Waiting, begin_mark, cancelled_before, checks, closed, closing}
use Rattle.scope_rules.specs.{closing_at, covers, declared.types.answers.Stage.TheVariants.Never, end_mark, ends, finish_mark, finished, finishes, forking, is_running, is_waiting, join_mark, joins, lacks, list_any, marks}
use Rattle.scope_rules.specs.{option_map_or, refuse_if, rejected, rejects, some_below, stage, stage_of, started, starts, take_mark, then_check}
use Rattle.scope_rules.proofs.Words.{take_all}
use Rattle.scope_rules.proofs.{Numbers.list_any-push, Prefixes.take_at}

then_first : (a b : Checked) → then_check a b ≡ Ok tt → a ≡ Ok tt
unfolding then_check
then_first (Ok tt) b h = refl
then_first (Err r) b h = absurd cc

then_second : (a b : Checked) → then_check a b ≡ Ok tt → b ≡ Ok tt
unfolding then_check
then_second (Ok tt) b h = h
then_second (Err r) b h = absurd cc

-- each check of a passed row passed
pub checks_at : (cs : List Checked) (i : ℕ) (c : Checked) → checks cs ≡ Ok tt → slice_get cs i ≡ Some c → c ≡ Ok tt
unfolding checks
checks_at [] i c passed at = absurd cc
checks_at (d ∷ cs) zero c passed at = let same : d ≡ c = cc in sym same ∙ then_first d (checks cs) passed
checks_at (d ∷ cs) (suc i) c passed at = checks_at cs i c (then_second d (checks cs) passed) at

pub not_refused : (b : Bool) (r : Refusal) → refuse_if b r ≡ Ok tt → b ≡ false
not_refused true r h = absurd cc
not_refused false r h = refl

pub not_not : (b : Bool) → not b ≡ false → b ≡ true
not_not true h = refl
not_not false h = absurd cc

pub or_left : (b c : Bool) → (b || c) ≡ false → b ≡ false
or_left true c h = absurd cc
or_left false c h = refl

pub or_right : (b c : Bool) → (b || c) ≡ false → c ≡ false
or_right true c h = absurd cc
or_right false c h = h

list_any_same : (p q : Event → Bool) (es : List Event) → ((e : Event) → p e ≡ q e) → list_any p es ≡ list_any q es
list_any_same p q [] same = refl
list_any_same p q (e ∷ es) same = rw (same e) (rw (list_any_same p q es same) refl)

join_marks : (s : ℕ) (e : Event) → marks join_mark s e ≡ joins s e
join_marks s (Join actor scope) = refl
join_marks s _ = refl

end_marks : (s : ℕ) (e : Event) → marks end_mark s e ≡ ends s e
end_marks s (EndClose actor scope) = refl
end_marks s _ = refl

or_with_false : (b : Bool) → (b || false) ≡ b
or_with_false true = refl
or_with_false false = refl

take_marks : (k : ℕ) (e : Event) → marks take_mark k e ≡ (rejects k e || starts k e)
take_marks k (Reject task) = sym (or_with_false (task == k))
take_marks k (Start task) = refl
take_marks k _ = refl

finish_marks : (k : ℕ) (e : Event) → marks finish_mark k e ≡ finishes k e
finish_marks k (Finish task end) = refl
finish_marks k _ = refl

pub entry_at : (es : List Event) (i : ℕ) → i < length es → (e : Event) × (slice_get es i ≡ Some e)
entry_at [] i within = absurd (omega arith)
entry_at (e ∷ es) zero within = (e, refl)
entry_at (e ∷ es) (suc i) within = entry_at es i (omega arith)

-- what has not been joined lacks its join
pub lacks_join : (h : History) (s : ℕ) → joined h s ≡ false → lacks join_mark h.events s ≡ true
unfolding joined
lacks_join h s not_yet = ap not (list_any_same (marks join_mark s) (joins s) h.events (join_marks s) ∙ not_yet)

-- what is not closed lacks its end
pub lacks_end : (h : History) (s : ℕ) → closed h s ≡ false → lacks end_mark h.events s ≡ true
unfolding closed
lacks_end h s not_yet = ap not (list_any_same (marks end_mark s) (ends s) h.events (end_marks s) ∙ not_yet)

list_any_or : (p q : Event → Bool) (es : List Event) → list_any p es ≡ false → list_any q es ≡ false → list_any (λ e. p e || q e) es ≡ false
list_any_or p q [] first second = refl
list_any_or p q (e ∷ es) first second =
    rw (or_left (p e) (list_any p es) first)
    (rw (or_left (q e) (list_any q es) second)
    (list_any_or p q es (or_right (p e) (list_any p es) first) (or_right (q e) (list_any q es) second)))

-- what waits lacks its start or reject
pub lacks_take : (h : History) (k : ℕ) → rejected h k ≡ false → started h k ≡ false → lacks take_mark h.events k ≡ true
unfolding rejected started
lacks_take h k not_rejected not_started =
    ap not (list_any_same (marks take_mark k) (λ e. rejects k e || starts k e) h.events (take_marks k) ∙ list_any_or (rejects k) (starts k) h.events not_rejected not_started)

-- what has not ended lacks its end
pub lacks_finish : (h : History) (k : ℕ) → finished h k ≡ false → lacks finish_mark h.events k ≡ true
unfolding finished
lacks_finish h k not_yet = ap not (list_any_same (marks finish_mark k) (finishes k) h.events (finish_marks k) ∙ not_yet)

begin_marks : (h : History) (s i : ℕ) (e : Event) → slice_get h.events i ≡ Some e → closing_at h s i ≡ false → marks begin_mark s e ≡ false
unfolding covers
begin_marks h s i (BeginClose actor scope) at not_here = or_left (scope == s) _ (rw at at not_here)
begin_marks h s i _ at not_here = refl

no_begin : (h : History) (s i : ℕ) → i ≤ length h.events → some_below (closing_at h s) i ≡ false → list_any (marks begin_mark s) (take i h.events) ≡ false
unfolding some_below
no_begin h s zero within not_yet = refl
no_begin h s (suc i) within not_yet =
    let here = entry_at h.events i (omega arith) in
    let before_it = no_begin h s i (omega arith) (or_left (some_below (closing_at h s) i) (closing_at h s i) not_yet) in
    let not_it = begin_marks h s i here.0 here.1 (or_right (some_below (closing_at h s) i) (closing_at h s i) not_yet) in
    rw (add-one i) at (ap (list_any (marks begin_mark s)) (take_at h.events i here.0 here.1) ∙ (list_any-push (marks begin_mark s) (take i h.events) here.0 ∙ (ap (λ b. b || marks begin_mark s here.0) before_it ∙ not_it)))

-- what is not closing lacks the beginning of its close
pub lacks_begin : (h : History) (s : ℕ) → closing h s ≡ false → lacks begin_mark h.events s ≡ true
unfolding closing
lacks_begin h s not_yet =
    ap not (ap (list_any (marks begin_mark s)) (sym (take_all (length h.events) h.events (omega arith))) ∙ no_begin h s (length h.events) (omega arith) not_yet)

waiting_stage : (c r f s : Bool) → is_waiting (cond (c || r) Never (cond f Finished (cond s Running Waiting))) ≡ true → (r ≡ false) × (s ≡ false)
waiting_stage false false false false h = (refl, refl)
waiting_stage _ _ _ _ h = absurd cc

waiting_option : (h : History) (k : ℕ) (o : Option Forking) → is_waiting (option_map_or (stage_of h k) o Never) ≡ true → (rejected h k ≡ false) × (started h k ≡ false)
unfolding stage_of
waiting_option h k None waits = absurd cc
waiting_option h k (Some f) waits = waiting_stage (cancelled_before h f.scope f.place) (rejected h k) (finished h k) (started h k) waits

-- a waiting task was neither rejected nor started
pub waiting_task : (h : History) (k : ℕ) → is_waiting (stage h k) ≡ true → (rejected h k ≡ false) × (started h k ≡ false)
unfolding stage
waiting_task h k waits = waiting_option h k (forking h k) waits

running_stage : (c r f s : Bool) → is_running (cond (c || r) Never (cond f Finished (cond s Running Waiting))) ≡ true → f ≡ false
running_stage false false false true h = refl
running_stage _ _ _ _ h = absurd cc

running_option : (h : History) (k : ℕ) (o : Option Forking) → is_running (option_map_or (stage_of h k) o Never) ≡ true → finished h k ≡ false
unfolding stage_of
running_option h k None runs = absurd cc
running_option h k (Some f) runs = running_stage (cancelled_before h f.scope f.place) (rejected h k) (finished h k) (started h k) runs

-- a running task has not ended
pub running_task : (h : History) (k : ℕ) → is_running (stage h k) ≡ true → finished h k ≡ false
unfolding stage
running_task h k runs = running_option h k (forking h k) runs
