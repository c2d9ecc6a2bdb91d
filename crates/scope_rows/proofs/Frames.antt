-- What one event more leaves of a row.
use Rattle.std.proofs.Common.{ℕ, ◌||◌, ◌∙◌, ◌≡◌, Bool, None, Option, Some, ap, arith, cond, false, length, refl, true}
use Rattle.scope_rows.specs.{Counts, Event, Finish, Finished, History, IsScopeRow, IsTaskRow, Legal, Limits, Never, Running, ScopeRow, Stage, State, TaskRow, Waiting, begins_closing, begins_for, closed, closing, counts, ending_of}
use Rattle.scope_rows.specs.{ends, finishes, followed, inner_of, innermost, joining, joins, option_or, rejects, stack, stage, starts, state, violated}
use Rattle.scope_rows.proofs.Words.{before_push, closed_grows, closing_grows, forking_stays, opening_stays, opening_within, option_or-none, parent_stays, stage_same, state_stays, tally, violated_grows}
use Rattle.scope_rows.proofs.Joinings.{joining_grows}

-- a row after one event more, by what the event may change
pub scope_on : (h : History) (e : Event) (s : ℕ) (r : ScopeRow) (j : Option ℕ) (b c v : Bool) (n : Counts) → IsScopeRow h s r
    → joining (followed h e) s ≡ j → closing (followed h e) s ≡ b → closed (followed h e) s ≡ c → violated (followed h e) s ≡ v → counts (followed h e) s ≡ n
    → IsScopeRow (followed h e) s (record r { joined = j; closing = b; closed = c; violated = v; counts = n })
scope_on h e s r j b c v n it joined closing closed violated counts =
    let within = opening_within h s r.opening it.opening in
    let then = before_push h e r.opening.place (omega arith) in
    record {
      opening = opening_stays h e s r.opening it.opening;
      parent = parent_stays h e s (record { opened = r.opening; is = it.opening }) ∙ it.parent;
      below = ap (λ (g : History). innermost g r.opening.actor) then ∙ it.below;
      height = ap (λ (g : History). length (stack g r.opening.actor)) then ∙ it.height;
      joined = joined;
      closing = closing;
      closed = closed;
      violated = violated;
      counts = counts;
    }

-- an alternative that fails adds nothing
pub or_from_none : (b c : Bool) → c ≡ false → (b || c) ≡ b
or_from_none true c none = refl
or_from_none false c none = none

-- an event that doesn't join the scope leaves the place of its join
pub joining_same : (h : History) (e : Event) (s : ℕ) → joins s e ≡ false → joining (followed h e) s ≡ joining h s
joining_same h e s none = joining_grows h e s ∙ (ap (λ b. option_or (joining h s) (cond b (Some (length h.events)) None)) none ∙ option_or-none (joining h s))

-- an event that begins no close of the scope leaves whether it is closing
pub closing_same : (h : History) (e : Event) (s : ℕ) → begins_closing h s e ≡ false → closing (followed h e) s ≡ closing h s
closing_same h e s none = closing_grows h e s ∙ or_from_none (closing h s) (begins_closing h s e) none

-- an event that ends no close of the scope leaves whether it is closed
pub closed_same : (h : History) (e : Event) (s : ℕ) → ends s e ≡ false → closed (followed h e) s ≡ closed h s
closed_same h e s none = closed_grows h e s ∙ or_from_none (closed h s) (ends s e) none

-- an event that begins no close of the scope for itself leaves whether it was out of order
pub violated_same : (h : History) (e : Event) (s : ℕ) → begins_for h s e ≡ false → violated (followed h e) s ≡ violated h s
violated_same h e s none = violated_grows h e s ∙ or_from_none (violated h s) (begins_for h s e) none

-- an event that says nothing of the scope leaves its row
pub scope_index : (h : History) (e : Event) (s : ℕ) (r : ScopeRow) → IsScopeRow h s r → joins s e ≡ false → begins_closing h s e ≡ false → ends s e ≡ false → begins_for h s e ≡ false → counts (followed h e) s ≡ counts h s
    → IsScopeRow (followed h e) s r
scope_index h e s r it unjoined unbegun unended unviolated same =
    scope_on h e s r r.joined r.closing r.closed r.violated r.counts it
    (joining_same h e s unjoined ∙ it.joined) (closing_same h e s unbegun ∙ it.closing) (closed_same h e s unended ∙ it.closed) (violated_same h e s unviolated ∙ it.violated) (same ∙ it.counts)

-- a row of a task after one event more, by what the event may change
pub task_on : (h : History) (e : Event) (k : ℕ) (r : TaskRow) (x : Stage) (y : State) (n : ℕ) → IsTaskRow h k r
    → stage (followed h e) k ≡ x → state (followed h e) k ≡ y → innermost (followed h e) k ≡ inner_of n
    → IsTaskRow (followed h e) k (record r { stage = x; state = y; innermost = n })
task_on h e k r x y n it stage state innermost = record {
  forked = it.forked;
  is = forking_stays h e k it.forked it.is;
  scope = it.scope;
  place = it.place;
  stage = stage;
  state = state;
  innermost = innermost;
}

-- an event that doesn't finish the task is no end of it
pub no_end : (k i : ℕ) (e : Event) → finishes k e ≡ false → ending_of k i e ≡ None
no_end k i (Finish task end) none = ap (λ b. cond b (Some (record { place = i; end = end })) None) none
no_end k i _ none = refl

-- an event that says nothing of the task leaves its stage and state
pub task_moved : (L : Limits) (h : History) (e : Event) (k : ℕ) (r : TaskRow) (n : ℕ) → Legal L h → IsTaskRow h k r → rejects k e ≡ false → starts k e ≡ false → finishes k e ≡ false → innermost (followed h e) k ≡ inner_of n
    → IsTaskRow (followed h e) k (record r { innermost = n })
task_moved L h e k r n legal it unrejected unstarted unfinished inner =
    task_on h e k r r.stage r.state n it
    (stage_same L h e k it.forked legal it.is unrejected unstarted unfinished ∙ it.stage)
    (state_stays L h e k it.forked legal it.is (no_end k (length h.events) e unfinished) ∙ it.state)
    inner

-- and its row, if the innermost scope stays
pub task_kept : (L : Limits) (h : History) (e : Event) (k : ℕ) (r : TaskRow) → Legal L h → IsTaskRow h k r → rejects k e ≡ false → starts k e ≡ false → finishes k e ≡ false → innermost (followed h e) k ≡ innermost h k
    → IsTaskRow (followed h e) k r
task_kept L h e k r legal it unrejected unstarted unfinished same =
    task_moved L h e k r r.innermost legal it unrejected unstarted unfinished (same ∙ it.innermost)

-- the counts of a scope, by its tallies
pub counts_by : (h : History) (s : ℕ) (a b c d : ℕ) → tally h s Never ≡ a → tally h s Waiting ≡ b → tally h s Running ≡ c → tally h s Finished ≡ d
    → counts h s ≡ record { never = a; waiting = b; running = c; finished = d }
unfolding counts
counts_by h s a b c d never waiting running finished = rw (never, waiting, running, finished) refl

-- the tallies of a scope, by its counts
pub record AreTallies (h : History) (s : ℕ) (n : Counts) : Type 0 where
  pub never : tally h s Never ≡ n.never
  pub waiting : tally h s Waiting ≡ n.waiting
  pub running : tally h s Running ≡ n.running
  pub finished : tally h s Finished ≡ n.finished

-- equal counts give equal tallies
pub tallies_of : (h : History) (s : ℕ) (n : Counts) → counts h s ≡ n → AreTallies h s n
unfolding counts
tallies_of h s n is = record {
  never = ap (λ (c : Counts). c.never) is;
  waiting = ap (λ (c : Counts). c.waiting) is;
  running = ap (λ (c : Counts). c.running) is;
  finished = ap (λ (c : Counts). c.finished) is;
}

-- equal tallies give equal counts
pub counts_same : (h g : History) (s : ℕ) → ((x : Stage) → tally g s x ≡ tally h s x) → counts g s ≡ counts h s
unfolding counts
counts_same h g s same = rw (same Never, same Waiting, same Running, same Finished) refl
