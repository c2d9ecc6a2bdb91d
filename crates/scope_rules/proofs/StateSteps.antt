-- What one event more makes of the ends and states of tasks.
use Rattle.std.proofs.Common.{[], ℕ, ◌++◌, ◌<◌, ◌==◌, ◌∙◌, ◌∷◌, ◌≡◌, ◌≤◌, Bool, List, None, Option, Some, ap, arith, cond, false, length, length-append, refl, slice_get, suc, sym, true, zero}
use Rattle.scope_rules.specs.{EndValue, Ending, Event, Finish, Forking, History.History, Legal.Legal, Limits, declared.types.answers.State.TheVariants.Unavailable, earliest, ending, ending_at, ending_of, finished, finishes}
use Rattle.scope_rules.specs.{followed, forking, is_cancelled, list_any, option_and_then, option_map_or, option_or, state, state_by_end, state_of}
use Rattle.scope_rules.proofs.Words.{eq-eqb}
use Rattle.scope_rules.proofs.{Accepted.or_left, Accepted.or_right, ChainsGrow.cancelled_before_stays, ChainsGrow.cancelled_by_now, Growing.forking_stays, Nesting.forked_opened, OneEventMore.last_event, Openings.and_then_some}
use Rattle.scope_rules.proofs.{Prefixes.get_push, Searching.earliest_same, Searching.earliest_where}

ending_earlier : (h : History) (e : Event) (k i : ℕ) → i < length h.events → ending_at (followed h e) k i ≡ ending_at h k i
ending_earlier h e k i within = ap (option_and_then (ending_of k i)) (get_push h.events e i within)

-- the end of a task stays, or is the event
pub ending_grows : (h : History) (e : Event) (k : ℕ) → ending (followed h e) k ≡ option_or (ending h k) (ending_of k (length h.events) e)
unfolding ending earliest
ending_grows h e k =
    let longer : length (h.events ++ e ∷ []) ≡ suc (length h.events) = length-append h.events (e ∷ []) ∙ omega arith in
    rw longer
    (rw (earliest_same (ending_at (followed h e) k) (ending_at h k) (length h.events) (λ i within. ending_earlier h e k i within))
    (ap (λ o. option_or (ending h k) (option_and_then (ending_of k (length h.events)) o)) (last_event h.events e)))

-- an end stands at its place
ending_placed : (k i : ℕ) (e : Event) (x : Ending) → ending_of k i e ≡ Some x → x.place ≡ i
ending_placed k i (Finish task end) x is = placed (task == k) is
  where
    placed : (b : Bool) → cond b (Some (record { place = i; end = end })) None ≡ Some x → x.place ≡ i
    placed true same = let it : record { place = i; end = end } ≡ x = cc in sym (ap (λ (y : Ending). y.place) it)
    placed false same = absurd cc
ending_placed k i _ x is = absurd cc

-- an end stands in the history
pub ending_within : (h : History) (k : ℕ) (x : Ending) → ending h k ≡ Some x → x.place < length h.events
unfolding ending
ending_within h k x is =
    let there = earliest_where (ending_at h k) x (length h.events) is in
    let entry = and_then_some (ending_of k there.0) (slice_get h.events there.0) x there.2 in
    omega (arith, there.1, ending_placed k there.0 entry.0 x entry.2)

finishes_it : (k i : ℕ) (e : Event) (x : Ending) → ending_of k i e ≡ Some x → finishes k e ≡ true
finishes_it k i (Finish task end) x is = by (task == k) is
  where
    by : (b : Bool) → cond b (Some (record { place = i; end = end })) None ≡ Some x → b ≡ true
    by true same = refl
    by false same = absurd cc
finishes_it k i _ x is = absurd cc

none_finishes : (k : ℕ) (es : List Event) (i : ℕ) (e : Event) → list_any (finishes k) es ≡ false → slice_get es i ≡ Some e → finishes k e ≡ false
none_finishes k [] i e none at = absurd cc
none_finishes k (x ∷ es) zero e none at = let same : x ≡ e = cc in ap (finishes k) (sym same) ∙ or_left (finishes k x) (list_any (finishes k) es) none
none_finishes k (x ∷ es) (suc i) e none at = none_finishes k es i e (or_right (finishes k x) (list_any (finishes k) es) none) at

unended : (h : History) (k : ℕ) (o : Option Ending) → finished h k ≡ false → ending h k ≡ o → o ≡ None
unfolding ending finished
unended h k None none is = refl
unended h k (Some x) none is =
    let there = earliest_where (ending_at h k) x (length h.events) is in
    let entry = and_then_some (ending_of k there.0) (slice_get h.events there.0) x there.2 in
    absurd (cc (none_finishes k h.events there.0 entry.0 none entry.1, finishes_it k there.0 entry.0 x entry.2))

-- a task that has not finished has no end
pub no_ending : (h : History) (k : ℕ) → finished h k ≡ false → ending h k ≡ None
no_ending h k none = unended h k (ending h k) none refl

-- the state of a forked task, by its end
pub state_is : (h : History) (k : ℕ) (f : Forking) → forking h k ≡ Some f → state h k ≡ option_map_or (state_of h f) (ending h k) Unavailable
unfolding state
state_is h k f is = ap (λ (o : Option Forking). option_map_or (λ (x : Forking). option_map_or (state_of h x) (ending h k) Unavailable) o Unavailable) is

same_state : (L : Limits) (h : History) (e : Event) (k : ℕ) (f : Forking) (x : Ending) → Legal L h → forking h k ≡ Some f → x.place ≤ length h.events
    → state_of (followed h e) f x ≡ state_of h f x
same_state L h e k f x legal is within =
    ap (λ b. cond b Unavailable (state_by_end x.end)) (cancelled_before_stays L h e f.scope x.place legal (forked_opened L h k f legal is) within)

kept_by : (L : Limits) (h : History) (e : Event) (k : ℕ) (f : Forking) (o : Option Ending) → Legal L h → forking h k ≡ Some f → ending h k ≡ o
    → option_map_or (state_of (followed h e) f) o Unavailable ≡ option_map_or (state_of h f) o Unavailable
kept_by L h e k f None legal is end = refl
kept_by L h e k f (Some x) legal is end = same_state L h e k f x legal is (omega (arith, ending_within h k x end))

or_nothing : {A : Type 0} (o p : Option A) → p ≡ None → option_or o p ≡ o
or_nothing None p none = none
or_nothing (Some x) p none = refl

-- the state of a forked task that the event does not end stays
pub state_stays : (L : Limits) (h : History) (e : Event) (k : ℕ) (f : Forking) → Legal L h → forking h k ≡ Some f → ending_of k (length h.events) e ≡ None → state (followed h e) k ≡ state h k
state_stays L h e k f legal is other =
    state_is (followed h e) k f (forking_stays h e k f is)
    ∙ (ap (λ o. option_map_or (state_of (followed h e) f) o Unavailable) (ending_grows h e k ∙ or_nothing (ending h k) (ending_of k (length h.events) e) other)
    ∙ (kept_by L h e k f (ending h k) legal is refl
    ∙ sym (state_is h k f is)))

-- a task that ends can be read by its end, unless its scope is cancelled by then
pub state_ended : (L : Limits) (h : History) (k : ℕ) (end : EndValue) (f : Forking) → Legal L h → forking h k ≡ Some f → finished h k ≡ false
    → state (followed h (Finish k end)) k ≡ cond (is_cancelled h f.scope) Unavailable (state_by_end end)
state_ended L h k end f legal is none =
    let e = Finish k end in
    let it = forked_opened L h k f legal is in
    let here : ending_of k (length h.events) e ≡ Some (record { place = length h.events; end = end }) = ap (λ b. cond b (Some (record { place = length h.events; end = end })) None) (eq-eqb k k refl) in
    state_is (followed h e) k f (forking_stays h e k f is)
    ∙ (ap (λ o. option_map_or (state_of (followed h e) f) o Unavailable) (ending_grows h e k ∙ (ap (λ o. option_or o (ending_of k (length h.events) e)) (no_ending h k none) ∙ here))
    ∙ (same_state L h e k f (record { place = length h.events; end = end }) legal is (omega arith)
    ∙ ap (λ b. cond b Unavailable (state_by_end end)) (cancelled_by_now h f.scope it)))
