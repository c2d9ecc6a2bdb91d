-- In a legal history what lies around a scope stays, and its first cancel stays, or is new.
use Rattle.std.proofs.Common.{[], ℕ, ◌<◌, ◌∙◌, ◌∷◌, ◌≡◌, ◌≤◌, Bool, None, Option, Some, ap, arith, false, is_some, length, length-append, max, nat_lt, option_map, refl, sym}
use Rattle.scope_rules.specs.{Event, FirstCancel, History.History, Legal.Legal, Limits, Opening, around, cancelled_at, cancelled_before, first_cancel, followed, is_cancelled, opening, option_and_then, option_map_or, parent}
use Rattle.scope_rules.specs.{surrounding}
use Rattle.scope_rules.proofs.Words.{le-ltb, lt-ltb}
use Rattle.scope_rules.proofs.{Earlier.opening_within, Growing.opening_stays, Nesting.IsOpened, Pushing.before_push, Staying.cancel_grows, Staying.cancel_stays, Staying.cancel_within_history}

around_stays : (h : History) (e : Event) (s : ℕ) (o : Opening) → opening h s ≡ Some o → around (followed h e) o ≡ around h o
around_stays h e s o is = ap (λ (g : History). surrounding g o.actor) (before_push h e o.place (omega (arith, opening_within h s o is)))

-- the parent of a scope stays
pub parent_stays : (h : History) (e : Event) (s : ℕ) → IsOpened h s → parent (followed h e) s ≡ parent h s
unfolding parent
parent_stays h e s it = rw (opening_stays h e s it.opened it.is) (rw it.is (around_stays h e s it.opened it.is))

-- the first cancel of an opened scope that had none is the event's
pub cancel_new : (L : Limits) (h : History) (e : Event) (s : ℕ) (c : FirstCancel) → Legal L h → IsOpened h s → first_cancel h s ≡ None → first_cancel (followed h e) s ≡ Some c → c.place ≡ length h.events
cancel_new L h e s c legal it none is =
    let new = (cancel_grows L h e s legal it).fresh c none is in
    let within = cancel_within_history (followed h e) s c is in
    omega (arith, new, within, length-append h.events (e ∷ []))

-- the first cancel comes before place i, and so does the opening
abbrev is_early : Opening → ℕ → Option FirstCancel → Bool
is_early o i c = option_map_or (λ (f : ℕ). nat_lt f i) (option_map (λ (x : FirstCancel). max o.place x.place) c) false

cancelled_before_is : (h : History) (s i : ℕ) (o : Opening) → opening h s ≡ Some o → cancelled_before h s i ≡ is_early o i (first_cancel h s)
unfolding cancelled_before cancelled_at
cancelled_before_is h s i o is = ap (λ (x : Option Opening). option_map_or (λ (f : ℕ). nat_lt f i) (option_and_then (λ (y : Opening). option_map (λ (c : FirstCancel). max y.place c.place) (first_cancel h s)) x) false) is

same_early : (o : Opening) (i n : ℕ) (c d : Option FirstCancel) → i ≤ n → ((x : FirstCancel) → c ≡ Some x → d ≡ Some x) → ((x : FirstCancel) → c ≡ None → d ≡ Some x → x.place ≡ n) → is_early o i d ≡ is_early o i c
same_early o i n (Some x) d within kept new = ap (is_early o i) (kept x refl)
same_early o i n None None within kept new = refl
same_early o i n None (Some x) within kept new = le-ltb (max o.place x.place) i (omega (arith, new x refl refl))

-- whether an opened scope became cancelled before a place, at most the last, stays
pub cancelled_before_stays : (L : Limits) (h : History) (e : Event) (s i : ℕ) → Legal L h → IsOpened h s → i ≤ length h.events → cancelled_before (followed h e) s i ≡ cancelled_before h s i
cancelled_before_stays L h e s i legal it within =
    cancelled_before_is (followed h e) s i it.opened (opening_stays h e s it.opened it.is)
    ∙ (same_early it.opened i (length h.events) (first_cancel h s) (first_cancel (followed h e) s) within (λ c is. cancel_stays L h e s c legal is) (λ c none is. cancel_new L h e s c legal it none is)
    ∙ sym (cancelled_before_is h s i it.opened it.is))

early_now : (o : Opening) (n : ℕ) (c : Option FirstCancel) → o.place < n → ((x : FirstCancel) → c ≡ Some x → x.place < n) → is_early o n c ≡ is_some c
early_now o n None opened within = refl
early_now o n (Some x) opened within = lt-ltb (max o.place x.place) n (omega (arith, within x refl))

-- an opened scope is cancelled where it became so before the next event
pub cancelled_by_now : (h : History) (s : ℕ) → IsOpened h s → cancelled_before h s (length h.events) ≡ is_cancelled h s
unfolding is_cancelled
cancelled_by_now h s it =
    cancelled_before_is h s (length h.events) it.opened it.is
    ∙ early_now it.opened (length h.events) (first_cancel h s) (opening_within h s it.opened it.is) (λ c is. cancel_within_history h s c is)
