-- The own cancel that one event more gives a scope, by its kind and the deadline that counts.
use Rattle.std.proofs.Common.{[], ℕ, ◌&&◌, ◌∙◌, ◌≡◌, Bool, None, Option, Some, ap, cond, false, is_some, length, nat_le, not, option_map, refl, true}
use Rattle.scope_index.specs.{CauseKind, Deadline, Event, FirstCancel, History, Joiner, Legal, Limits, Opening, Origin, OwnCancel, cancel_at, counting_deadline, deadline, direct_kind, earliest, followed, is_past, joined}
use Rattle.scope_index.specs.{joiner_fires, moment, opening, option_map_or, option_or, overdue, own, own_cancel}
use Rattle.scope_index.proofs.Words.{along, kind_next, own_from, own_next}

-- a cancel by the event itself, by the joiner, or by the deadline, whichever comes first
abbrev pub kind_told : Option CauseKind → Bool → ℕ → Option ℕ → Option CauseKind
kind_told direct fires now deadline = option_or direct (cond fires (Some Joiner) (cond (is_past now deadline) (Some Deadline) None))

past_by : (j : Bool) (now : ℕ) (d : Option ℕ) → (not j && option_map_or (λ x. nat_le x now) d false) ≡ is_past now (cond j None d)
past_by true now d = refl
past_by false now None = refl
past_by false now (Some d) = refl

-- a scope is overdue if the deadline that counts is at or before the moment
pub overdue_counting : (h : History) (s : ℕ) → overdue h s ≡ is_past (moment h) (counting_deadline h s)
unfolding overdue counting_deadline
overdue_counting h s = past_by (joined h s) (moment h) (deadline h s)

as_cancel : ℕ → OwnCancel → FirstCancel
as_cancel s w = cancel_at w.place s w.kind

map_either : {A B : Type 0} (f : A → B) (o p : Option A) → option_map f (option_or o p) ≡ option_or (option_map f o) (option_map f p)
map_either f None p = refl
map_either f (Some x) p = refl

map_twice : (s place : ℕ) (k : Option CauseKind) → option_map (as_cancel s) (option_map (own_from place) k) ≡ option_map (λ x. cancel_at place s x) k
unfolding as_cancel
map_twice s place None = refl
map_twice s place (Some k) = refl

-- the own cancel of a scope that is opened by then stays, or is the event's
pub own_cancel_next : (h : History) (e : Event) (s : ℕ) (o : Opening) → opening (followed h e) s ≡ Some o
    → own_cancel (followed h e) s ≡ option_or (own_cancel h s) (option_map (λ k. cancel_at (length h.events) s k) (kind_told (direct_kind h s e) (joiner_fires (followed h e) s e) (moment (followed h e)) (counting_deadline (followed h e) s)))
unfolding as_cancel
own_cancel_next h e s o is =
    ap (option_map (as_cancel s)) (own_next h e s o is)
    ∙ (map_either (as_cancel s) (own h s) (option_map (own_from (length h.events)) (kind_next h e s))
    ∙ (ap (option_or (own_cancel h s)) (map_twice s (length h.events) (kind_next h e s))
    ∙ ap (λ b. option_or (own_cancel h s) (option_map (λ k. cancel_at (length h.events) s k) (option_or (direct_kind h s e) (cond (joiner_fires (followed h e) s e) (Some Joiner) (cond b (Some Deadline) None))))) (overdue_counting (followed h e) s)))

-- a scope whose deadline passed has an own cancel
OverdueIsCancelled : History → Type 0
OverdueIsCancelled h = (s : ℕ) (o : Opening) → opening h s ≡ Some o → is_past (moment h) (counting_deadline h s) ≡ true → is_some (own_cancel h s) ≡ true

overdue_start : (b : Origin) → OverdueIsCancelled (record { base = b; events = [] })
unfolding OverdueIsCancelled opening earliest
overdue_start b s o is past = absurd cc

pub some_either : {A : Type 0} (o p : Option A) → is_some p ≡ true → is_some (option_or o p) ≡ true
some_either None p some = some
some_either (Some x) p some = refl

kind_past : (direct : Option CauseKind) (fires b : Bool) (place s : ℕ) → b ≡ true → is_some (option_map (λ k. cancel_at place s k) (option_or direct (cond fires (Some Joiner) (cond b (Some Deadline) None)))) ≡ true
kind_past (Some k) fires b place s past = refl
kind_past None true b place s past = refl
kind_past None false b place s past = ap (λ x. is_some (option_map (λ k. cancel_at place s k) (cond x (Some Deadline) None))) past

overdue_step : (h : History) (e : Event) → OverdueIsCancelled (followed h e)
unfolding OverdueIsCancelled
overdue_step h e s o is past =
    ap is_some (own_cancel_next h e s o is) ∙ some_either (own_cancel h s) _ (kind_past (direct_kind h s e) (joiner_fires (followed h e) s e) _ (length h.events) s past)

-- in a legal history a scope whose deadline passed has an own cancel
pub overdue_cancelled : (L : Limits) (h : History) (s : ℕ) (o : Opening) → Legal L h → opening h s ≡ Some o → is_past (moment h) (counting_deadline h s) ≡ true → is_some (own_cancel h s) ≡ true
unfolding OverdueIsCancelled
overdue_cancelled L h s o legal is past = along L OverdueIsCancelled overdue_start (λ g e lawful ok was. overdue_step g e) h legal s o is past
