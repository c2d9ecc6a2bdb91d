-- A scope whose close has begun is cancelled.
use Rattle.std.proofs.Common.{[], ℕ, ◌∙◌, ◌∷◌, ◌≡◌, None, Option, Some, ap, arith, cond, inl, inr, is_some, length, option_map, refl, sym, true}
use Rattle.realm_core.specs.{BeginClose, CauseKind, Close, Deadline, Event, FirstCancel, History, IsEarliest, Joiner, Legal, Limits, Opening, Origin, OwnCancel, begins_closing, chain, closing, direct_kind, earliest, first_cancel}
use Rattle.realm_core.specs.{followed, is_cancelled, joiner_fires, opening, option_or, outer, overdue, own, own_cancel}
use Rattle.realm_core.proofs.Words.{along, cancel_earliest, chain_outwards, closing_grows, closing_opened, or_cases, own_from, own_next}

-- ---- its beginning is a cancel of its own

ClosingIsOwned : History → Type 0
ClosingIsOwned h = (s : ℕ) (o : Opening) → opening h s ≡ Some o → closing h s ≡ true → own h s ≡ None → ⊥

owned_start : (b : Origin) → ClosingIsOwned (record { base = b; events = [] })
unfolding ClosingIsOwned opening earliest
owned_start b s o is begun none = absurd cc

none_first : {A : Type 0} (o p : Option A) → option_or o p ≡ None → o ≡ None
none_first None p none = refl
none_first (Some x) p none = absurd cc

none_then : {A : Type 0} (o p : Option A) → option_or o p ≡ None → p ≡ None
none_then None p none = none
none_then (Some x) p none = absurd cc

direct : (h : History) (e : Event) (s : ℕ) → begins_closing h s e ≡ true → direct_kind h s e ≡ Some Close
direct h (BeginClose actor scope) s so = ap (λ b. cond b (Some Close) None) so
direct h _ s so = absurd cc

kind_none : (k : Option CauseKind) (rest : Option CauseKind) (n : ℕ) → k ≡ Some Close → option_map (own_from n) (option_or k rest) ≡ None → ⊥
kind_none None rest n is none = absurd cc
kind_none (Some c) rest n is none = absurd cc

owned_step : (L : Limits) (h : History) (e : Event) → Legal L h → ClosingIsOwned h → ClosingIsOwned (followed h e)
unfolding ClosingIsOwned
owned_step L h e legal so s o is begun none =
    let both = sym (own_next h e s o is) ∙ none in
    elim (or_cases (closing h s) (begins_closing h s e) (sym (closing_grows h e s) ∙ begun)) [
      | inl was ↦
          let it = closing_opened L h s legal was in
          so s it.opened it.is was (none_first _ _ both)
      | inr now ↦
          kind_none (direct_kind h s e) (cond (joiner_fires (followed h e) s e) (Some Joiner) (cond (overdue (followed h e) s) (Some Deadline) None)) (length h.events) (direct h e s now) (none_then _ _ both)
    ]

closing_owned : (L : Limits) (h : History) (s : ℕ) (o : Opening) → Legal L h → opening h s ≡ Some o → closing h s ≡ true → own h s ≡ None → ⊥
unfolding ClosingIsOwned
closing_owned L h s o legal is begun none = along L ClosingIsOwned owned_start (λ g e lawful ok so. owned_step L g e lawful so) h legal s o is begun none

-- ---- so it is cancelled

cancel_none : (own : ℕ → Option FirstCancel) (s : ℕ) (ss : _) (c : Option FirstCancel) → IsEarliest own (s ∷ ss) c → c ≡ None → own s ≡ None
cancel_none own s ss None first none = first 0 (omega arith)
cancel_none own s ss (Some c) first none = absurd cc

some_where : (o : Option FirstCancel) → (o ≡ None → ⊥) → is_some o ≡ true
some_where None not_none = absurd (not_none refl)
some_where (Some c) not_none = refl

unowned : (o : Option OwnCancel) (f : OwnCancel → FirstCancel) → option_map f o ≡ None → o ≡ None
unowned None f none = refl
unowned (Some w) f none = absurd cc

pub closing_cancelled : (L : Limits) (h : History) (s : ℕ) → Legal L h → closing h s ≡ true → is_cancelled h s ≡ true
unfolding is_cancelled first_cancel chain
closing_cancelled L h s legal begun =
    let it = closing_opened L h s legal begun in
    some_where (first_cancel h s) (λ none.
    let first = cancel_earliest (outer h) (own_cancel h) s in
    let at_front = rw (chain_outwards L h s legal) at first in
    closing_owned L h s it.opened legal it.is begun (unowned (own h s) _ (cancel_none (own_cancel h) s _ _ at_front none)))
