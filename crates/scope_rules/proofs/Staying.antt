-- A cancelled scope of a legal history stays cancelled, with its cause.
use Rattle.std.proofs.Common.{[], ℕ, ◌+◌, ◌<◌, ◌∙◌, ◌∷◌, ◌≡◌, ◌≤◌, ◌⊎◌, Bool, List, None, Option, Some, ap, arith, cond, false, inl, inr, is_some, length, nat_le, option_map, refl, slice_get, subst, suc, sym, true, zero}
use Rattle.scope_rules.specs.{Cause, CauseKind, Event, FirstCancel, History.History, Legal.Legal, Limits, Opening, OwnCancel, Tick, before, cause, chain_by, earliest_on, first_cancel, first_cancel_by, followed, kind_by, nearer}
use Rattle.scope_rules.specs.{onward, opening, option_and_then, option_or, outer, outwards, own, own_at, own_cancel, surrounding}
use Rattle.scope_rules.proofs.Words.{le-leb, leb-true}
use Rattle.scope_rules.proofs.{Earlier.opening_within, Growing.opening_stays, Growing.own_grows, Nesting.IsOpened, Nesting.opened_before, Nesting.opened_some, Nesting.outer_opened, Nesting.same_onward, Openings.and_then_some}
use Rattle.scope_rules.proofs.{Openings.if_some, Pushing.before_push, Searching.earliest_where}

-- an own cancel, as a first cancel
abbrev pub cancel_of : ℕ → OwnCancel → FirstCancel
cancel_of s w = record { place = w.place; cause = record { scope = s; kind = w.kind } }

-- how a first cancel goes on: what there is stays, and what is new comes at place n or later
pub record Grows (n : ℕ) (o p : Option FirstCancel) : Type 0 where
  pub kept : (c : FirstCancel) → o ≡ Some c → (p ≡ Some c) × (c.place < n)
  pub fresh : (c : FirstCancel) → o ≡ None → p ≡ Some c → n ≤ c.place

cond_cancel : (b : Bool) (x y c : FirstCancel) → cond b (Some x) (Some y) ≡ Some c → (x ≡ c) ⊎ (y ≡ c)
cond_cancel true x y c is = inl cc
cond_cancel false x y c is = inr cc

cond_none : (b : Bool) (x y : FirstCancel) → cond b (Some x) (Some y) ≡ None → ⊥
cond_none true x y is = absurd cc
cond_none false x y is = absurd cc

lower_place : (n : ℕ) (x c : FirstCancel) → x ≡ c → x.place < n → c.place < n
lower_place n x c same low = subst (λ (y : FirstCancel). y.place < n) same low

higher_place : (n : ℕ) (x c : FirstCancel) → x ≡ c → n ≤ x.place → n ≤ c.place
higher_place n x c same high = subst (λ (y : FirstCancel). n ≤ y.place) same high

both : (n : ℕ) (x y : FirstCancel) → x.place < n → y.place < n → Grows n (nearer (Some x) (Some y)) (nearer (Some x) (Some y))
both n x y first second = record {
  kept = λ c is. (is, elim (cond_cancel (nat_le x.place y.place) x y c is) [ inl same ↦ lower_place n x c same first | inr same ↦ lower_place n y c same second ]);
  fresh = λ c none is. absurd (cond_none (nat_le x.place y.place) x y none);
}

near_stays : (n : ℕ) (x : FirstCancel) (far : Option FirstCancel) → x.place < n → ((c : FirstCancel) → far ≡ Some c → n ≤ c.place) → nearer (Some x) far ≡ Some x
near_stays n x None low high = refl
near_stays n x (Some y) low high =
    let less : nat_le x.place y.place ≡ true = le-leb x.place y.place (omega (arith, low, high y refl)) in
    ap (λ b. cond b (Some x) (Some y)) less

far_by : (b : Bool) (x y : FirstCancel) → b ≡ false → cond b (Some x) (Some y) ≡ Some y
far_by true x y is = absurd cc
far_by false x y is = refl

above : (m n : ℕ) (b : Bool) → nat_le m n ≡ b → n < m → b ≡ false
above m n true is more = absurd (omega (arith, leb-true m n is, more))
above m n false is more = refl

far_stays : (n : ℕ) (y : FirstCancel) (near : Option FirstCancel) → y.place < n → ((c : FirstCancel) → near ≡ Some c → n ≤ c.place) → nearer near (Some y) ≡ Some y
far_stays n y None low high = refl
far_stays n y (Some x) low high = far_by (nat_le x.place y.place) x y (above x.place y.place (nat_le x.place y.place) refl (omega (arith, low, high x refl)))

new_only : (n : ℕ) (a b : Option FirstCancel) (c : FirstCancel) → ((x : FirstCancel) → a ≡ Some x → n ≤ x.place) → ((x : FirstCancel) → b ≡ Some x → n ≤ x.place) → nearer a b ≡ Some c → n ≤ c.place
new_only n None b c first second is = second c is
new_only n (Some x) None c first second is = first c is
new_only n (Some x) (Some y) c first second is =
    elim (cond_cancel (nat_le x.place y.place) x y c is) [ inl same ↦ higher_place n x c same (first x refl) | inr same ↦ higher_place n y c same (second y refl) ]

-- the nearer of two goes on as they do
nearer_grows : (n : ℕ) (a b a' b' : Option FirstCancel) → Grows n a a' → Grows n b b' → Grows n (nearer a b) (nearer a' b')
nearer_grows n None None a' b' first second = record {
  kept = λ c is. absurd cc;
  fresh = λ c none is. new_only n a' b' c (λ x it. first.fresh x refl it) (λ x it. second.fresh x refl it) is;
}
nearer_grows n (Some x) None a' b' first second =
    let stays = first.kept x refl in
    record {
      kept = λ c is. (
        ap (λ o. nearer o b') stays.0 ∙ (near_stays n x b' stays.1 (λ y it. second.fresh y refl it) ∙ is),
        lower_place n x c (cc) stays.1,
      );
      fresh = λ c none is. absurd cc;
    }
nearer_grows n None (Some y) a' b' first second =
    let stays = second.kept y refl in
    record {
      kept = λ c is. (
        ap (nearer a') stays.0 ∙ (far_stays n y a' stays.1 (λ x it. first.fresh x refl it) ∙ is),
        lower_place n y c (cc) stays.1,
      );
      fresh = λ c none is. absurd cc;
    }
nearer_grows n (Some x) (Some y) a' b' first second =
    let near = first.kept x refl in
    let far = second.kept y refl in
    rw near.0 (rw far.0 (both n x y near.1 far.1))

placed : (i : ℕ) (k : Option CauseKind) (w : OwnCancel) → option_map (λ (x : CauseKind). record { place = i; kind = x }) k ≡ Some w → w.place ≡ i
placed i None w is = absurd cc
placed i (Some x) w is = let same : record { place = i; kind = x } ≡ w = cc in sym (ap (λ (y : OwnCancel). y.place) same)

-- an own cancel stands at its place, in a scope that was opened by then
own_at_place : (h : History) (s i : ℕ) (w : OwnCancel) → own_at h s i ≡ Some w → (w.place ≡ i) × (is_some (opening (before h (i + 1)) s) ≡ true)
unfolding own_at
own_at_place h s i w is =
    let test = if_some (is_some (opening (before h (i + 1)) s)) (option_and_then (λ e. option_map (λ (k : CauseKind). record { place = i; kind = k }) (kind_by h s i e)) (slice_get h.events i)) w is in
    let entry = and_then_some (λ (e : Event). option_map (λ (k : CauseKind). record { place = i; kind = k }) (kind_by h s i e)) (slice_get h.events i) w test.1 in
    (placed i (kind_by h s i entry.0) w entry.2, test.0)

-- an own cancel stands in the history, and its scope was opened
pub own_place : (h : History) (s : ℕ) (w : OwnCancel) → own h s ≡ Some w → (w.place < length h.events) × IsOpened h s
unfolding own
own_place h s w is =
    let there = earliest_where (own_at h s) w (length h.events) is in
    let at = own_at_place h s there.0 w there.2 in
    (omega (arith, there.1, at.0), opened_before h (there.0 + 1) s (opened_some (before h (there.0 + 1)) s (opening (before h (there.0 + 1)) s) refl at.1))

cancel_place : (h : History) (s : ℕ) (o : Option OwnCancel) (c : FirstCancel) → own h s ≡ o → option_map (cancel_of s) o ≡ Some c → (w : OwnCancel) × (own h s ≡ Some w) × (cancel_of s w ≡ c)
cancel_place h s None c is found = absurd cc
cancel_place h s (Some w) c is found = (w, is, cc)

own_none : (h : History) (s : ℕ) (o : Option OwnCancel) → own h s ≡ o → option_map (cancel_of s) o ≡ None → own h s ≡ None
own_none h s None is none = is
own_none h s (Some w) is none = absurd cc

-- the own cancel of a scope goes on so
own_cancel_grows : (h : History) (e : Event) (s : ℕ) → Grows (length h.events) (own_cancel h s) (own_cancel (followed h e) s)
own_cancel_grows h e s = record {
  kept = λ c is.
      let it = cancel_place h s (own h s) c refl is in
      let stays : own (followed h e) s ≡ Some it.0 = own_grows h e s ∙ ap (λ o. option_or o (own_at (followed h e) s (length h.events))) it.1 in
      (ap (option_map (cancel_of s)) stays ∙ ap Some it.2, lower_place (length h.events) (cancel_of s it.0) c it.2 (own_place h s it.0 it.1).0);
  fresh = λ c none is.
      let it = cancel_place (followed h e) s (own (followed h e) s) c refl is in
      let here : own_at (followed h e) s (length h.events) ≡ Some it.0 = sym (ap (λ o. option_or o (own_at (followed h e) s (length h.events))) (own_none h s (own h s) refl none)) ∙ (sym (own_grows h e s) ∙ it.1) in
      higher_place (length h.events) (cancel_of s it.0) c it.2 (omega (arith, (own_at_place (followed h e) s (length h.events) it.0 here).0));
}

earliest_grows : (h : History) (e : Event) (ss : List ℕ) → Grows (length h.events) (earliest_on (own_cancel h) ss) (earliest_on (own_cancel (followed h e)) ss)
earliest_grows h e [] = record { kept = λ c is. absurd cc; fresh = λ c none is. absurd cc }
earliest_grows h e (s ∷ ss) = nearer_grows (length h.events) (own_cancel h s) (earliest_on (own_cancel h) ss) (own_cancel (followed h e) s) (earliest_on (own_cancel (followed h e)) ss) (own_cancel_grows h e s) (earliest_grows h e ss)

-- the outer scope of a scope stays
pub outer_stays : (h : History) (e : Event) (s : ℕ) → IsOpened h s → outer (followed h e) s ≡ outer h s
unfolding outer
outer_stays h e s it =
    let o = it.opened in
    let same : before (followed h e) o.place ≡ before h o.place = before_push h e o.place (omega (arith, opening_within h s o it.is)) in
    rw (opening_stays h e s o it.is) (rw it.is (ap (λ (g : History). cond o.options.shield None (surrounding g o.actor)) same))

chain_stays : (L : Limits) (h : History) (e : Event) (n s : ℕ) → Legal L h → IsOpened h s → outwards (outer (followed h e)) n s ≡ outwards (outer h) n s
chain_stays L h e zero s legal it = refl
chain_stays L h e (suc n) s legal it =
    ap (λ xs. s ∷ xs) (ap (λ o. onward o (outwards (outer (followed h e)) n)) (outer_stays h e s it)
    ∙ same_onward (outwards (outer (followed h e)) n) (outwards (outer h) n) (outer h s) (λ p is. chain_stays L h e n p legal (outer_opened L h s p legal is).0))

-- a scope that was never opened isn't cancelled
pub own_unopened : (h : History) (s : ℕ) (o : Option OwnCancel) → opening h s ≡ None → own h s ≡ o → o ≡ None
own_unopened h s None none is = refl
own_unopened h s (Some w) none is = let it = (own_place h s w is).1 in absurd (cc (it.is, none))

outer_unopened : (h : History) (s : ℕ) → opening h s ≡ None → outer h s ≡ None
unfolding outer
outer_unopened h s none = rw none refl

chain_unopened : (h : History) (s : ℕ) → opening h s ≡ None → chain_by (outer h) s ≡ s ∷ []
unfolding chain_by
chain_unopened h s none = ap (λ o. s ∷ onward o (outwards (outer h) s)) (outer_unopened h s none)

-- what is first cancel was opened
pub cancel_opened : (h : History) (s : ℕ) (c : FirstCancel) (o : Option Opening) → first_cancel h s ≡ Some c → opening h s ≡ o → IsOpened h s
unfolding first_cancel first_cancel_by
cancel_opened h s c (Some o) found is = record { opened = o; is = is }
cancel_opened h s c None found is =
    let alone : earliest_on (own_cancel h) (chain_by (outer h) s) ≡ earliest_on (own_cancel h) (s ∷ []) = ap (earliest_on (own_cancel h)) (chain_unopened h s is) in
    let none : own h s ≡ None = own_unopened h s (own h s) is refl in
    let no_first_cancel : nearer (own_cancel h s) None ≡ None = ap (λ o. nearer (option_map (cancel_of s) o) None) none in
    absurd (cc (alone, no_first_cancel, found))

-- a first cancel never moves once it stands
pub cancel_stays : (L : Limits) (h : History) (e : Event) (s : ℕ) (c : FirstCancel) → Legal L h → first_cancel h s ≡ Some c → first_cancel (followed h e) s ≡ Some c
unfolding first_cancel first_cancel_by chain_by
cancel_stays L h e s c legal found =
    let it = cancel_opened h s c (opening h s) found refl in
    ap (earliest_on (own_cancel (followed h e))) (chain_stays L h e (suc s) s legal it)
    ∙ ((earliest_grows h e (outwards (outer h) (suc s) s)).kept c found).0

-- how the first cancel of a scope goes on
pub cancel_grows : (L : Limits) (h : History) (e : Event) (s : ℕ) → Legal L h → IsOpened h s → Grows (length h.events) (first_cancel h s) (first_cancel (followed h e) s)
unfolding first_cancel first_cancel_by chain_by
cancel_grows L h e s legal it =
    let P : List ℕ → Type 0 = λ ss. Grows (length h.events) (earliest_on (own_cancel h) (outwards (outer h) (suc s) s)) (earliest_on (own_cancel (followed h e)) ss) in
    subst P (sym (chain_stays L h e (suc s) s legal it)) (earliest_grows h e (outwards (outer h) (suc s) s))

-- a first cancel stands at a place of the history
pub cancel_within_history : (h : History) (s : ℕ) (c : FirstCancel) → first_cancel h s ≡ Some c → c.place < length h.events
unfolding first_cancel first_cancel_by
cancel_within_history h s c is = ((earliest_grows h (Tick 0) (chain_by (outer h) s)).kept c is).1

cause_cancel : (o : Option FirstCancel) (c : Cause) → option_map (λ (x : FirstCancel). x.cause) o ≡ Some c → (d : FirstCancel) × (o ≡ Some d) × (d.cause ≡ c)
cause_cancel None c is = absurd cc
cause_cancel (Some d) c is = (d, refl, cc)

-- a cancelled scope stays cancelled, with its cause
pub cause_stays : (L : Limits) (h : History) (e : Event) (s : ℕ) (c : Cause) → Legal L h → cause h s ≡ Some c → cause (followed h e) s ≡ Some c
unfolding cause
cause_stays L h e s c legal is =
    let it = cause_cancel (first_cancel h s) c is in
    ap (option_map (λ (x : FirstCancel). x.cause)) (cancel_stays L h e s it.0 legal it.1) ∙ ap Some it.2
