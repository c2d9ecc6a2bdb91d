-- In a legal history what lies around a scope was opened before it.
use Rattle.std.proofs.Common.{[], ℕ, ◌&&◌, ◌++◌, ◌+◌, ◌<◌, ◌==◌, ◌∙◌, ◌∷◌, ◌≡◌, ◌≤◌, Bool, List, None, Option, Some, ap, append_assoc, arith, cond, drop, false, is_some, not, option_map, refl, slice_get, subst, suc, sym, take}
use Rattle.std.proofs.Common.{true, zero}
use Rattle.scope_rules.specs.{Accepts, Event, Fork, Forking, History.History, IsInward, Legal.Legal, Limits, Opening, around, before, chain, closed, followed, forked_in, forking, forking_of, innermost, is_fork, known_scope}
use Rattle.scope_rules.specs.{onward, opened_count, opening, option_or, outer, row_check, surrounding, unclosed_of}
use Rattle.scope_rules.proofs.Words.{append-nil, take-append-drop}
use Rattle.scope_rules.proofs.{Accepted.checks_at, Accepted.not_not, Accepted.not_refused, ChainLaws.chain_law, Earlier.before_of_before, Earlier.scope_given, Growing.numbered_entry, Growing.opening_number, Growing.opening_stays}
use Rattle.scope_rules.proofs.{Openings.and_then_some, Openings.if_some, Owing.if_refused, Searching.latest_where}

-- a scope with this number was opened
pub record IsOpened (h : History) (s : ℕ) : Type 0 where
  pub opened : Opening
  pub is : opening h s ≡ Some opened

pub opened_some : (h : History) (s : ℕ) (o : Option Opening) → opening h s ≡ o → is_some o ≡ true → IsOpened h s
opened_some h s None is found = absurd cc
opened_some h s (Some o) is found = record { opened = o; is = is }

-- an actor's innermost scope was opened
innermost_opened : (h : History) (a p : ℕ) → innermost h a ≡ Some p → IsOpened h p
unfolding innermost
innermost_opened h a p found =
    let there = latest_where (unclosed_of h a) p (opened_count h) found in
    let s = h.base.scopes + 1 + there.0 in
    let entry = and_then_some (λ o. cond ((o.actor == a) && not (closed h s)) (Some s) None) (opening h s) p there.2 in
    let test = if_some ((entry.0.actor == a) && not (closed h s)) (Some s) p entry.2 in
    let same : s ≡ p = cc (test.1) in
    record { opened = entry.0; is = ap (opening h) (sym same) ∙ entry.1 }

-- a prefix of a legal history is legal
entry_before : (es : List Event) (n i : ℕ) (e : Event) → slice_get (take n es) i ≡ Some e → (i < n) × (slice_get es i ≡ Some e)
entry_before es zero i e at = absurd cc
entry_before [] (suc n) i e at = absurd cc
entry_before (x ∷ es) (suc n) zero e at = (omega arith, at)
entry_before (x ∷ es) (suc n) (suc i) e at = let it = entry_before es n i e at in (omega (arith, it.0), it.1)

take_shorter : (es : List Event) (n i : ℕ) → i ≤ n → take i (take n es) ≡ take i es
take_shorter es n zero within = refl
take_shorter es zero (suc i) within = absurd (omega arith)
take_shorter [] (suc n) (suc i) within = refl
take_shorter (x ∷ es) (suc n) (suc i) within = ap (λ xs. x ∷ xs) (take_shorter es n i (omega arith))

pub legal_before : (L : Limits) (h : History) (n : ℕ) → Legal L h → Legal L (before h n)
unfolding Legal
legal_before L h n legal i e at =
    let it = entry_before h.events n i e at in
    subst (λ (g : History). Accepts L g e) (sym (before_of_before h n i (omega (arith, it.0)))) (legal i e it.1)

opening_append : (h : History) (more : List Event) (s : ℕ) (o : Opening) → opening h s ≡ Some o → opening (record { base = h.base; events = h.events ++ more }) s ≡ Some o
opening_append h [] s o is = ap (λ es. opening (record { base = h.base; events = es }) s) (append-nil h.events) ∙ is
opening_append h (e ∷ more) s o is =
    ap (λ es. opening (record { base = h.base; events = es }) s) (sym (append_assoc h.events (e ∷ []) more))
    ∙ opening_append (followed h e) more s o (opening_stays h e s o is)

-- what was opened before a place is opened
pub opened_before : (h : History) (n s : ℕ) → IsOpened (before h n) s → IsOpened h s
opened_before h n s it = record {
  opened = it.opened;
  is = ap (λ es. opening (record { base = h.base; events = es }) s) (sym (take-append-drop n h.events)) ∙ opening_append (before h n) (drop n h.events) s it.opened it.is;
}

-- the scope of an accepted fork was opened before it
fork_accepted : (L : Limits) (g : History) (i : ℕ) (e : Event) (f : Forking) → forking_of i e ≡ Some f → Accepts L g e → IsOpened g f.scope
unfolding row_check known_scope
fork_accepted L g i (Fork actor scope label) f is ok =
    let same : record { place = i; actor = actor; scope = scope; label = label } ≡ f = cc in
    let there = opened_some g scope (opening g scope) refl (not_not _ (not_refused _ _ (if_refused _ _ _ (checks_at _ 1 _ ok.passed refl)))) in
    subst (λ (x : Forking). IsOpened g x.scope) same there
fork_accepted L g i _ f is ok = absurd cc

pub forked_opened : (L : Limits) (h : History) (a : ℕ) (f : Forking) → Legal L h → forking h a ≡ Some f → IsOpened h f.scope
unfolding forking Legal
forked_opened L h a f legal is =
    let it = numbered_entry is_fork forking_of h.base.tasks a h.events f is in
    opened_before h it.0 f.scope (fork_accepted L (before h it.0) it.0 it.1 f it.3 (legal it.0 it.1 it.2))

forked_by : (L : Limits) (h : History) (a p : ℕ) (o : Option Forking) → Legal L h → forking h a ≡ o → option_map (λ (f : Forking). f.scope) o ≡ Some p → IsOpened h p
forked_by L h a p None legal is found = absurd cc
forked_by L h a p (Some f) legal is found =
    let same : f.scope ≡ p = cc in
    subst (λ (n : ℕ). IsOpened h n) same (forked_opened L h a f legal is)

surrounding_by : (L : Limits) (h : History) (a p : ℕ) (o : Option ℕ) → Legal L h → innermost h a ≡ o → option_or o (forked_in h a) ≡ Some p → IsOpened h p
surrounding_by L h a p None legal is found = forked_by L h a p (forking h a) legal refl found
surrounding_by L h a p (Some q) legal is found = innermost_opened h a p (is ∙ found)

-- what surrounds an actor was opened
pub surrounding_opened : (L : Limits) (h : History) (a p : ℕ) → Legal L h → surrounding h a ≡ Some p → IsOpened h p
unfolding surrounding
surrounding_opened L h a p legal found = surrounding_by L h a p (innermost h a) legal refl found

not_shielded : (b : Bool) (o : Option ℕ) (p : ℕ) → cond b None o ≡ Some p → o ≡ Some p
not_shielded true o p is = absurd cc
not_shielded false o p is = is

-- the outer scope was opened before the scope
pub outer_opened : (L : Limits) (h : History) (s p : ℕ) → Legal L h → outer h s ≡ Some p → IsOpened h p × ((1 ≤ p) × (p < s))
unfolding outer
outer_opened L h s p legal is =
    let there = and_then_some (λ (o : Opening). cond o.options.shield None (around h o)) (opening h s) p is in
    let o = there.0 in
    let around_it : surrounding (before h o.place) o.actor ≡ Some p = not_shielded o.options.shield (around h o) p there.2 in
    let found = surrounding_opened L (before h o.place) o.actor p (legal_before L h o.place legal) around_it in
    let number = scope_given (before h o.place) p found.opened found.is in
    let own_number = opening_number h s o there.1 in
    (opened_before h o.place p found, (omega (arith, number.0), omega (arith, number.1, own_number)))

pub same_onward : (f g : ℕ → List ℕ) (o : Option ℕ) → ((p : ℕ) → o ≡ Some p → f p ≡ g p) → onward o f ≡ onward o g
same_onward f g None same = refl
same_onward f g (Some p) same = same p refl

-- in a legal history each outer scope has a smaller number
pub outer_inward : (L : Limits) (h : History) → Legal L h → IsInward (outer h)
outer_inward L h legal s p is = (outer_opened L h s p legal is).1

-- the chain of a scope is the scope and the chain of its outer scope
pub chain_outwards : (L : Limits) (h : History) (s : ℕ) → Legal L h → chain h s ≡ s ∷ onward (outer h s) (chain h)
unfolding chain
chain_outwards L h s legal = chain_law (outer h) (outer_inward L h legal) s

pub outer_smaller : (L : Limits) (h : History) (s p : ℕ) → Legal L h → outer h s ≡ Some p → (1 ≤ p) × (p < s)
outer_smaller L h s p legal is = (outer_opened L h s p legal is).1
