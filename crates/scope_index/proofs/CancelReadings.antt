-- What the table answers is what the history says.
use Rattle.std.proofs.Common.{[], ℕ, ◌+◌, ◌-◌, ◌<◌, ◌∙◌, ◌∷◌, ◌≡◌, ◌≤◌, List, None, Option, Some, ap, arith, false, is_some, length, option_map, refl, slice_get, suc, sym, zero}
use Rattle.scope_index.specs.{AreCancelsOf, CancelTable, FirstCancel, HasRow, History, IfSome, IsInward, IsLatest, Legal, Limits, OwnCancel, ScopeNode, around, before, cancel_of, chain_by, counting_deadline, deadline, deadline_of}
use Rattle.scope_index.specs.{effective, effective_of, first_cancel, is_cancelled, joined, last_of, level, level_in, level_of, move_of, next_level, opening, option_and_then, option_map_or, outer_of, own, own_cancel, own_of}
use Rattle.scope_index.specs.{parent_of, shifted, surrounding}
use Rattle.scope_index.proofs.Words.{IsOpened, and_then_some, cancel_shifted, chain_shifted, effective_shifted, joined_opened, legal_before, length-map, moved_opened, opened_after, opened_before, opening_within, outer_inward}
use Rattle.scope_index.proofs.Words.{outer_opened, own_place, own_unopened, parent_inward, parent_smaller, same_Some, surrounding_opened}
use Rattle.scope_index.proofs.OpenSteps.{false_by, none_by}
use Rattle.scope_rules.specs.Scopes as rules
use Rattle.cancel_tree.specs.Rows as rows

entry_of : (nodes : List ScopeNode) (i : ℕ) → i < length nodes → (t : ScopeNode) × (slice_get nodes i ≡ Some t)
entry_of [] i within = absurd (omega arith)
entry_of (t ∷ ts) zero within = (t, refl)
entry_of (t ∷ ts) (suc i) within = entry_of ts i (omega arith)

-- a scope without a row was never opened
unrowed : (h : History) (t : CancelTable) (n : ℕ) → AreCancelsOf h t → rows.row t.nodes n ≡ None → IsOpened h (t.before + n) → ⊥
unrowed h t zero was none it = let number = opened_after h (t.before + 0) it.opened it.is in absurd (omega (arith, number.2, was.numbered))
unrowed h t (suc i) was none it =
    let number = opened_after h (t.before + suc i) it.opened it.is in
    let entry = entry_of t.nodes i (omega (arith, number.1, number.2, was.numbered, was.count)) in
    absurd (cc (none, entry.1))

pub unopened : (h : History) (t : CancelTable) (n : ℕ) → AreCancelsOf h t → rows.row t.nodes n ≡ None → opening h (t.before + n) ≡ None
unopened h t n was none = none_by (opening h (t.before + n)) (λ o is. unrowed h t n was none (record { opened = o; is = is }))

pub outer_unopened : (h : History) (s : ℕ) → opening h s ≡ None → rules.outer h s ≡ None
unfolding rules.outer
outer_unopened h s none = rw none refl

parent_unopened : (h : History) (s : ℕ) → opening h s ≡ None → rules.parent h s ≡ None
unfolding rules.parent
parent_unopened h s none = rw none refl

pub counting_unopened : (L : Limits) (h : History) (s : ℕ) → Legal L h → opening h s ≡ None → counting_deadline h s ≡ None
unfolding counting_deadline deadline
counting_unopened L h s legal none =
    let never : IsOpened h s → ⊥ = λ it. absurd (cc (it.is, none)) in
    let unjoined : joined h s ≡ false = false_by (joined h s) (λ is. never (joined_opened L h s legal is)) in
    let unmoved : last_of (move_of s) h.events ≡ None = none_by (last_of (move_of s) h.events) (λ d is. never (moved_opened L h s d legal is)) in
    rw unjoined (rw unmoved (rw none refl))

-- each scope's outer scope, own cancel and deadline, whether it has a row or not
pub outer_read : (h : History) (t : CancelTable) → AreCancelsOf h t → (n : ℕ) → rules.outer h (t.before + n) ≡ option_map (λ p. t.before + p) (outer_of t.nodes n)
outer_read h t was n = by (rows.row t.nodes n) refl
  where
    by : (r : Option ScopeNode) → rows.row t.nodes n ≡ r → rules.outer h (t.before + n) ≡ option_map (λ p. t.before + p) (option_and_then rows.outer r)
    by None is = outer_unopened h (t.before + n) (unopened h t n was is)
    by (Some row) is = (was.rows n row is).outer

pub own_read : (h : History) (t : CancelTable) → AreCancelsOf h t → (n : ℕ) → own_cancel h (t.before + n) ≡ option_map (shifted t.before) (own_of t.nodes n)
own_read h t was n = by (rows.row t.nodes n) refl
  where
    by : (r : Option ScopeNode) → rows.row t.nodes n ≡ r → own_cancel h (t.before + n) ≡ option_map (shifted t.before) (option_and_then (λ (x : ScopeNode). x.own) r)
    by None is = ap (option_map (λ (w : OwnCancel). rows.cancel_at w.place (t.before + n) w.kind)) (own_unopened h (t.before + n) (own h (t.before + n)) (unopened h t n was is) refl)
    by (Some row) is = (was.rows n row is).own

pub deadline_read : (L : Limits) (h : History) (t : CancelTable) → Legal L h → AreCancelsOf h t → (n : ℕ) → counting_deadline h (t.before + n) ≡ deadline_of t.nodes n
deadline_read L h t legal was n = by (rows.row t.nodes n) refl
  where
    by : (r : Option ScopeNode) → rows.row t.nodes n ≡ r → counting_deadline h (t.before + n) ≡ option_and_then (λ (x : ScopeNode). x.deadline) r
    by None is = counting_unopened L h (t.before + n) legal (unopened h t n was is)
    by (Some row) is = (was.rows n row is).deadline

mapped : (b : ℕ) (o : Option ℕ) (p : ℕ) → o ≡ Some p → option_map (λ x. b + x) o ≡ Some (b + p)
mapped b o p is = ap (option_map (λ x. b + x)) is

told_inward : (L : Limits) (h : History) (t : CancelTable) → Legal L h → AreCancelsOf h t → IsInward (outer_of t.nodes)
told_inward L h t legal was s p is =
    let out = outer_opened L h (t.before + s) (t.before + p) legal (outer_read h t was s ∙ mapped t.before (outer_of t.nodes s) p is) in
    let number = opened_after h (t.before + p) out.0.opened out.0.is in
    (omega (arith, number.2, was.numbered), omega (arith, out.1.1))

-- the first cancel of a scope
pub cancel_read : (L : Limits) (h : History) (t : CancelTable) (n : ℕ) → Legal L h → AreCancelsOf h t → first_cancel h (t.before + n) ≡ option_map (shifted t.before) (cancel_of t.nodes n)
unfolding first_cancel
cancel_read L h t n legal was =
    cancel_shifted t.before (outer_of t.nodes) (rules.outer h) (told_inward L h t legal was) (outer_inward L h legal) (outer_read h t was)
    (own_of t.nodes) (own_cancel h) n (own_read h t was)

some_shifted : (b : ℕ) (o : Option FirstCancel) → is_some (option_map (shifted b) o) ≡ is_some o
some_shifted b None = refl
some_shifted b (Some c) = refl

-- whether it is cancelled
pub cancelled_read : (L : Limits) (h : History) (t : CancelTable) (n : ℕ) → Legal L h → AreCancelsOf h t → is_cancelled h (t.before + n) ≡ is_some (cancel_of t.nodes n)
unfolding is_cancelled
cancelled_read L h t n legal was = ap is_some (cancel_read L h t n legal was) ∙ some_shifted t.before (cancel_of t.nodes n)

-- and the deadline in effect
pub effective_read : (L : Limits) (h : History) (t : CancelTable) (n : ℕ) → Legal L h → AreCancelsOf h t → effective h (t.before + n) ≡ effective_of t.nodes n
unfolding effective
effective_read L h t n legal was =
    effective_shifted t.before (outer_of t.nodes) (rules.outer h) (told_inward L h t legal was) (outer_inward L h legal) (outer_read h t was)
    (own_of t.nodes) (own_cancel h) (deadline_of t.nodes) (counting_deadline h) n (own_read h t was) (deadline_read L h t legal was)

-- the number of a scope's row
pub numbered : (t : CancelTable) (s : ℕ) → HasRow t s → t.before + (s - t.before) ≡ s
numbered t s has = omega (arith, has.after)

pub cancel_at_scope : (L : Limits) (h : History) (t : CancelTable) (s : ℕ) → HasRow t s → Legal L h → AreCancelsOf h t → first_cancel h s ≡ option_map (shifted t.before) (cancel_of t.nodes (s - t.before))
cancel_at_scope L h t s has legal was = ap (first_cancel h) (sym (numbered t s has)) ∙ cancel_read L h t (s - t.before) legal was

pub cancelled_at_scope : (L : Limits) (h : History) (t : CancelTable) (s : ℕ) → HasRow t s → Legal L h → AreCancelsOf h t → is_cancelled h s ≡ is_some (cancel_of t.nodes (s - t.before))
cancelled_at_scope L h t s has legal was = ap (is_cancelled h) (sym (numbered t s has)) ∙ cancelled_read L h t (s - t.before) legal was

pub effective_at_scope : (L : Limits) (h : History) (t : CancelTable) (s : ℕ) → HasRow t s → Legal L h → AreCancelsOf h t → effective h s ≡ effective_of t.nodes (s - t.before)
effective_at_scope L h t s has legal was = ap (effective h) (sym (numbered t s has)) ∙ effective_read L h t (s - t.before) legal was

-- ---- what a caller who holds the agreement may ask

-- an opened scope has a row
pub has_row : (h : History) (t : CancelTable) (s : ℕ) → AreCancelsOf h t → IsOpened h s → HasRow t s
has_row h t s was it =
    let number = opened_after h s it.opened it.is in
    record { after = omega (arith, number.2, was.numbered); within = omega (arith, number.1, number.2, was.numbered, was.count) }

no_cancel : (c : FirstCancel) → None ≡ Some c → ⊥
no_cancel c is = absurd cc

own_early : (h : History) (s : ℕ) (b : ℕ) (o : Option FirstCancel) (c : FirstCancel) → own_cancel h s ≡ option_map (shifted b) o → o ≡ Some c → c.place < length h.events
own_early h s b o c is some = within (own h s) refl
  where
    within : (w : Option OwnCancel) → own h s ≡ w → c.place < length h.events
    within None none = absurd (no_cancel (shifted b c) (sym (ap (option_map (λ (v : OwnCancel). rows.cancel_at v.place s v.kind)) none) ∙ (is ∙ ap (option_map (shifted b)) some)))
    within (Some w) found =
        let place : w.place ≡ c.place = ap (λ (x : Option FirstCancel). option_map_or (λ (y : FirstCancel). y.place) x 0) (sym (ap (option_map (λ (v : OwnCancel). rows.cancel_at v.place s v.kind)) found) ∙ (is ∙ ap (option_map (shifted b)) some)) in
        let stands = (own_place h s w found).0 in
        omega (arith, place, stands)

-- each own cancel and each opening stands at an earlier place
pub latest_place : (h : History) (t : CancelTable) → AreCancelsOf h t → IsLatest t.nodes (length h.events)
latest_place h t was = record {
  own = λ s c is. let early = own_early h (t.before + s) t.before (own_of t.nodes s) c (own_read h t was s) is in omega (arith, early);
  opening = λ s n is. by s n (rows.row t.nodes s) refl is;
}
  where
    by : (s n : ℕ) (r : Option ScopeNode) → rows.row t.nodes s ≡ r → option_map (λ (x : ScopeNode). x.opened) r ≡ Some n → n ≤ length h.events
    by s n None at is = absurd cc
    by s n (Some row) at is =
        let there = was.rows s row at in
        let early = opening_within h (t.before + s) there.opened there.is in
        let place = there.place in
        let same : row.opened ≡ n = same_Some row.opened n is in
        omega arith

-- the parent of each scope, whether it has a row or not
pub parent_read : (h : History) (t : CancelTable) → AreCancelsOf h t → (n : ℕ) → rules.parent h (t.before + n) ≡ option_map (λ p. t.before + p) (parent_of t.nodes n)
parent_read h t was n = by (rows.row t.nodes n) refl
  where
    by : (r : Option ScopeNode) → rows.row t.nodes n ≡ r → rules.parent h (t.before + n) ≡ option_map (λ p. t.before + p) (option_and_then (λ (x : ScopeNode). x.parent) r)
    by None is = parent_unopened h (t.before + n) (unopened h t n was is)
    by (Some row) is = (was.rows n row is).parent

-- ---- levels

-- the parent of a scope was opened before it
parent_opened : (L : Limits) (h : History) (s p : ℕ) → Legal L h → rules.parent h s ≡ Some p → IsOpened h p
unfolding rules.parent
parent_opened L h s p legal is =
    let there = and_then_some (around h) (opening h s) p is in
    opened_before h there.0.place p (surrounding_opened L (before h there.0.place) there.0.actor p (legal_before L h there.0.place legal) there.2)

parents_inward : (L : Limits) (h : History) (t : CancelTable) → Legal L h → AreCancelsOf h t → IsInward (parent_of t.nodes)
parents_inward L h t legal was s p is =
    let out : rules.parent h (t.before + s) ≡ Some (t.before + p) = parent_read h t was s ∙ mapped t.before (parent_of t.nodes s) p is in
    let it = parent_opened L h (t.before + s) (t.before + p) legal out in
    let number = opened_after h (t.before + p) it.opened it.is in
    let less = parent_smaller L h (t.before + s) (t.before + p) legal out in
    (omega (arith, number.2, was.numbered), omega (arith, less.1))

pub level_read : (L : Limits) (h : History) (t : CancelTable) (n : ℕ) → Legal L h → AreCancelsOf h t → level h (t.before + n) ≡ level_of t.nodes n
unfolding level
level_read L h t n legal was =
    ap length (chain_shifted t.before (parent_of t.nodes) (rules.parent h) (parents_inward L h t legal was) (parent_inward L h legal) (parent_read h t was) n)
    ∙ length-map (chain_by (parent_of t.nodes) n) (λ p. t.before + p)

pub level_at_scope : (L : Limits) (h : History) (t : CancelTable) (s : ℕ) → HasRow t s → Legal L h → AreCancelsOf h t → level h s ≡ level_of t.nodes (s - t.before)
level_at_scope L h t s has legal was = ap (level h) (sym (numbered t s has)) ∙ level_read L h t (s - t.before) legal was

-- what is opened next lies no deeper in the tree than by the rules
pub level_in_read : (L : Limits) (h : History) (t : CancelTable) (a : ℕ) (parent : Option ℕ) → Legal L h → AreCancelsOf h t → parent ≡ surrounding h a → IfSome parent (HasRow t) → level_in t.nodes (option_map (λ p. p - t.before) parent) ≡ next_level h a
unfolding next_level
level_in_read L h t a None legal was is has = ap (λ (o : Option ℕ). option_map_or (λ p. level h p + 1) o 1) is
level_in_read L h t a (Some p) legal was is has =
    ap (λ n. n + 1) (sym (level_at_scope L h t p has legal was)) ∙ ap (λ (o : Option ℕ). option_map_or (λ q. level h q + 1) o 1) is
