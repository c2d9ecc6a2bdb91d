-- What each kind of event makes of the table.
use Rattle.std.proofs.Common.{ℕ, ◌+◌, ◌-◌, ◌==◌, ◌||◌, ◌∙◌, ◌≡◌, ◌≢◌, ◌≤◌, Bool, None, Option, Some, ap, arith, cond, eqb, false, length, option_map, refl, slice_get, subst, sym, true, unwrap_or}
use Rattle.cancel_tree.proofs.RowLaws.{altered_length}
use Rattle.scope_index.specs.{AreCancelsOf, Bind, CancelTable, EndClose, Event, Fork, HasRow, History, IsNodeOf, Join, Legal, Limits, Reject, ScopeNode, Start, Unbind, cancel_at, changed, completion_of, counting_deadline}
use Rattle.scope_index.specs.{deadline, direct_kind, followed, is_open, joined, joiner_fires, joins, moment, move_of, tick_of, with_deadline, with_own}
use Rattle.scope_index.proofs.Words.{counting_grows, eq-eqb, eqb-false, eqb-true, moment_grows, ne_eqb, option_or-none}
use Rattle.scope_index.proofs.{RowSteps.row_next, RowSteps.row_stays, TableSteps.HasStepped, TableSteps.accounts_stay, TableSteps.at_row, TableSteps.changed_rows, TableSteps.table_next}
use Rattle.cancel_tree.specs.Rows as rows

-- events that neither open nor cancel, move no deadline, and end no task
abbrev pub leaves_cancels : Event → Bool
leaves_cancels (Fork actor scope label) = true
leaves_cancels (Reject task) = true
leaves_cancels (Start task) = true
leaves_cancels (Bind actor pair) = true
leaves_cancels (Unbind actor) = true
leaves_cancels (EndClose actor scope) = true
leaves_cancels _ = false

pub map_id : {A : Type 0} (o : Option A) → o ≡ option_map (λ x. x) o
map_id None = refl
map_id (Some x) = refl

untold : (old : CancelTable) → HasStepped old old (λ n t. t)
untold old = record { before = refl; length = refl; rows = λ n. map_id (rows.row old.nodes n) }

-- what an event that leaves cancels is to any scope
record LeavesScope (h : History) (e : Event) (s : ℕ) : Type 0 where
  unjoined : joins s e ≡ false
  unmoved : move_of s e ≡ None
  direct : direct_kind h s e ≡ None
  fires : joiner_fires (followed h e) s e ≡ false
  completes : completion_of (followed h e) s e ≡ None

record LeavesAll (h : History) (e : Event) : Type 0 where
  other : is_open e ≡ false
  untimed : tick_of e ≡ None
  scope : (s : ℕ) → LeavesScope h e s

left_alone : (h : History) (e : Event) → leaves_cancels e ≡ true → LeavesAll h e
unfolding joiner_fires
left_alone h (Fork actor scope label) so = record { other = refl; untimed = refl; scope = λ s. record { unjoined = refl; unmoved = refl; direct = refl; fires = refl; completes = refl } }
left_alone h (Reject task) so = record { other = refl; untimed = refl; scope = λ s. record { unjoined = refl; unmoved = refl; direct = refl; fires = refl; completes = refl } }
left_alone h (Start task) so = record { other = refl; untimed = refl; scope = λ s. record { unjoined = refl; unmoved = refl; direct = refl; fires = refl; completes = refl } }
left_alone h (Bind actor pair) so = record { other = refl; untimed = refl; scope = λ s. record { unjoined = refl; unmoved = refl; direct = refl; fires = refl; completes = refl } }
left_alone h (Unbind actor) so = record { other = refl; untimed = refl; scope = λ s. record { unjoined = refl; unmoved = refl; direct = refl; fires = refl; completes = refl } }
left_alone h (EndClose actor scope) so = record { other = refl; untimed = refl; scope = λ s. record { unjoined = refl; unmoved = refl; direct = refl; fires = refl; completes = refl } }
left_alone h _ so = absurd cc

pub moment_same : (h : History) (e : Event) → tick_of e ≡ None → moment (followed h e) ≡ moment h
moment_same h e untimed = moment_grows h e ∙ ap (λ o. unwrap_or o (moment h)) untimed

-- an event that neither opens nor cancels, moves no deadline and ends no task leaves the table
pub cancels_stay : (L : Limits) (h : History) (e : Event) (t : CancelTable) → Legal L h → AreCancelsOf h t → leaves_cancels e ≡ true → AreCancelsOf (followed h e) t
cancels_stay L h e t legal was leaves =
    let alone = left_alone h e leaves in
    let now = moment_same h e alone.untimed in
    table_next h e t t (λ n row. row) was alone.other (untold t) (was.moment ∙ sym now) refl
    (λ n row at is. let it = alone.scope (t.before + n) in row_stays L h e t.before n row legal is now it.unjoined it.unmoved it.direct it.fires)
    (accounts_stay L h e t legal was (λ s. (alone.scope s).completes))

-- ---- one row

-- the row that the scope has
pub record Row (t : CancelTable) (s : ℕ) : Type 0 where
  pub number : ℕ
  pub first : 1 ≤ number
  pub is : t.before + number ≡ s

pub row_of_scope : (t : CancelTable) (s : ℕ) → HasRow t s → Row t s
row_of_scope t s has = record { number = s - t.before; first = omega (arith, has.after); is = omega (arith, has.after) }

pub stepped_at : (old : CancelTable) (new : CancelTable) (n : ℕ) (f : ScopeNode → ScopeNode) → 1 ≤ n → new.before ≡ old.before → new.nodes ≡ changed old.nodes n f → HasStepped old new (at_row n f)
stepped_at old new n f first before is = record {
  before = before;
  length = ap length is ∙ altered_length f old.nodes (n - 1);
  rows = λ m. ap (λ rs. rows.row rs m) is ∙ changed_rows old.nodes n f first m;
}

-- the step of the row that changes, and of the others
pub at_row_by : (P : ℕ → ScopeNode → Type 0) (n : ℕ) (f : ScopeNode → ScopeNode) (m : ℕ) (t : ScopeNode) → ((m ≡ n) → P n (f t)) → ((m ≢ n) → P m t) → P m (at_row n f m t)
at_row_by P n f m t here there = by (eqb m n) refl
  where
    by : (b : Bool) → eqb m n ≡ b → P m (cond b (f t) t)
    by true is = let same = eqb-true m n is in subst (λ k. P k (f t)) (sym same) (here same)
    by false is = there (eqb-false m n is)

pub other_row : (b m n s : ℕ) → b + n ≡ s → m ≢ n → (s == b + m) ≡ false
other_row b m n s is apart = ne_eqb s (b + m) (λ same. apart (omega (arith, same, is)))

-- ---- a join

-- the deadline of a joined scope doesn't count
counting_joined : (h : History) (a b s : ℕ) (t : ScopeNode) → IsNodeOf h b s t → counting_deadline (followed h (Join a s)) s ≡ None
counting_joined h a b s t was = counting_grows h (Join a s) s was.opened was.is ∙ by (joined h s) (s == s) (eq-eqb s s refl) (deadline h s)
  where
    by : (j k : Bool) → k ≡ true → (d : Option ℕ) → cond (j || k) None d ≡ None
    by true k is d = refl
    by false true is d = refl
    by false false is d = absurd cc

pub joined_next : (L : Limits) (h : History) (a s : ℕ) (old new : CancelTable) → Legal L h → AreCancelsOf h old → HasRow old s
    → new ≡ record old { nodes = changed old.nodes (s - old.before) (with_deadline None) }
    → AreCancelsOf (followed h (Join a s)) new
unfolding joiner_fires
joined_next L h a s old new legal was has is =
    let e = Join a s in
    let at = row_of_scope old s has in
    let number : s - old.before ≡ at.number = omega (arith, at.is) in
    let now = moment_same h e refl in
    let nodes : new.nodes ≡ changed old.nodes at.number (with_deadline None) = ap (λ (t : CancelTable). t.nodes) is ∙ ap (λ n. changed old.nodes n (with_deadline None)) number in
    let accounts : new.accounts ≡ old.accounts = ap (λ (t : CancelTable). t.accounts) is in
    let before : new.before ≡ old.before = ap (λ (t : CancelTable). t.before) is in
    let moment_is : new.moment ≡ old.moment = ap (λ (t : CancelTable). t.moment) is in
    table_next h e old new (at_row at.number (with_deadline None)) was refl (stepped_at old new at.number (with_deadline None) at.first before nodes)
    (moment_is ∙ (was.moment ∙ sym now)) (ap length accounts)
    (λ m row there row_is. at_row_by (λ k t. IsNodeOf (followed h e) old.before (old.before + k) t) at.number (with_deadline None) m row
    (λ same.
    let here : IsNodeOf h old.before (old.before + at.number) row = subst (λ k. IsNodeOf h old.before (old.before + k) row) same row_is in
    let gone : counting_deadline (followed h e) (old.before + at.number) ≡ None = subst (λ k. counting_deadline (followed h (Join a k)) (old.before + at.number) ≡ None) at.is (counting_joined h a old.before (old.before + at.number) row here) in
    row_next h e old.before at.number row (with_deadline None row) here refl refl refl gone (sym (option_or-none row.own)))
    (λ apart. row_stays L h e old.before m row legal row_is now (other_row old.before m at.number s at.is apart) refl refl refl))
    (λ i acc there. accounts_stay L h e old legal was (λ k. refl) i acc (sym (ap (λ xs. slice_get xs i) accounts) ∙ there))
