-- A tick takes the deadlines that it passes out of the index, one by one, and cancels their scopes.
use Rattle.std.proofs.Common.{ℕ, ◌&&◌, ◌-◌, ◌<◌, ◌∙◌, ◌≡◌, ◌≤◌, ◌⊎◌, Bool, List, None, Option, Some, ap, arith, cond, eqb, false, inl, inr, is_some, length, nat_lt, not, option_map, refl, slice_get, subst, suc, sym, true, zero}
use Rattle.cancel_tree.proofs.RowLaws.{altered_length}
use Rattle.scope_index.specs.{AreKept, Deadline, FirstCancel, IsAdded, IsFirstDue, IsLatest, JoinerStanding, Moments, ScopeNode, awaited, awaited_of, cancel_at, changed, is_due, is_past, nat_cmp, nat_cmp_total, option_and_then}
use Rattle.scope_index.specs.{to_come, with_own}
use Rattle.scope_index.proofs.Words.{eq-eqb, eqb-true, latest_cancel, le-leb, le-ltb, leb-false, leb-true, ltb-false, ltb-true, slice_get_within}
use Rattle.scope_index.proofs.{CancelSteps.ticked, CancelsKept.cancelled_awaits, CancelsKept.tied, TableSteps.at_row, TableSteps.changed_rows}
use Rattle.std.specs.FinMap as map
use Rattle.cancel_tree.specs.Rows as rows

-- the row's deadline has passed, and was taken out of the index
abbrev pub is_taken : ℕ → Moments → Moments → ℕ → Bool
is_taken now first left n = is_due first now n && not (is_due left now n)

abbrev pub taken_step : ℕ → ℕ → Moments → Moments → ℕ → ScopeNode → ScopeNode
taken_step now place first left n t = cond (is_taken now first left n) (with_own (cancel_at place n Deadline) t) t

-- what holds after some turns: the rows whose deadlines were taken out have their own cancel, and what
-- is left in the index stood there before
pub record IsPassing (now place : ℕ) (first left : Moments) (old nodes : List ScopeNode) : Type 0 where
  pub length : length nodes ≡ length old
  pub rows : (n : ℕ) → rows.row nodes n ≡ option_map (taken_step now place first left n) (rows.row old n)
  pub rest : (n : ℕ) → (map.get left n ≡ map.get first n) ⊎ ((map.get left n ≡ None) × (is_due first now n ≡ true))
  pub latest : IsLatest nodes place

none_taken : (b : Bool) → (b && not b) ≡ false
none_taken true = refl
none_taken false = refl

same_rows : (now place : ℕ) (first : Moments) (n : ℕ) (r : Option ScopeNode) → r ≡ option_map (taken_step now place first first n) r
same_rows now place first n None = refl
same_rows now place first n (Some t) = ap Some (sym (ap (λ b. cond b (with_own (cancel_at place n Deadline) t) t) (none_taken (is_due first now n))))

pub passing_start : (now place : ℕ) (first : Moments) (nodes : List ScopeNode) → IsLatest nodes place → IsPassing now place first first nodes nodes
passing_start now place first nodes latest = record {
  length = refl;
  rows = λ n. same_rows now place first n (rows.row nodes n);
  rest = λ n. inl refl;
  latest = latest;
}

within_get : (nodes : List ScopeNode) (i : ℕ) (t : ScopeNode) → slice_get nodes i ≡ Some t → IsAdded nodes (suc i)
within_get nodes i t there = (omega arith, omega (arith, slice_get_within nodes i t there))

row_within : (nodes : List ScopeNode) (n : ℕ) (t : ScopeNode) → rows.row nodes n ≡ Some t → IsAdded nodes n
row_within nodes zero t there = absurd cc
row_within nodes (suc i) t there = within_get nodes i t there

pub none_of : {A : Type 0} (x : A) → None ≡ Some x → ⊥
none_of x is = absurd cc

-- a scope whose deadline is still to come has a row
pub row_there : (before : ℕ) (nodes : List ScopeNode) (n d : ℕ) → awaited_of before nodes n ≡ Some d → IsAdded nodes n
row_there before nodes n d is = by (rows.row nodes n) refl
  where
    by : (r : Option ScopeNode) → rows.row nodes n ≡ r → IsAdded nodes n
    by None none = absurd (none_of d (sym (ap (option_and_then (awaited before)) none) ∙ is))
    by (Some t) there = row_within nodes n t there

due_was : (now place d : ℕ) (first left : Moments) (old nodes : List ScopeNode) (n : ℕ) → IsPassing now place first left old nodes → map.get left n ≡ Some d → map.get first n ≡ Some d
due_was now place d first left old nodes n passing is =
    elim (passing.rest n) [ inl same ↦ sym same ∙ is | inr gone ↦ absurd (none_of d (sym gone.0 ∙ is)) ]

pub next_added : (before at now place : ℕ) (first left : Moments) (old nodes : List ScopeNode) (accounts : List JoinerStanding) (n : ℕ) → AreKept before at old accounts first → IsPassing now place first left old nodes → IsFirstDue left now n → IsAdded nodes n
next_added before at now place first left old nodes accounts n kept passing due =
    let was = due_was now place due.deadline first left old nodes n passing due.first.stands in
    let added = row_there at old n due.deadline (sym (kept.indexed n) ∙ was) in
    (added.0, omega (arith, added.1, passing.length))

due_true : (now d : ℕ) (o : Option ℕ) → o ≡ Some d → d ≤ now → is_past now o ≡ true
due_true now d o is past = ap (is_past now) is ∙ le-leb d now past

removed_here : (m : Moments) (n : ℕ) → map.get (map.remove m n) n ≡ None
removed_here m n = map.get-remove nat_cmp_total m n n ∙ (ap (λ b. cond b None (map.get m n)) (tied n n) ∙ ap (λ b. cond b None (map.get m n)) (eq-eqb n n refl))

removed_other : (m : Moments) (n k : ℕ) → eqb k n ≡ false → map.get (map.remove m n) k ≡ map.get m k
removed_other m n k apart = map.get-remove nat_cmp_total m n k ∙ (ap (λ b. cond b None (map.get m k)) (tied k n) ∙ ap (λ b. cond b None (map.get m k)) apart)

steps_to : (now place : ℕ) (first left next : Moments) (n k : ℕ) (t : ScopeNode) → (eqb k n ≡ true → (is_taken now first left k ≡ false) × (is_taken now first next k ≡ true)) → (eqb k n ≡ false → is_taken now first next k ≡ is_taken now first left k) → k ≡ n ⊎ (eqb k n ≡ false)
    → at_row n (with_own (cancel_at place n Deadline)) k (taken_step now place first left k t) ≡ taken_step now place first next k t
steps_to now place first left next n k t here there (inl same) =
    let is = eq-eqb k n same in
    ap (λ b. cond b (with_own (cancel_at place n Deadline) (taken_step now place first left k t)) (taken_step now place first left k t)) is
    ∙ (ap (λ b. with_own (cancel_at place n Deadline) (cond b (with_own (cancel_at place k Deadline) t) t)) (here is).0
    ∙ (ap (λ m. with_own (cancel_at place m Deadline) t) (sym same)
    ∙ sym (ap (λ b. cond b (with_own (cancel_at place k Deadline) t) t) (here is).1)))
steps_to now place first left next n k t here there (inr apart) =
    ap (λ b. cond b (with_own (cancel_at place n Deadline) (taken_step now place first left k t)) (taken_step now place first left k t)) apart
    ∙ sym (ap (λ b. cond b (with_own (cancel_at place k Deadline) t) t) (there apart))

map_twice : {A B C : Type 0} (f : A → B) (g : B → C) (e : A → C) → ((x : A) → g (f x) ≡ e x) → (o : Option A) → option_map g (option_map f o) ≡ option_map e o
map_twice f g e same None = refl
map_twice f g e same (Some x) = ap Some (same x)

-- one turn: the first deadline that is due is taken out, and its scope cancelled
pub passing_step : (now place n : ℕ) (first left : Moments) (old nodes : List ScopeNode) → IsPassing now place first left old nodes → IsFirstDue left now n → IsAdded nodes n
    → IsPassing now place first (map.remove left n) old (changed nodes n (with_own (cancel_at place n Deadline)))
passing_step now place n first left old nodes passing due added =
    let next = map.remove left n in
    let f = with_own (cancel_at place n Deadline) in
    let was = due_was now place due.deadline first left old nodes n passing due.first.stands in
    let due_first : is_due first now n ≡ true = due_true now due.deadline (map.get first n) was due.past in
    let due_left : is_due left now n ≡ true = due_true now due.deadline (map.get left n) due.first.stands due.past in
    let due_next : is_due next now n ≡ false = ap (is_past now) (removed_here left n) in
    let here : (k : ℕ) → eqb k n ≡ true → (is_taken now first left k ≡ false) × (is_taken now first next k ≡ true) = λ k is.
    let same = eqb-true k n is in (
      subst (λ j. is_taken now first left j ≡ false) (sym same) (ap (λ b. is_due first now n && not b) due_left ∙ and_false (is_due first now n)),
      subst (λ j. is_taken now first next j ≡ true) (sym same) (ap (λ b. is_due first now n && not b) due_next ∙ ap (λ b. b && true) due_first),
    ) in
    let there : (k : ℕ) → eqb k n ≡ false → is_taken now first next k ≡ is_taken now first left k = λ k apart. ap (λ o. is_due first now k && not (is_past now o)) (removed_other left n k apart) in
    record {
      length = altered_length f nodes (n - 1) ∙ passing.length;
      rows = λ k.
          changed_rows nodes n f added.0 k
          ∙ (ap (option_map (at_row n f k)) (passing.rows k)
          ∙ map_twice (taken_step now place first left k) (at_row n f k) (taken_step now place first next k) (λ t. steps_to now place first left next n k t (here k) (there k) (either k n)) (rows.row old k));
      rest = λ k. elim (either k n) [
        | inl same ↦ inr (ap (map.get next) same ∙ removed_here left n, subst (λ j. is_due first now j ≡ true) (sym same) due_first)
        | inr apart ↦ elim (passing.rest k) [
          | inl kept ↦ inl (removed_other left n k apart ∙ kept)
          | inr gone ↦ inr (removed_other left n k apart ∙ gone.0, gone.1)
        ]
      ];
      latest = latest_cancel nodes place place n Deadline added.0 (omega arith) passing.latest;
    }
  where
    and_false : (b : Bool) → (b && false) ≡ false
    and_false true = refl
    and_false false = refl

    either : (k n : ℕ) → (k ≡ n) ⊎ (eqb k n ≡ false)
    either k n = by (eqb k n) refl
      where
        by : (b : Bool) → eqb k n ≡ b → (k ≡ n) ⊎ (eqb k n ≡ false)
        by true is = inl (eqb-true k n is)
        by false is = inr is

-- ---- the end

come_now : (before now : ℕ) (d : Option ℕ) → before ≤ now → is_past now (to_come before d) ≡ false → to_come before d ≡ to_come now d
come_now before now None on none = refl
come_now before now (Some d) on none = by (nat_lt before d) refl (nat_lt now d) refl none
  where
    by : (b : Bool) → nat_lt before d ≡ b → (c : Bool) → nat_lt now d ≡ c → is_past now (cond b (Some d) None) ≡ false → cond b (Some d) None ≡ cond c (Some d) None
    by true at true then unpast = refl
    by true at false then unpast = absurd (omega (arith, ltb-false now d then, leb-false d now unpast))
    by false at true then unpast = absurd (omega (arith, ltb-true now d then, ltb-false before d at, on))
    by false at false then unpast = refl

-- what is left in the index of a row whose deadline was not taken out
rest_awaited : (before now : ℕ) (r : Option ScopeNode) → before ≤ now → is_past now (option_and_then (awaited before) r) ≡ false → option_and_then (awaited before) r ≡ option_and_then (awaited now) r
rest_awaited before now None on none = refl
rest_awaited before now (Some t) on none = by (is_some t.own) none
  where
    by : (b : Bool) → is_past now (cond b None (to_come before t.deadline)) ≡ false → cond b None (to_come before t.deadline) ≡ cond b None (to_come now t.deadline)
    by true unpast = refl
    by false unpast = come_now before now t.deadline on unpast

abbrev step_by : ℕ → ℕ → Bool → ScopeNode → ScopeNode
step_by place n b t = cond b (with_own (cancel_at place n Deadline) t) t

-- a row with an own cancel awaits nothing
over : (now : ℕ) (c : FirstCancel) (r : Option ScopeNode) → option_and_then (awaited now) (option_map (with_own c) r) ≡ None
over now c None = refl
over now c (Some t) = cancelled_awaits now c t

-- once nothing is due, the index is that of the new moment
pub passing_kept : (before at now place : ℕ) (first left : Moments) (old nodes : List ScopeNode) (accounts : List JoinerStanding) → at ≤ now → AreKept before at old accounts first → IsPassing now place first left old nodes
    → ((n : ℕ) → is_due left now n ≡ false) → AreKept before now nodes accounts left
passing_kept before at now place first left old nodes accounts on kept passing none = record {
  rows = kept.rows ∙ sym passing.length;
  numbers = omega (arith, kept.numbers, passing.length);
  indexed = λ n.
      elim (passing.rest n) [
        | inl same ↦ (let is = same ∙ kept.indexed n in
            is ∙ (rest_awaited at now (rows.row old n) on (sym (ap (is_past now) is) ∙ none n)
            ∙ (ap (option_and_then (awaited now)) (same_rows now place first n (rows.row old n) ∙ ap (λ b. option_map (step_by place n b) (rows.row old n)) (not_taken n same)) ∙ sym (awaited_then n))))
        | inr gone ↦ gone.0 ∙ sym (awaited_then n ∙ (ap (λ b. option_and_then (awaited now) (option_map (step_by place n b) (rows.row old n))) (was_taken n gone) ∙ over now (cancel_at place n Deadline) (rows.row old n)))
      ];
}
  where
    awaited_then : (n : ℕ) → awaited_of now nodes n ≡ option_and_then (awaited now) (option_map (step_by place n (is_taken now first left n)) (rows.row old n))
    awaited_then n = ap (option_and_then (awaited now)) (passing.rows n)

    not_taken : (n : ℕ) → map.get left n ≡ map.get first n → is_taken now first first n ≡ is_taken now first left n
    not_taken n same = ap (λ o. is_due first now n && not (is_past now o)) (sym same)

    was_taken : (n : ℕ) → (map.get left n ≡ None) × (is_due first now n ≡ true) → is_taken now first left n ≡ true
    was_taken n gone = ap (λ o. is_due first now n && not (is_past now o)) gone.0 ∙ ap (λ b. b && true) gone.1

-- and each row is that of the tick
pub passing_ticked : (before at now place : ℕ) (first left : Moments) (old nodes : List ScopeNode) (accounts : List JoinerStanding) → AreKept before at old accounts first → IsPassing now place first left old nodes
    → ((n : ℕ) → is_due left now n ≡ false) → (n : ℕ) → rows.row nodes n ≡ option_map (ticked at now place n) (rows.row old n)
passing_ticked before at now place first left old nodes accounts kept passing none n = passing.rows n ∙ by (rows.row old n) refl
  where
    and_true : (b : Bool) → (b && not false) ≡ b
    and_true true = refl
    and_true false = refl

    taken : is_taken now first left n ≡ is_past now (awaited_of at old n)
    taken = ap (λ b. is_due first now n && not b) (none n) ∙ (and_true (is_due first now n) ∙ ap (is_past now) (kept.indexed n))

    -- a row with an own cancel keeps it
    kept_own : (t : ScopeNode) → cond (is_past now (awaited at t)) (with_own (cancel_at place n Deadline) t) t ≡ ticked at now place n t
    kept_own t = with t.own
      where
        both : (x : FirstCancel) (b : Bool) → record t { own = Some x } ≡ cond b (with_own (cancel_at place n Deadline) (record t { own = Some x })) (record t { own = Some x })
        both x true = refl
        both x false = refl

        with : (o : Option FirstCancel) → cond (is_past now (cond (is_some o) None (to_come at t.deadline))) (with_own (cancel_at place n Deadline) (record t { own = o })) (record t { own = o }) ≡ ticked at now place n (record t { own = o })
        with None = refl
        with (Some x) = both x (is_past now (to_come at t.deadline))

    by : (r : Option ScopeNode) → rows.row old n ≡ r → option_map (taken_step now place first left n) r ≡ option_map (ticked at now place n) r
    by None is = refl
    by (Some t) is = ap (λ b. Some (cond b (with_own (cancel_at place n Deadline) t) t)) (taken ∙ ap (λ r. is_past now (option_and_then (awaited at) r)) is) ∙ ap Some (kept_own t)

held : (m : Moments) (n d k : ℕ) → map.get m n ≡ Some d → map.len m ≡ k → 1 ≤ k
held m n d zero is none = absurd (none_of d (sym (map.get-empty nat_cmp n) ∙ (sym (ap (λ x. map.get x n) (map.empty_of_len m none)) ∙ is)))
held m n d (suc k) is some = omega arith

-- what is taken out makes the index shorter
pub shorter : (m : Moments) (n d : ℕ) → map.get m n ≡ Some d → map.len (map.remove m n) < map.len m
shorter m n d is =
    let one = held m n d (map.len m) is refl in
    let less : map.len (map.remove m n) ≡ map.len m - 1 = map.len-remove nat_cmp_total m n ∙ ap (λ o. cond (is_some o) (map.len m - 1) (map.len m)) is in
    omega (arith, one, less)
