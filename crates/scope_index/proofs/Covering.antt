-- The walk that cancels the scopes which the beginning of a close covers, step by step.
use Rattle.std.proofs.Common.{ℕ, ◌&&◌, ◌+◌, ◌-◌, ◌<◌, ◌==◌, ◌∙◌, ◌≡◌, ◌≢◌, ◌≤◌, Bool, None, Option, Some, ap, arith, cond, eqb, false, length, nat_lt, option_map, refl, subst, sym, true}
use Rattle.cancel_tree.proofs.RowLaws.{altered_length}
use Rattle.scope_index.specs.{Accepts, AreRowsOf, BeginClose, CanClose, CancelTable, Close, FirstCancel, HasBegunClose, HasRow, History, IsLatest, Legal, Limits, RowTable, ScopeNode, below_of, cancel_at, cancelled, covers}
use Rattle.scope_index.specs.{innermost, option_and_then, option_or, own_of, walk_length, with_own}
use Rattle.scope_index.proofs.Words.{HasUnclosed, are_below, begin_close_passed, covered_unclosed, eq-eqb, eqb-false, eqb-true, innermost_unclosed, le-ltb, live_is_unclosed, lt-ltb, ltb-false, ltb-true, ne_eqb, unclosed_covered}
use Rattle.scope_index.proofs.Words.{unclosed_innermost}
use Rattle.scope_index.proofs.{CancelReadings.has_row, CancelReadings.latest_place, CancelSteps.closing_next, TableSteps.HasStepped, TableSteps.at_row, TableSteps.changed_rows}
use Rattle.cancel_tree.specs.Rows as rows

-- the walk has come past scope k, which the close covers: it goes on at `next`
abbrev pub is_done : History → ℕ → Option ℕ → ℕ → Bool
is_done h s None k = covers h s k
is_done h s (Some u) k = covers h s k && nat_lt u k

-- the rows so far
abbrev pub so_far : History → ℕ → ℕ → ℕ → Option ℕ → ℕ → ScopeNode → ScopeNode
so_far h s place b next n t = cond (is_done h s next (b + n)) (with_own (cancel_at place n Close) t) t

-- the scope where the walk goes on is an unclosed one of the owner's, from s on
abbrev pub IsNext : History → ℕ → ℕ → Option ℕ → Type 0
IsNext h a s None = Unit {0}
IsNext h a s (Some u) = HasUnclosed h a u × (s ≤ u)

-- how far the walk has come, for one history
pub record IsCovered (h : History) (a s place : ℕ) (old now : CancelTable) (next : Option ℕ) : Type 0 where
  pub stepped : HasStepped old now (so_far h s place old.before next)
  pub goes : IsNext h a s next

-- how far it has come
pub record IsWalked (table : RowTable) (old now : CancelTable) (from : Option ℕ) (s place : ℕ) (next : Option ℕ) : Type 0 where
  pub moment : now.moment ≡ old.moment
  pub accounts : now.accounts ≡ old.accounts
  pub covered : (L : Limits) (h : History) (a : ℕ) → Legal L h → Accepts L h (BeginClose a s) → AreRowsOf h table → from ≡ innermost h a → IsCovered h a s place old now next

-- the scope is an unclosed one of the owner's
unclosed_itself : (L : Limits) (h : History) (a s : ℕ) → Legal L h → Accepts L h (BeginClose a s) → HasUnclosed h a s
unclosed_itself L h a s legal ok =
    let row = begin_close_passed L h a s ok in
    record { opened = row.owner.opened; is = row.owner.is; by = row.owner.by; unclosed = live_is_unclosed L h s legal row.live }

cond_false : {A : Type 0} (b : Bool) (x y : A) → b ≡ false → cond b x y ≡ y
cond_false true x y is = absurd cc
cond_false false x y is = refl

same_row : (o : Option ScopeNode) (step : ScopeNode → ScopeNode) → ((t : ScopeNode) → step t ≡ t) → o ≡ option_map step o
same_row None step still = refl
same_row (Some t) step still = ap Some (sym (still t))

-- if no covered scope is past, nothing has changed
none_done : (h : History) (a s k u : ℕ) → HasUnclosed h a s → innermost h a ≡ Some u → (covers h s k && nat_lt u k) ≡ false
none_done h a s k u it is = by (covers h s k) refl
  where
    by : (b : Bool) → covers h s k ≡ b → (b && nat_lt u k) ≡ false
    by false out = refl
    by true covered =
        let other = (covered_unclosed h a s k it covered).0 in
        let found = unclosed_innermost h a k other in
        let same : found.scope ≡ u = cc (found.is, is) in
        le-ltb u k (omega (arith, found.least, same))

covered_first : (L : Limits) (h : History) (a s place : ℕ) (old : CancelTable) (from : Option ℕ) → Legal L h → Accepts L h (BeginClose a s) → from ≡ innermost h a → IsCovered h a s place old old from
covered_first L h a s place old None legal ok is =
    let found = unclosed_innermost h a s (unclosed_itself L h a s legal ok) in
    absurd (cc (found.is, is))
covered_first L h a s place old (Some u) legal ok is =
    let it = unclosed_itself L h a s legal ok in
    let found = unclosed_innermost h a s it in
    let same : found.scope ≡ u = cc (found.is, is) in
    record {
      stepped = record { before = refl; length = refl; rows = λ n. same_row (rows.row old.nodes n) (so_far h s place old.before (Some u) n) (λ t. cond_false (covers h s (old.before + n) && nat_lt u (old.before + n)) (with_own (cancel_at place n Close) t) t (none_done h a s (old.before + n) u it (sym is))) };
      goes = (innermost_unclosed h a u (sym is), omega (arith, found.least, same));
    }

-- nothing has changed at first
pub walk_start : (table : RowTable) (old : CancelTable) (from : Option ℕ) (s place : ℕ) → IsWalked table old old from s place from
walk_start table old from s place = record { moment = refl; accounts = refl; covered = λ L h a legal ok are is. covered_first L h a s place old from legal ok is }

-- ---- what a turn wants

covered_here : (table : RowTable) (old now : CancelTable) (from : Option ℕ) (s place here : ℕ) (can : CanClose table old from s place) → IsWalked table old now from s place (Some here) → IsCovered can.history can.actor s place old now (Some here)
covered_here table old now from s place here can walked = walked.covered can.limits can.history can.actor can.legal can.accepted can.told_rows can.first

pub here_row : (table : RowTable) (old now : CancelTable) (from : Option ℕ) (s place here : ℕ) → CanClose table old from s place → IsWalked table old now from s place (Some here) → HasRow now here
here_row table old now from s place here can walked =
    let it = covered_here table old now from s place here can walked in
    let has = has_row can.history old here can.told_cancels (record { opened = it.goes.0.opened; is = it.goes.0.is }) in
    record { after = omega (arith, has.after, it.stepped.before); within = omega (arith, has.within, it.stepped.before, it.stepped.length) }

own_early : (h : History) (s place b : ℕ) (next : Option ℕ) (n : ℕ) (o : Option ScopeNode) (c : FirstCancel) → ((d : FirstCancel) → option_and_then (λ (t : ScopeNode). t.own) o ≡ Some d → d.place ≤ place) → option_and_then (λ (t : ScopeNode). t.own) (option_map (so_far h s place b next n) o) ≡ Some c → c.place ≤ place
own_early h s place b next n None c early is = absurd cc
own_early h s place b next n (Some t) c early is = by (is_done h s next (b + n)) is
  where
    own : (w : Option FirstCancel) → ((d : FirstCancel) → w ≡ Some d → d.place ≤ place) → option_or w (Some (cancel_at place n Close)) ≡ Some c → c.place ≤ place
    own None before is = let same : cancel_at place n Close ≡ c = cc in subst (λ (d : FirstCancel). d.place ≤ place) same (omega arith)
    own (Some d) before is = let same : d ≡ c = cc in subst (λ (x : FirstCancel). x.place ≤ place) same (before d refl)

    by : (done : Bool) → option_and_then (λ (x : ScopeNode). x.own) (Some (cond done (with_own (cancel_at place n Close) t) t)) ≡ Some c → c.place ≤ place
    by true found = own t.own early found
    by false found = early c found

-- the walk leaves the places of the openings
opened_kept : (h : History) (s place b : ℕ) (next : Option ℕ) (n : ℕ) (o : Option ScopeNode) → option_map (λ (t : ScopeNode). t.opened) (option_map (so_far h s place b next n) o) ≡ option_map (λ (t : ScopeNode). t.opened) o
opened_kept h s place b next n None = refl
opened_kept h s place b next n (Some t) = by (is_done h s next (b + n))
  where
    by : (done : Bool) → Some (cond done (with_own (cancel_at place n Close) t) t).opened ≡ Some t.opened
    by true = refl
    by false = refl

pub here_latest : (table : RowTable) (old now : CancelTable) (from : Option ℕ) (s place here : ℕ) → CanClose table old from s place → IsWalked table old now from s place (Some here) → IsLatest now.nodes place
here_latest table old now from s place here can walked =
    let it = covered_here table old now from s place here can walked in
    let latest = subst (IsLatest old.nodes) (sym can.at) (latest_place can.history old can.told_cancels) in
    record {
      own = λ n c is. own_early can.history s place old.before (Some here) n (rows.row old.nodes n) c (latest.own n) (ap (option_and_then (λ (t : ScopeNode). t.own)) (sym (it.stepped.rows n)) ∙ is);
      opening = λ n m is. latest.opening n m (sym (ap (option_map (λ (t : ScopeNode). t.opened)) (it.stepped.rows n) ∙ opened_kept can.history s place old.before (Some here) n (rows.row old.nodes n)) ∙ is);
    }

-- ---- a turn

-- where the walk goes on
abbrev pub onward : RowTable → ℕ → ℕ → Option ℕ
onward table s here = cond (here == s) None (below_of table.scopes_before table.scopes here)

-- what is past after the turn was past before it, or is the scope here
pub record IsOnward (h : History) (a s here : ℕ) (next : Option ℕ) : Type 0 where
  pub there : IsNext h a s next
  pub itself : is_done h s next here ≡ true
  pub others : (k : ℕ) → k ≢ here → is_done h s (Some here) k ≡ is_done h s next k

onward_end : (h : History) (a s here : ℕ) → HasUnclosed h a s → HasUnclosed h a here → here ≡ s → IsOnward h a s here None
onward_end h a s here it other same = record {
  there = tt;
  itself = unclosed_covered h a s here it other (omega (arith, same));
  others = λ k apart. by k apart (covers h s k) refl;
}
  where
    by : (k : ℕ) → k ≢ here → (b : Bool) → covers h s k ≡ b → (b && nat_lt here k) ≡ b
    by k apart false out = refl
    by k apart true covered = let from = (covered_unclosed h a s k it covered).1 in lt-ltb here k (omega (arith, from, same, apart))

onward_below : (h : History) (a s here p : ℕ) → HasUnclosed h a s → HasUnclosed h a here → s ≤ here → HasUnclosed h a p → s ≤ p → p < here → ((u : ℕ) → HasUnclosed h a u → u < here → u ≤ p) → IsOnward h a s here (Some p)
onward_below h a s here p it other from next from_p less greatest = record {
  there = (next, from_p);
  itself = ap (λ b. b && nat_lt p here) (unclosed_covered h a s here it other from) ∙ lt-ltb p here less;
  others = λ k apart. by k apart (covers h s k) refl;
}
  where
    later : (k : ℕ) → k ≢ here → HasUnclosed h a k → (c : Bool) → nat_lt here k ≡ c → c ≡ nat_lt p k
    later k apart one true is = sym (lt-ltb p k (let more = ltb-true here k is in omega (arith, more, less)))
    later k apart one false is =
        let under = ltb-false here k is in
        sym (le-ltb p k (greatest k one (omega (arith, under, apart))))

    by : (k : ℕ) → k ≢ here → (b : Bool) → covers h s k ≡ b → (b && nat_lt here k) ≡ (b && nat_lt p k)
    by k apart false out = refl
    by k apart true covered = later k apart (covered_unclosed h a s k it covered).0 (nat_lt here k) refl

-- wherever the walk goes on
pub goes_on : (L : Limits) (h : History) (a s here : ℕ) (table : RowTable) → Legal L h → Accepts L h (BeginClose a s) → AreRowsOf h table → HasUnclosed h a here → s ≤ here → IsOnward h a s here (onward table s here)
goes_on L h a s here table legal ok are other from = by (eqb here s) refl
  where
    it : HasUnclosed h a s
    it = unclosed_itself L h a s legal ok

    by : (b : Bool) → eqb here s ≡ b → IsOnward h a s here (cond b None (below_of table.scopes_before table.scopes here))
    by true is = onward_end h a s here it other (eqb-true here s is)
    by false is =
        let apart = eqb-false here s is in
        let below = (are_below L h table a legal are here other).0 in
        let found = below.greatest s it (omega (arith, from, apart)) in
        let there = below.there found.0 found.1 in
        subst (IsOnward h a s here) (sym found.1)
        (onward_below h a s here found.0 it other from there.0 found.2 there.1
        (λ u one less. let more = below.greatest u one less in let same : more.0 ≡ found.0 = cc (more.1, found.1) in omega (arith, more.2, same)))

map_twice : (f g k : ScopeNode → ScopeNode) (o : Option ScopeNode) → ((t : ScopeNode) → f (g t) ≡ k t) → option_map f (option_map g o) ≡ option_map k o
map_twice f g k None same = refl
map_twice f g k (Some t) same = ap Some (same t)

-- one row after the turn
turned : (h : History) (a s place here b n m : ℕ) (next : Option ℕ) (t : ScopeNode) → b + n ≡ here → IsOnward h a s here next
    → at_row n (with_own (cancel_at place n Close)) m (so_far h s place b (Some here) m t) ≡ so_far h s place b next m t
turned h a s place here b n m next t number on = by (eqb m n) refl
  where
    not_yet : (c : Bool) → (c && nat_lt here here) ≡ false
    not_yet true = le-ltb here here (omega arith)
    not_yet false = refl

    by : (c : Bool) → eqb m n ≡ c → cond c (with_own (cancel_at place n Close) (so_far h s place b (Some here) m t)) (so_far h s place b (Some here) m t) ≡ so_far h s place b next m t
    by true is =
        let same : m ≡ n = eqb-true m n is in
        let at : b + m ≡ here = ap (λ j. b + j) same ∙ number in
        let before : so_far h s place b (Some here) m t ≡ t = cond_false (is_done h s (Some here) (b + m)) (with_own (cancel_at place m Close) t) t (ap (is_done h s (Some here)) at ∙ not_yet (covers h s here)) in
        let then : so_far h s place b next m t ≡ with_own (cancel_at place m Close) t = ap (λ c. cond c (with_own (cancel_at place m Close) t) t) (ap (is_done h s next) at ∙ on.itself) in
        ap (with_own (cancel_at place n Close)) before ∙ (ap (λ j. with_own (cancel_at place j Close) t) (sym same) ∙ sym then)
    by false is =
        let apart = eqb-false m n is in
        ap (λ c. cond c (with_own (cancel_at place m Close) t) t) (on.others (b + m) (λ same. apart (omega (arith, same, number))))

-- how far the walk has come after a turn
pub walk_on : (table : RowTable) (old now then : CancelTable) (from : Option ℕ) (s place here : ℕ) → CanClose table old from s place → IsWalked table old now from s place (Some here) → then ≡ cancelled now here Close place → IsWalked table old then from s place (onward table s here)
walk_on table old now then from s place here can walked is =
    let has = here_row table old now from s place here can walked in
    record {
      moment = ap (λ (t : CancelTable). t.moment) is ∙ walked.moment;
      accounts = ap (λ (t : CancelTable). t.accounts) is ∙ walked.accounts;
      covered = λ L h a legal ok are inner.
          let it = walked.covered L h a legal ok are inner in
          let on = goes_on L h a s here table legal ok are it.goes.0 it.goes.1 in
          let n = here - now.before in
          let number : old.before + n ≡ here = omega (arith, has.after, it.stepped.before) in
          let step = with_own (cancel_at place n Close) in
          let nodes : then.nodes ≡ rows.changed now.nodes n step = ap (λ (t : CancelTable). t.nodes) is in
          record {
            stepped = record {
              before = ap (λ (t : CancelTable). t.before) is ∙ it.stepped.before;
              length = ap length nodes ∙ (altered_length step now.nodes (n - 1) ∙ it.stepped.length);
              rows = λ m.
                  ap (λ ts. rows.row ts m) nodes ∙ (changed_rows now.nodes n step (omega (arith, has.after)) m
                  ∙ (ap (option_map (at_row n step m)) (it.stepped.rows m)
                  ∙ map_twice (at_row n step m) (so_far h s place old.before (Some here) m) (so_far h s place old.before (onward table s here) m) (rows.row old.nodes m)
                  (λ t. turned h a s place here old.before n m (onward table s here) t number on)));
            };
            goes = on.there;
          };
    }

-- the walk goes down
pub walk_shrinks : (table : RowTable) (old now : CancelTable) (from : Option ℕ) (s place here u : ℕ) → CanClose table old from s place → IsWalked table old now from s place (Some here) → onward table s here ≡ Some u → u < here
walk_shrinks table old now from s place here u can walked is = by (eqb here s) refl
  where
    it : IsCovered can.history can.actor s place old now (Some here)
    it = covered_here table old now from s place here can walked

    by : (b : Bool) → eqb here s ≡ b → u < here
    by true same = absurd (let none : None ≡ Some u = sym (ap (λ b. cond b None (below_of table.scopes_before table.scopes here)) same) ∙ is in cc)
    by false apart =
        let found : below_of table.scopes_before table.scopes here ≡ Some u = sym (ap (λ b. cond b None (below_of table.scopes_before table.scopes here)) apart) ∙ is in
        ((are_below can.limits can.history table can.actor can.legal can.told_rows here it.goes.0).0.there u found).1

-- at the end, the beginning of the close is told
pub walk_end : (table : RowTable) (old now : CancelTable) (from : Option ℕ) (s place : ℕ) → IsWalked table old now from s place None → HasBegunClose table old now from s place
walk_end table old now from s place walked L h a legal ok are cancels inner at =
    let it = walked.covered L h a legal ok are inner in
    closing_next L h a s old now legal cancels (subst (λ p. HasStepped old now (so_far h s p old.before None)) at it.stepped) walked.moment walked.accounts

-- and so fewer scopes are left
pub walk_falls : (table : RowTable) (old now : CancelTable) (from : Option ℕ) (s place here : ℕ) (next : Option ℕ) → CanClose table old from s place → IsWalked table old now from s place (Some here) → onward table s here ≡ next → walk_length next < walk_length (Some here)
walk_falls table old now from s place here None can walked is = omega arith
walk_falls table old now from s place here (Some u) can walked is = let less = walk_shrinks table old now from s place here u can walked is in omega (arith, less)

pub onward_at : (table : RowTable) (s here : ℕ) → here ≡ s → onward table s here ≡ None
onward_at table s here same = ap (λ b. cond b None (below_of table.scopes_before table.scopes here)) (eq-eqb here s same)

pub onward_past : (table : RowTable) (s here : ℕ) → here ≢ s → onward table s here ≡ below_of table.scopes_before table.scopes here
onward_past table s here apart = ap (λ b. cond b None (below_of table.scopes_before table.scopes here)) (ne_eqb here s apart)
