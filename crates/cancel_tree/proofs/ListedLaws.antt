-- The cancelled scopes stay listed through each call.
use Rattle.std.proofs.Common.{[], ℕ, ◌++◌, ◌+◌, ◌-◌, ◌<◌, ◌∙◌, ◌∷◌, ◌≡◌, ◌≤◌, AllPairs, Bool, IsPermutation, List, None, Option, Some, ap, arith, cond, false, get_or, inl, inr, is_some, length, max, refl, slice_get, subst, suc}
use Rattle.std.proofs.Common.{sym, true, vec_capacity, zero}
use Rattle.cancel_tree.specs.{AreColumns, AreListed, AreRuns, CauseKind, FirstCancel, IfSome, IsAdded, IsBefore, IsCancelOrder, IsGrown, IsInward, IsLatest, IsListOf, IsOnce, Links, ScopeNode, Words.CancelOrder, cancel_at}
use Rattle.cancel_tree.specs.{cancel_of, cancelled_at, changed, first_cancel_by, has_cancel, is_at_or_before, nearer, new_row, opened_of, option_and_then, option_map, outer, outer_of, own_of, reached, row, times, with_deadline}
use Rattle.cancel_tree.specs.{with_own}
use Rattle.cancel_tree.proofs.Words.{Contains-get_or, cancel_law, cases_Bool, cases_lt, false≢true, same_Some, slice_get_past, slice_get_within, some_none}
use Rattle.cancel_tree.proofs.{AddLaws.cancel_before, AddLaws.cancel_here, AddLaws.inward_new, AddLaws.push_length, AddLaws.row_before, AddLaws.row_here, ColumnLaws.cancel_replaced, ColumnLaws.cancels_later}
use Rattle.cancel_tree.proofs.{ColumnLaws.cancels_put, ColumnLaws.now, ColumnLaws.outers_kept, FirstCancelLaws.cancel_bounded, LatestLaws.latest_add, LatestLaws.latest_before, LatestLaws.latest_cancel_before}
use Rattle.cancel_tree.proofs.{LatestLaws.latest_deadline_before, LatestLaws.openings_cancel, LatestLaws.openings_deadline, ListLaws.added_new, ListLaws.contains_times, ListLaws.listed_moved, ListLaws.listed_new}
use Rattle.cancel_tree.proofs.{ListLaws.listed_once, ListLaws.pairs_nil, ListLaws.times_contains, RowLaws.field_kept, RowLaws.outer_inward, RunLaws.all_ordered, RunLaws.runs_grow, RunLaws.runs_same, RunLaws.runs_stay}

-- ---- the place of a cancellation

when_is : (nodes : List ScopeNode) (s n : ℕ) (c : FirstCancel) → opened_of nodes s ≡ Some n → cancel_of nodes s ≡ Some c → cancelled_at nodes s ≡ Some (max n c.place)
when_is nodes s n c at is = (λ i. option_and_then (λ n. option_map (λ (c : FirstCancel). max n c.place) (is i)) (at i))

record IsWhen (nodes : List ScopeNode) (s m : ℕ) : Type 0 where
  opened : ℕ
  first_cancel : FirstCancel
  at : opened_of nodes s ≡ Some opened
  is : cancel_of nodes s ≡ Some first_cancel
  place : max opened first_cancel.place ≡ m

when_of : (nodes : List ScopeNode) (s m : ℕ) → cancelled_at nodes s ≡ Some m → IsWhen nodes s m
when_of nodes s m e = by (opened_of nodes s) refl (cancel_of nodes s) refl e
  where
    by : (o : Option ℕ) → opened_of nodes s ≡ o → (k : Option FirstCancel) → cancel_of nodes s ≡ k → option_and_then (λ n. option_map (λ (c : FirstCancel). max n c.place) k) o ≡ Some m → IsWhen nodes s m
    by None at k is e = absurd (some_none m e)
    by (Some n) at None is e = absurd (some_none m e)
    by (Some n) at (Some c) is e = record { opened = n; first_cancel = c; at = at; is = is; place = same_Some (max n c.place) m e }

-- what was opened has a number
numbered : (nodes : List ScopeNode) (s n : ℕ) → opened_of nodes s ≡ Some n → 1 ≤ s
numbered nodes zero n e = absurd (some_none n e)
numbered nodes (suc i) n e = omega arith

-- if the openings and the cancels of two trees are the same, so are the moments
when_same : (nodes new : List ScopeNode) → ((s : ℕ) → 1 ≤ s → cancel_of new s ≡ cancel_of nodes s) → ((s : ℕ) → opened_of new s ≡ opened_of nodes s) → (s n : ℕ) → cancelled_at nodes s ≡ Some n → cancelled_at new s ≡ Some n
when_same nodes new cancels opened s n e =
    let w = when_of nodes s n e in
    when_is new s w.opened w.first_cancel (opened s ∙ w.at) (cancels s (numbered nodes s w.opened w.at) ∙ w.is) ∙ ap Some w.place

-- ---- which scopes have a first cancel

unadded : (nodes : List ScopeNode) → IsInward (outer_of nodes) → (s : ℕ) → row nodes s ≡ None → cancel_of nodes s ≡ None
unadded nodes inward s none =
    cancel_law (outer_of nodes) inward (own_of nodes) s
    ∙ (λ i. nearer (option_and_then (λ (t : ScopeNode). t.own) (none i)) (option_and_then (first_cancel_by (outer_of nodes) (own_of nodes)) (option_and_then outer (none i))))

module _ (nodes : List ScopeNode) (links : List Links) (cancels : List (Option FirstCancel)) (kept : AreColumns nodes links cancels) where
  inwards : IsInward (outer_of nodes)
  inwards = outer_inward nodes kept.inward

  -- the column says which scopes are cancelled
  pub cancel_is : (s : ℕ) → has_cancel cancels s ≡ is_some (cancel_of nodes s)
  cancel_is zero = sym (ap is_some (unadded nodes inwards zero refl))
  cancel_is (suc i) =
      elim (cases_lt i (length nodes)) [
        | inl lt ↦ ap (λ o. is_some (option_and_then (λ o. o) o)) (kept.first_cancel i lt)
        | inr ge ↦ ap (λ o. is_some (option_and_then (λ o. o) o)) (slice_get_past cancels i (omega (arith, kept.columns))) ∙ sym (ap is_some (unadded nodes inwards (suc i) (slice_get_past nodes i ge)))
      ]

  -- a scope with a first cancel was opened
  opened_cancel : (s : ℕ) → is_some (cancel_of nodes s) ≡ true → (n : ℕ) × (opened_of nodes s ≡ Some n)
  opened_cancel s some = by (row nodes s) refl
    where
      by : (o : Option ScopeNode) → row nodes s ≡ o → (n : ℕ) × (opened_of nodes s ≡ Some n)
      by None none = absurd (false≢true (sym (ap is_some (unadded nodes inwards s none)) ∙ some))
      by (Some t) at = (t.opened, ap (option_map (λ (t : ScopeNode). t.opened)) at)

-- ---- the calls

pub none_listed : (l : CancelOrder) → l.scopes.items ≡ [] → l.run ≡ 0 → l.place ≡ 0 → AreListed [] [] l
none_listed l none run place = record {
  whole = record { once = λ s. ap (times s) none ∙ zero_times s; count = ap length none };
  runs = record {
    front = [];
    rest = [];
    is = none;
    run = sym run;
    earlier = λ i d lt. absurd (omega (arith, lt));
    ordered = pairs_nil (IsBefore (cancelled_at []));
    now = λ i d lt. absurd (omega (arith, lt));
    sorted = λ e. pairs_nil (λ s t. s < t);
  };
  latest = λ n h. omega (arith, place);
  room = omega arith;
}
  where
    zero_times : (s : ℕ) → times s [] ≡ cond (has_cancel [] s) 1 0
    zero_times zero = refl
    zero_times (suc i) = refl

pub listed_deadline : (nodes : List ScopeNode) (s : ℕ) (d : Option ℕ) (cancels : List (Option FirstCancel)) (l : CancelOrder) → 1 ≤ s → AreListed nodes cancels l → AreListed (changed nodes s (with_deadline d)) cancels l
listed_deadline nodes s d cancels l h kept = record {
  whole = kept.whole;
  runs = runs_stay (cancelled_at nodes) (cancelled_at new) (when_same nodes new (λ t le. cancel_same t) (λ t. openings_deadline nodes s d t h)) l kept.runs;
  latest = λ n latest. kept.latest n (latest_deadline_before nodes n s d h latest);
  room = kept.room;
}
  where
    new : List ScopeNode
    new = changed nodes s (with_deadline d)

    cancel_same : (t : ℕ) → cancel_of (changed nodes s (with_deadline d)) t ≡ cancel_of nodes t
    cancel_same t = (λ i. first_cancel_by (outers_kept nodes s h (with_deadline d) (λ x. refl) i) (λ u. field_kept (λ x. x.own) (with_deadline d) (λ x. refl) nodes s u h i) t)

module _ (nodes : List ScopeNode) (links : List Links) (cancels : List (Option FirstCancel)) (s n : ℕ) (kind : CauseKind) (added : IsAdded nodes s) (kept : AreColumns nodes links cancels) (d : ScopeNode) (none : (get_or nodes (s - 1) d).own ≡ None) (latest : IsLatest nodes n) (l : CancelOrder) (listed : AreListed nodes cancels l) where
  abbrev new : List ScopeNode
  new = changed nodes s (with_own (cancel_at n s kind))

  abbrev R : ℕ → Bool
  R t = reached (outer_of nodes) (own_of new) s 0 t

  pub listed_later : is_at_or_before n (cancel_of nodes s) ≡ false → AreListed new cancels l
  listed_later after = record {
    whole = listed.whole;
    runs = runs_stay (cancelled_at nodes) (cancelled_at new) (when_same nodes new (cancels_later nodes links cancels s n kind added kept d none latest after) (λ t. openings_cancel nodes s (cancel_at n s kind) t added.0)) l listed.runs;
    latest = λ m h. listed.latest m (latest_cancel_before nodes m s (cancel_at n s kind) added.0 h);
    room = listed.room;
  }

  module _ (first : is_at_or_before n (cancel_of nodes s) ≡ true) where
    cancel_new : (t : ℕ) → 1 ≤ t → cancel_of new t ≡ cond (R t) (Some (cancel_at n s kind)) (cancel_of nodes t)
    cancel_new = cancels_put nodes links cancels s n kind added kept d none latest first

    opened_new : (t : ℕ) → opened_of new t ≡ opened_of nodes t
    opened_new t = openings_cancel nodes s (cancel_at n s kind) t added.0

    -- what was cancelled stays so since the same place
    when_stays : (t m : ℕ) → cancelled_at nodes t ≡ Some m → cancelled_at new t ≡ Some m
    when_stays t m e =
        let w = when_of nodes t m e in
        let le = numbered nodes t w.opened w.at in
        elim (cases_Bool (R t)) [
          | inl on ↦ (let same = cancel_replaced nodes links cancels s n kind added kept d none latest first t le on w.first_cancel w.is in
              when_is new t w.opened (cancel_at n s kind) (opened_new t ∙ w.at) (cancel_new t le ∙ ap (λ b. cond b (Some (cancel_at n s kind)) (cancel_of nodes t)) on)
              ∙ ap (λ p. Some (max w.opened p)) (sym same) ∙ ap Some w.place)
          | inr off ↦ when_is new t w.opened w.first_cancel (opened_new t ∙ w.at) (cancel_new t le ∙ ap (λ b. cond b (Some (cancel_at n s kind)) (cancel_of nodes t)) off ∙ w.is) ∙ ap Some w.place
        ]

    -- what becomes cancelled does so at the place of the cancel
    when_reached : (t : ℕ) (cancels_new : List (Option FirstCancel)) → AreColumns new links cancels_new → has_cancel cancels t ≡ false → has_cancel cancels_new t ≡ true → cancelled_at new t ≡ Some n
    when_reached t cancels_new kept_new no_first_cancel is =
        let some : is_some (cancel_of new t) ≡ true = sym (cancel_is new links cancels_new kept_new t) ∙ is in
        let free : is_some (cancel_of nodes t) ≡ false = sym (cancel_is nodes links cancels kept t) ∙ no_first_cancel in
        let at = opened_cancel new links cancels_new kept_new t some in
        let le = numbered new t at.0 at.1 in
        let early : at.0 ≤ n = latest.opening t at.0 (sym (opened_new t) ∙ at.1) in
        elim (cases_Bool (R t)) [
          | inl on ↦ when_is new t at.0 (cancel_at n s kind) at.1 (cancel_new t le ∙ ap (λ b. cond b (Some (cancel_at n s kind)) (cancel_of nodes t)) on) ∙ ap Some (omega (arith, early))
          | inr off ↦ absurd (false≢true (sym (ap is_some (cancel_new t le ∙ ap (λ b. cond b (Some (cancel_at n s kind)) (cancel_of nodes t)) off) ∙ free) ∙ some))
        ]

    -- the cancel is the cause of what it reaches: l is the list with the new run begun, and then what was reached is listed
    pub listed_cancel : (begun grown : CancelOrder) (cancels_new : List (Option FirstCancel)) → AreColumns new links cancels_new → length cancels_new ≡ length cancels
        → ((when : ℕ → Option ℕ) → IsOnce l.scopes.items → AreRuns when l → AreRuns when begun) → IsPermutation l.scopes.items begun.scopes.items → begun.place ≡ n → vec_capacity begun.scopes ≡ vec_capacity l.scopes → begun.in_order ≡ false
        → IsGrown begun grown → IsListOf cancels_new grown.scopes.items → AreListed new cancels_new grown
    listed_cancel begun grown cancels_new kept_new len runs moved place room free more whole = record {
      whole = whole;
      runs = runs_grow (cancelled_at new) begun grown more free
          (runs_stay (cancelled_at nodes) (cancelled_at new) when_stays begun (runs (cancelled_at nodes) (listed_once cancels l.scopes.items listed.whole) listed.runs))
          (λ i x lt. let t = get_or more.added i x in
          let there = added_new begun grown cancels cancels_new more (listed_moved cancels l.scopes.items begun.scopes.items moved listed.whole) whole t (Contains-get_or more.added i x lt) in
          when_reached t cancels_new kept_new there.0 there.1 ∙ ap Some (sym place));
      latest = λ m h. let f : n ≤ m = h.own s (cancel_at n s kind) (now nodes links cancels s n kind added kept d none latest) in omega (arith, f, more.place, place);
      room = omega (arith, listed.room, len, room, more.room);
    }

-- ---- a scope is added

module _ (nodes : List ScopeNode) (links : List Links) (cancels : List (Option FirstCancel)) (kept : AreColumns nodes links cancels) (parent : Option ℕ) (shield : Bool) (opened : ℕ) (there : IfSome parent (IsAdded nodes)) (latest : IsLatest nodes opened) (d : Links) where
  abbrev r : ScopeNode
  r = new_row parent shield opened

  abbrev added : List ScopeNode
  added = nodes ++ r ∷ []

  abbrev first_cancel : Option FirstCancel
  first_cancel = option_and_then (cancel_of nodes) (outer r)

  latest_new : IsLatest added opened
  latest_new = latest_add nodes opened parent shield opened (omega arith) latest

  opened_here : opened_of added (suc (length nodes)) ≡ Some opened
  opened_here = ap (option_map (λ (t : ScopeNode). t.opened)) (row_here nodes links cancels kept parent shield opened there d)

  within : (s n : ℕ) → opened_of nodes s ≡ Some n → s ≤ length nodes
  within zero n e = omega arith
  within (suc i) n e = by (slice_get nodes i) refl e
    where
      by : (o : Option ScopeNode) → slice_get nodes i ≡ o → option_map (λ (t : ScopeNode). t.opened) o ≡ Some n → suc i ≤ length nodes
      by None at e = absurd (some_none n e)
      by (Some t) at e = let lt = slice_get_within nodes i t at in omega arith

  when_before : (s n : ℕ) → cancelled_at nodes s ≡ Some n → cancelled_at added s ≡ Some n
  when_before s n e =
      let w = when_of nodes s n e in
      let le = within s w.opened w.at in
      when_is added s w.opened w.first_cancel (ap (option_map (λ (t : ScopeNode). t.opened)) (row_before nodes links cancels kept parent shield opened there d s le) ∙ w.at)
      (cancel_before nodes links cancels kept parent shield opened there d s (numbered nodes s w.opened w.at) le ∙ w.is) ∙ ap Some w.place

  when_here : is_some first_cancel ≡ true → cancelled_at added (suc (length nodes)) ≡ Some opened
  when_here some = by first_cancel refl some
    where
      by : (o : Option FirstCancel) → first_cancel ≡ o → is_some o ≡ true → cancelled_at added (suc (length nodes)) ≡ Some opened
      by None at e = absurd (false≢true e)
      by (Some c) at e =
          let is : cancel_of added (suc (length nodes)) ≡ Some c = cancel_here nodes links cancels kept parent shield opened there d ∙ at in
          let early : c.place ≤ opened = cancel_bounded (outer_of added) (outer_inward added (inward_new nodes links cancels kept parent shield opened there d)) (own_of added) opened latest_new.own (suc (length nodes)) (omega arith) c is in
          when_is added (suc (length nodes)) opened c opened_here is ∙ ap Some (omega (arith, early))

  -- l is the list with room made
  pub listed_add : (l new : CancelOrder) (scope : ℕ) (k : Option FirstCancel) → AreListed nodes cancels l → k ≡ first_cancel → scope ≡ length nodes + 1 → length nodes + 1 ≤ vec_capacity l.scopes
      → ((when : ℕ → Option ℕ) → IsOnce l.scopes.items → AreRuns when l → (is_some k ≡ true → when scope ≡ Some opened) → AreRuns when new)
      → IsPermutation (cond (is_some k) (l.scopes.items ++ scope ∷ []) l.scopes.items) new.scopes.items
      → new.place ≡ cond (is_some k) opened l.place → vec_capacity new.scopes ≡ vec_capacity l.scopes → AreListed added (cancels ++ k ∷ []) new
  listed_add l new scope k listed is number enough runs moved place room = record {
    whole = listed_moved (cancels ++ k ∷ []) (cond (is_some k) (l.scopes.items ++ scope ∷ []) l.scopes.items) new.scopes.items moved
        (subst (λ s. IsListOf (cancels ++ k ∷ []) (cond (is_some k) (l.scopes.items ++ s ∷ []) l.scopes.items)) (let e : suc (length cancels) ≡ scope = omega (arith, number, kept.columns) in e) (listed_new cancels l.scopes.items k listed.whole));
    runs = runs (cancelled_at added) (listed_once cancels l.scopes.items listed.whole) (runs_stay (cancelled_at nodes) (cancelled_at added) when_before l listed.runs)
        (λ some. ap (cancelled_at added) (let e : scope ≡ suc (length nodes) = omega (arith, number) in e) ∙ when_here (ap is_some (sym is) ∙ some));
    latest = λ m h. subst (λ x. x ≤ m) (sym place) (by (is_some k) m h);
    room = omega (arith, push_length cancels k, kept.columns, enough, room);
  }
    where
      by : (b : Bool) (m : ℕ) → IsLatest added m → cond b opened l.place ≤ m
      by true m h = h.opening (suc (length nodes)) opened opened_here
      by false m h = listed.latest m (latest_before nodes m r h)

-- the list with the new row, as it is written: roomy is the list with room made
pub listed_added : (ts nodes told_new : List ScopeNode) (links : List Links) (cancels cancels_new : List (Option FirstCancel)) → nodes ≡ ts → AreColumns nodes links cancels → (parent : Option ℕ) (shield : Bool) (opened : ℕ) → IfSome parent (IsAdded ts) → IsLatest ts opened
    → (o : Option ℕ) (k : Option FirstCancel) (b : Bool) → b ≡ true → told_new ≡ cond b (nodes ++ new_row parent shield opened ∷ []) nodes → cancels_new ≡ cond b (cancels ++ k ∷ []) cancels → o ≡ outer (new_row parent shield opened) → k ≡ option_and_then (cancel_of ts) o
    → Links → (roomy new : CancelOrder) (scope : ℕ) → AreListed nodes cancels roomy → scope ≡ length ts + 1 → length nodes + 1 ≤ vec_capacity roomy.scopes
    → ((when : ℕ → Option ℕ) → IsOnce roomy.scopes.items → AreRuns when roomy → (is_some k ≡ true → when scope ≡ Some opened) → AreRuns when new)
    → IsPermutation (cond (is_some k) (roomy.scopes.items ++ scope ∷ []) roomy.scopes.items) new.scopes.items
    → new.place ≡ cond (is_some k) opened roomy.place → vec_capacity new.scopes ≡ vec_capacity roomy.scopes → AreListed told_new cancels_new new
listed_added ts nodes told_new links cancels cancels_new is kept parent shield opened there latest o k b done a u at first_cancel d roomy new scope listed number enough runs moved place room =
    subst (λ xs. AreListed xs cancels_new new) (sym (a ∙ ap (λ c. cond c (nodes ++ new_row parent shield opened ∷ []) nodes) done))
    (subst (λ xs. AreListed (nodes ++ new_row parent shield opened ∷ []) xs new) (sym (u ∙ ap (λ c. cond c (cancels ++ k ∷ []) cancels) done))
    (listed_add nodes links cancels kept parent shield opened (subst (λ xs. IfSome parent (IsAdded xs)) (sym is) there) (subst (λ xs. IsLatest xs opened) (sym is) latest) d roomy new scope k listed
    (first_cancel ∙ ap (λ xs. option_and_then (cancel_of xs) o) (sym is) ∙ ap (option_and_then (cancel_of nodes)) at) (number ∙ ap (λ xs. length xs + 1) (sym is)) enough runs moved place room))

-- if a call is refused, the column is as it was
pub refused_same : {A : Type 0} (b : Bool) (put more old : List A) → put ≡ cond b more old → b ≡ false → put ≡ old
refused_same b put more old e off = e ∙ ap (λ b. cond b more old) off

-- more room is of no matter to the tree
pub listed_room : (nodes : List ScopeNode) (cancels : List (Option FirstCancel)) (l new : CancelOrder) → new.scopes.items ≡ l.scopes.items → new.run ≡ l.run → new.place ≡ l.place → new.in_order ≡ l.in_order → vec_capacity l.scopes ≤ vec_capacity new.scopes → AreListed nodes cancels l → AreListed nodes cancels new
listed_room nodes cancels l new is run place in_order room listed = record {
  whole = subst (IsListOf cancels) (sym is) listed.whole;
  runs = runs_same (cancelled_at nodes) l new is run place in_order listed.runs;
  latest = λ n h. let f = listed.latest n h in omega (arith, place);
  room = let f = listed.room in omega (arith, room);
}

-- nor is the order of the last run
pub listed_order : (nodes : List ScopeNode) (cancels : List (Option FirstCancel)) (l new : CancelOrder) → ((when : ℕ → Option ℕ) → IsOnce l.scopes.items → AreRuns when l → AreRuns when new) → IsPermutation l.scopes.items new.scopes.items → new.place ≡ l.place → vec_capacity new.scopes ≡ vec_capacity l.scopes
    → AreListed nodes cancels l → AreListed nodes cancels new
listed_order nodes cancels l new runs moved place room listed = record {
  whole = listed_moved cancels l.scopes.items new.scopes.items moved listed.whole;
  runs = runs (cancelled_at nodes) (listed_once cancels l.scopes.items listed.whole) listed.runs;
  latest = λ n h. let f = listed.latest n h in omega (arith, place);
  room = let f = listed.room in omega (arith, room);
}

-- ---- the whole list

-- in order, the list is that of the cancelled scopes in order of their cancellation
pub cancel_order : (nodes : List ScopeNode) (links : List Links) (cancels : List (Option FirstCancel)) (l : CancelOrder) → AreColumns nodes links cancels → AreListed nodes cancels l → l.in_order ≡ true → IsCancelOrder nodes l.scopes.items
cancel_order nodes links cancels l kept listed ok = record {
  all = λ s is. times_contains l.scopes.items s (let a : times s l.scopes.items ≡ 1 = listed.whole.once s ∙ ap (λ b. cond b 1 0) (cancel_is nodes links cancels kept s ∙ is) in omega arith);
  only = λ s has. sym (cancel_is nodes links cancels kept s) ∙ (let a : 1 ≤ cond (has_cancel cancels s) 1 0 = (let b = contains_times l.scopes.items s has in let c = listed.whole.once s in omega arith) in listed_is (has_cancel cancels s) a);
  ascends = subst (λ xs. AllPairs (IsBefore (cancelled_at nodes)) xs) (sym listed.runs.is) (all_ordered (cancelled_at nodes) l listed.runs ok);
}
  where
    listed_is : (b : Bool) → 1 ≤ cond b 1 0 → b ≡ true
    listed_is true le = refl
    listed_is false le = absurd (omega (arith, le))
