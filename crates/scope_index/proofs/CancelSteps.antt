-- What a cancel, a move, a tick and the beginning of a close make of the table.
use Rattle.std.proofs.Common.{ℕ, ◌+◌, ◌-◌, ◌==◌, ◌||◌, ◌∙◌, ◌≡◌, ◌≢◌, ◌⊎◌, Bool, None, Option, Some, ap, arith, cond, false, inl, inr, is_some, length, nat_lt, option_map, refl, slice_get, subst, sym, true}
use Rattle.scope_index.specs.{AreCancelsOf, BeginClose, Call, Cancel, CancelTable, CauseKind, Close, Deadline, Event, FirstCancel, HasRow, History, IsNodeOf, Joiner, Legal, Limits, Move, ScopeNode, Tick, cancel_at, cancelled}
use Rattle.scope_index.specs.{changed, completion_of, counting_deadline, covers, deadline, followed, is_open, is_past, joined, joiner_fires, moment, move_of, option_map_or, option_or, tick_of, to_come, with_deadline, with_own}
use Rattle.scope_index.proofs.Words.{counting_grows, eq-eqb, le-leb, ltb-false, moment_grows, option_or-none}
use Rattle.scope_index.proofs.{EventSteps.Row, EventSteps.at_row_by, EventSteps.moment_same, EventSteps.other_row, EventSteps.row_of_scope, EventSteps.stepped_at, OwnCancels.kind_told, OwnCancels.overdue_cancelled}
use Rattle.scope_index.proofs.{RowSteps.counting_same, RowSteps.own_some, RowSteps.row_next, RowSteps.row_stays, TableSteps.HasStepped, TableSteps.accounts_stay, TableSteps.at_row, TableSteps.table_next}
use Rattle.cancel_tree.specs.Rows as rows

-- ---- a cancel

call_here : (s t : ℕ) → s ≡ t → (k : Option CauseKind) → cond (s == t) (Some Call) k ≡ Some Call
call_here s t same k = ap (λ b. cond b (Some Call) k) (eq-eqb s t same)

call_there : (s t : ℕ) → (s == t) ≡ false → cond (s == t) (Some Call) None ≡ None
call_there s t apart = ap (λ b. cond b (Some Call) None) apart

-- an event that changes one row and leaves the others, the moment and the accounts leaves the table right
one_row_next : (L : Limits) (h : History) (e : Event) (s : ℕ) (f : ℕ → ScopeNode → ScopeNode) (old new : CancelTable) (at : Row old s) → Legal L h → AreCancelsOf h old
    → new ≡ record old { nodes = changed old.nodes (s - old.before) (f (s - old.before)) } → is_open e ≡ false → tick_of e ≡ None → ((n : ℕ) → completion_of (followed h e) n e ≡ None)
    → ((row : ScopeNode) → IsNodeOf h old.before (old.before + at.number) row → IsNodeOf (followed h e) old.before (old.before + at.number) (f at.number row))
    → ((m : ℕ) (row : ScopeNode) → m ≢ at.number → IsNodeOf h old.before (old.before + m) row → IsNodeOf (followed h e) old.before (old.before + m) row)
    → AreCancelsOf (followed h e) new
one_row_next L h e s f old new at legal was is unopened untimed unended here others =
    let number : s - old.before ≡ at.number = omega (arith, at.is) in
    let nodes : new.nodes ≡ changed old.nodes at.number (f at.number) = ap (λ (t : CancelTable). t.nodes) is ∙ ap (λ n. changed old.nodes n (f n)) number in
    let accounts : new.accounts ≡ old.accounts = ap (λ (t : CancelTable). t.accounts) is in
    let before : new.before ≡ old.before = ap (λ (t : CancelTable). t.before) is in
    let moment_is : new.moment ≡ old.moment = ap (λ (t : CancelTable). t.moment) is in
    table_next h e old new (at_row at.number (f at.number)) was unopened (stepped_at old new at.number (f at.number) at.first before nodes)
    (moment_is ∙ (was.moment ∙ sym (moment_same h e untimed))) (ap length accounts)
    (λ m row there row_is. at_row_by (λ k t. IsNodeOf (followed h e) old.before (old.before + k) t) at.number (f at.number) m row
    (λ same. here row (subst (λ k. IsNodeOf h old.before (old.before + k) row) same row_is))
    (λ apart. others m row apart row_is))
    (λ i acc there. accounts_stay L h e old legal was unended i acc (sym (ap (λ xs. slice_get xs i) accounts) ∙ there))

pub cancelled_next : (L : Limits) (h : History) (s : ℕ) (old new : CancelTable) → Legal L h → AreCancelsOf h old → HasRow old s
    → new ≡ cancelled old s Call (length h.events)
    → AreCancelsOf (followed h (Cancel s)) new
unfolding joiner_fires
cancelled_next L h s old new legal was has is =
    let e = Cancel s in
    let at = row_of_scope old s has in
    let place = length h.events in
    one_row_next L h e s (λ n. with_own (cancel_at place n Call)) old new at legal was is refl refl (λ k. refl)
    (λ row here. row_next h e old.before at.number row (with_own (cancel_at place at.number Call) row) here refl refl refl (counting_same h e old.before (old.before + at.number) row here refl refl)
    (sym (ap (λ k. option_or row.own (option_map (λ x. cancel_at place at.number x) (option_or k (cond (joiner_fires (followed h e) (old.before + at.number) e) (Some Joiner) (cond (is_past (moment (followed h e)) row.deadline) (Some Deadline) None))))) (call_here s (old.before + at.number) (sym at.is) None))))
    (λ m row apart row_is. row_stays L h e old.before m row legal row_is (moment_same h e refl) refl refl (call_there s (old.before + m) (other_row old.before m at.number s at.is apart)) refl)

-- ---- a tick

-- the deadline passes if it was still to come
abbrev pub passes : ℕ → ℕ → Option ℕ → Bool
passes before now deadline = is_past now (to_come before deadline)

abbrev pub ticked : ℕ → ℕ → ℕ → ℕ → ScopeNode → ScopeNode
ticked before now place n t = cond (passes before now t.deadline) (with_own (cancel_at place n Deadline) t) t

past_split : (before now : ℕ) (d : Option ℕ) → is_past now d ≡ true → (is_past before d ≡ true) ⊎ (passes before now d ≡ true)
past_split before now None past = absurd cc
past_split before now (Some d) past = by (nat_lt before d) refl
  where
    by : (b : Bool) → nat_lt before d ≡ b → (is_past before (Some d) ≡ true) ⊎ (is_past now (cond b (Some d) None) ≡ true)
    by true is = inr past
    by false is = inl (le-leb d before (omega (arith, ltb-false before d is)))

not_passing : (before now : ℕ) (d : Option ℕ) → is_past now d ≡ false → passes before now d ≡ false
not_passing before now None past = refl
not_passing before now (Some d) past = by (nat_lt before d)
  where
    by : (b : Bool) → is_past now (cond b (Some d) None) ≡ false
    by true = past
    by false = refl

ticked_own : (before now place n : ℕ) (t : ScopeNode) → (is_past before t.deadline ≡ true → is_some t.own ≡ true)
    → (ticked before now place n t).own ≡ option_or t.own (option_map (λ k. cancel_at place n k) (kind_told None false now t.deadline))
ticked_own before now place n t had = by (is_past now t.deadline) refl
  where
    with : (p : Bool) (o : Option FirstCancel) → (p ≡ false → is_some o ≡ true) → (cond p (with_own (cancel_at place n Deadline) (record t { own = o })) (record t { own = o })).own ≡ option_or o (Some (cancel_at place n Deadline))
    with true o some = refl
    with false None some = absurd cc (some refl)
    with false (Some c) some = refl

    by : (b : Bool) → is_past now t.deadline ≡ b → (ticked before now place n t).own ≡ option_or t.own (option_map (λ k. cancel_at place n k) (cond b (Some Deadline) None))
    by true is = with (passes before now t.deadline) t.own (λ kept. elim (past_split before now t.deadline is) [ inl past ↦ had past | inr passed ↦ absurd (apart kept passed) ])
      where
        apart : passes before now t.deadline ≡ false → passes before now t.deadline ≡ true → ⊥
        apart a b = absurd cc
    by false is = ap (λ p. (cond p (with_own (cancel_at place n Deadline) t) t).own) (not_passing before now t.deadline is) ∙ sym (option_or-none t.own)

-- the moment is that of the tick
ticked_moment : (h : History) (now : ℕ) → moment (followed h (Tick now)) ≡ now
ticked_moment h now = moment_grows h (Tick now)

-- in a legal history a row whose deadline passed has its own cancel
pub past_has_own : (L : Limits) (h : History) (b s : ℕ) (t : ScopeNode) → Legal L h → IsNodeOf h b s t → is_past (moment h) t.deadline ≡ true → is_some t.own ≡ true
past_has_own L h b s t legal was past = own_some b t.own (ap is_some (sym was.own) ∙ overdue_cancelled L h s was.opened legal was.is (ap (is_past (moment h)) was.deadline ∙ past))

-- what an own cancel leaves of a row, a tick leaves too
ticked_leaves : {A : Type 0} (f : ScopeNode → A) → ((c : FirstCancel) (t : ScopeNode) → f (with_own c t) ≡ f t) → (before now place n : ℕ) (t : ScopeNode) → f (ticked before now place n t) ≡ f t
ticked_leaves f same before now place n t = by (passes before now t.deadline)
  where
    by : (b : Bool) → f (cond b (with_own (cancel_at place n Deadline) t) t) ≡ f t
    by true = same (cancel_at place n Deadline) t
    by false = refl

pub ticked_next : (L : Limits) (h : History) (now : ℕ) (old new : CancelTable) → Legal L h → AreCancelsOf h old
    → HasStepped old new (ticked old.moment now (length h.events)) → new.moment ≡ now → new.accounts ≡ old.accounts
    → AreCancelsOf (followed h (Tick now)) new
unfolding joiner_fires
ticked_next L h now old new legal was stepped moment_is accounts =
    let e = Tick now in
    let place = length h.events in
    let at = ticked_moment h now in
    table_next h e old new (ticked old.moment now place) was refl stepped
    (moment_is ∙ sym at) (ap length accounts)
    (λ m row there row_is.
    let s = old.before + m in
    let deadline = ticked_leaves (λ (t : ScopeNode). t.deadline) (λ c t. refl) old.moment now place m row in
    let own = ticked_own old.moment now place m row (λ past. past_has_own L h old.before s row legal row_is (sym (ap (λ x. is_past x row.deadline) was.moment) ∙ past)) in
    row_next h e old.before m row (ticked old.moment now place m row) row_is (ticked_leaves (λ (t : ScopeNode). t.parent) (λ c t. refl) old.moment now place m row) (ticked_leaves rows.outer (λ c t. refl) old.moment now place m row)
    (ticked_leaves (λ (t : ScopeNode). t.opened) (λ c t. refl) old.moment now place m row)
    (counting_same h e old.before s row row_is refl refl ∙ sym deadline)
    (own ∙ ap (λ x. option_or row.own (option_map (λ k. cancel_at place m k) (kind_told None false x row.deadline))) (sym at)
    ∙ ap (λ d. option_or row.own (option_map (λ k. cancel_at place m k) (kind_told None false (moment (followed h e)) d))) (sym deadline)))
    (λ i acc there. accounts_stay L h e old legal was (λ k. refl) i acc (sym (ap (λ xs. slice_get xs i) accounts) ∙ there))

-- ---- a move

-- the row with the new deadline, and with its own cancel if that has passed
abbrev pub moved : ℕ → ℕ → Option ℕ → ℕ → ScopeNode → ScopeNode
moved now place deadline n t = cond (is_past now deadline) (with_own (cancel_at place n Deadline) (with_deadline deadline t)) (with_deadline deadline t)

counting_moved : (h : History) (s b : ℕ) (d : Option ℕ) (t : ScopeNode) → IsNodeOf h b s t → joined h s ≡ false → counting_deadline (followed h (Move s d)) s ≡ d
counting_moved h s b d t was unjoined = counting_grows h (Move s d) s was.opened was.is ∙ by (joined h s) (s == s) unjoined (eq-eqb s s refl)
  where
    by : (j k : Bool) → j ≡ false → k ≡ true → cond (j || false) None (option_map_or (λ x. x) (cond k (Some d) None) (deadline h s)) ≡ d
    by false true n y = refl
    by true k n y = absurd cc
    by false false n y = absurd cc

moved_away : (s t : ℕ) (d : Option ℕ) → (s == t) ≡ false → move_of t (Move s d) ≡ None
moved_away s t d apart = ap (λ b. cond b (Some d) None) apart

moved_row : (h : History) (b n now : ℕ) (d : Option ℕ) (t : ScopeNode) → IsNodeOf h b (b + n) t → joined h (b + n) ≡ false → now ≡ moment h
    → IsNodeOf (followed h (Move (b + n) d)) b (b + n) (moved now (length h.events) d n t)
unfolding joiner_fires
moved_row h b n now d t was unjoined at = by (is_past now d) refl
  where
    same : moment (followed h (Move (b + n) d)) ≡ now
    same = moment_same h (Move (b + n) d) refl ∙ sym at

    by : (p : Bool) → is_past now d ≡ p → IsNodeOf (followed h (Move (b + n) d)) b (b + n) (cond p (with_own (cancel_at (length h.events) n Deadline) (with_deadline d t)) (with_deadline d t))
    by true past = row_next h (Move (b + n) d) b n t (with_own (cancel_at (length h.events) n Deadline) (with_deadline d t)) was refl refl refl (counting_moved h (b + n) b d t was unjoined)
        (ap (λ x. option_or t.own (option_map (λ k. cancel_at (length h.events) n k) (cond x (Some Deadline) None))) (sym (ap (λ m. is_past m d) same ∙ past)))
    by false past = row_next h (Move (b + n) d) b n t (with_deadline d t) was refl refl refl (counting_moved h (b + n) b d t was unjoined)
        (sym (option_or-none t.own) ∙ ap (λ x. option_or t.own (option_map (λ k. cancel_at (length h.events) n k) (cond x (Some Deadline) None))) (sym (ap (λ m. is_past m d) same ∙ past)))

pub moved_next : (L : Limits) (h : History) (s : ℕ) (d : Option ℕ) (old new : CancelTable) → Legal L h → AreCancelsOf h old → HasRow old s → joined h s ≡ false
    → new ≡ record old { nodes = changed old.nodes (s - old.before) (moved old.moment (length h.events) d (s - old.before)) }
    → AreCancelsOf (followed h (Move s d)) new
unfolding joiner_fires
moved_next L h s d old new legal was has unjoined is =
    let at = row_of_scope old s has in
    one_row_next L h (Move s d) s (moved old.moment (length h.events) d) old new at legal was is refl refl (λ k. refl)
    (λ row here. subst (λ k. IsNodeOf (followed h (Move k d)) old.before (old.before + at.number) (moved old.moment (length h.events) d at.number row)) at.is
    (moved_row h old.before at.number old.moment d row here (subst (λ k. joined h k ≡ false) (sym at.is) unjoined) was.moment))
    (λ m row apart row_is. row_stays L h (Move s d) old.before m row legal row_is (moment_same h (Move s d) refl) refl (moved_away s (old.before + m) d (other_row old.before m at.number s at.is apart)) refl refl)

-- ---- the beginning of a close

-- each row that the close covers has its own cancel
abbrev pub covering : History → ℕ → ℕ → ℕ → ScopeNode → ScopeNode
covering h s b n t = cond (covers h s (b + n)) (with_own (cancel_at (length h.events) n Close) t) t

pub closing_next : (L : Limits) (h : History) (a s : ℕ) (old new : CancelTable) → Legal L h → AreCancelsOf h old
    → HasStepped old new (covering h s old.before) → new.moment ≡ old.moment → new.accounts ≡ old.accounts
    → AreCancelsOf (followed h (BeginClose a s)) new
unfolding joiner_fires
closing_next L h a s old new legal was stepped moment_is accounts =
    let e = BeginClose a s in
    let now = moment_same h e refl in
    table_next h e old new (covering h s old.before) was refl stepped
    (moment_is ∙ (was.moment ∙ sym now)) (ap length accounts)
    (λ m row there row_is. by m row row_is (covers h s (old.before + m)) refl)
    (λ i acc there. accounts_stay L h e old legal was (λ k. refl) i acc (sym (ap (λ xs. slice_get xs i) accounts) ∙ there))
  where
    by : (m : ℕ) (row : ScopeNode) → IsNodeOf h old.before (old.before + m) row → (c : Bool) → covers h s (old.before + m) ≡ c
        → IsNodeOf (followed h (BeginClose a s)) old.before (old.before + m) (cond c (with_own (cancel_at (length h.events) m Close) row) row)
    by m row row_is true covered =
        row_next h (BeginClose a s) old.before m row (with_own (cancel_at (length h.events) m Close) row) row_is refl refl refl (counting_same h (BeginClose a s) old.before (old.before + m) row row_is refl refl)
        (ap (λ c. option_or row.own (option_map (λ k. cancel_at (length h.events) m k) (kind_told (cond c (Some Close) None) false (moment (followed h (BeginClose a s))) row.deadline))) (sym covered))
    by m row row_is false covered =
        row_stays L h (BeginClose a s) old.before m row legal row_is (moment_same h (BeginClose a s) refl) refl refl (ap (λ c. cond c (Some Close) None) covered) refl
