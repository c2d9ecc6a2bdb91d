-- What the end of a task makes of the table.
use Rattle.std.proofs.Common.{[], ℕ, ◌&&◌, ◌++◌, ◌+◌, ◌-◌, ◌==◌, ◌∙◌, ◌∷◌, ◌≡◌, ◌≢◌, Bool, None, Option, Some, ap, arith, cond, eqb, false, length, option_map, refl, slice_get, subst, sym, true}
use Rattle.scope_index.specs.{AreCancelsOf, CancelTable, Completion, EndValue, Event, Finish, Forking, HasCounted, HasRow, History, IsAccountOf, IsCounted, IsNodeOf, Joiner, JoinerStanding, Legal, Limits, Opening, ScopeNode}
use Rattle.scope_index.specs.{StandsFor, cancel_at, cancelled, changed, completion_of, completions, cons_option, fires, followed, forking, is_task_of, joiner_fires, moment, opening, option_map_or, option_or, with_own}
use Rattle.scope_index.proofs.Words.{completions_grow, eq-eqb, eqb-false, eqb-true, forking_stays, ne_eqb, opening_stays, stands-push}
use Rattle.scope_index.proofs.{EventSteps.at_row_by, EventSteps.map_id, EventSteps.moment_same, EventSteps.row_of_scope, EventSteps.stepped_at, OwnCancels.kind_told, RowSteps.counting_same, RowSteps.row_next, RowSteps.row_stays}
use Rattle.scope_index.proofs.{TableSteps.account_stays, TableSteps.at_row, TableSteps.table_next}
use Rattle.cancel_tree.specs.Rows as rows

-- a task of the scope is so after its end
task_then : (h : History) (e : Event) (k s : ℕ) (f : Forking) → forking h k ≡ Some f → is_task_of (followed h e) s k ≡ (f.scope == s)
unfolding is_task_of
task_then h e k s f is = ap (λ (o : Option Forking). option_map_or (λ (x : Forking). x.scope == s) o false) (forking_stays h e k f is)

-- the account of the task's scope, with its completion
pub account_next : (L : Limits) (h : History) (k : ℕ) (end : EndValue) (f : Forking) (old new : JoinerStanding) → Legal L h → forking h k ≡ Some f
    → IsAccountOf h f.scope old → IsCounted old new (record { task = k; end = end }) → IsAccountOf (followed h (Finish k end)) f.scope new
account_next L h k end f old new legal is was counted =
    let e = Finish k end in
    let d : Completion = record { task = k; end = end } in
    let s = f.scope in
    let here : is_task_of (followed h e) s k ≡ true = task_then h e k s f is ∙ eq-eqb s s refl in
    let one : completion_of (followed h e) s e ≡ Some d = ap (λ b. cond b (Some d) None) here in
    let all : completions (followed h e) s ≡ completions h s ++ d ∷ [] = completions_grow L h e s legal ∙ ap (λ o. completions h s ++ cons_option o []) one in
    record {
      opened = was.opened;
      is = opening_stays h e s was.opened was.is;
      policy = counted.joiner.policy ∙ was.policy;
      stands = subst (StandsFor new) (sym all) (stands-push old new (completions h s) d counted.totals counted.seen counted.joiner was.stands);
    }

-- at another scope nothing completes
other_completes : (h : History) (k s : ℕ) (end : EndValue) (f : Forking) → forking h k ≡ Some f → f.scope ≢ s → completion_of (followed h (Finish k end)) s (Finish k end) ≡ None
other_completes h k s end f is apart = ap (λ b. cond b (Some (record { task = k; end = end })) None) (task_then h (Finish k end) k s f is ∙ ne_eqb f.scope s apart)

other_fires : (h : History) (k s : ℕ) (end : EndValue) (f : Forking) → forking h k ≡ Some f → f.scope ≢ s → joiner_fires (followed h (Finish k end)) s (Finish k end) ≡ false
unfolding joiner_fires
other_fires h k s end f is apart = ap (λ b. b && option_map_or (λ (o : Opening). fires o.policy (completions (followed h (Finish k end)) s)) (opening (followed h (Finish k end)) s) false) (task_then h (Finish k end) k s f is ∙ ne_eqb f.scope s apart)

-- the joiner of the task's scope fires by all completions
fires_here : (h : History) (k : ℕ) (end : EndValue) (f : Forking) (o : Opening) → forking h k ≡ Some f → opening h f.scope ≡ Some o
    → joiner_fires (followed h (Finish k end)) f.scope (Finish k end) ≡ fires o.policy (completions (followed h (Finish k end)) f.scope)
unfolding joiner_fires
fires_here h k end f o is opened =
    let e = Finish k end in
    ap (λ b. b && option_map_or (λ (x : Opening). fires x.policy (completions (followed h e) f.scope)) (opening (followed h e) f.scope) false) (task_then h e k f.scope f is ∙ eq-eqb f.scope f.scope refl)
    ∙ ap (λ (x : Option Opening). option_map_or (λ (y : Opening). fires y.policy (completions (followed h e) f.scope)) x false) (opening_stays h e f.scope o opened)

fired_row : (L : Limits) (h : History) (k : ℕ) (end : EndValue) (b n : ℕ) (t : ScopeNode) → Legal L h → IsNodeOf h b (b + n) t → joiner_fires (followed h (Finish k end)) (b + n) (Finish k end) ≡ true
    → IsNodeOf (followed h (Finish k end)) b (b + n) (with_own (cancel_at (length h.events) n Joiner) t)
fired_row L h k end b n t legal was fired =
    let e = Finish k end in
    row_next h e b n t (with_own (cancel_at (length h.events) n Joiner) t) was refl refl refl (counting_same h e b (b + n) t was refl refl)
    (sym (ap (λ j. option_or t.own (option_map (λ x. cancel_at (length h.events) n x) (kind_told None j (moment (followed h e)) t.deadline))) fired))

-- the accounts, once that of the task's scope has the completion
counted_accounts : (L : Limits) (h : History) (k : ℕ) (end : EndValue) (f : Forking) (old mid : CancelTable) → Legal L h → AreCancelsOf h old → forking h k ≡ Some f → HasRow old f.scope
    → HasCounted old mid f.scope (record { task = k; end = end })
    → (i : ℕ) (a : JoinerStanding) → slice_get mid.accounts i ≡ Some a → IsAccountOf (followed h (Finish k end)) (old.before + 1 + i) a
counted_accounts L h k end f old mid legal was is has counts i a there = by (eqb i (f.scope - old.before - 1)) refl
  where
    number : old.before + 1 + (f.scope - old.before - 1) ≡ f.scope
    number = omega (arith, has.after)

    by : (b : Bool) → eqb i (f.scope - old.before - 1) ≡ b → IsAccountOf (followed h (Finish k end)) (old.before + 1 + i) a
    by true at =
        let same : i ≡ f.scope - old.before - 1 = eqb-true i (f.scope - old.before - 1) at in
        let from = counts.here a (sym (ap (slice_get mid.accounts) same) ∙ there) in
        let then = subst (λ s. IsAccountOf h s from.0) number (was.accounts (f.scope - old.before - 1) from.0 from.1.0) in
        subst (λ s. IsAccountOf (followed h (Finish k end)) s a) (sym (ap (λ j. old.before + 1 + j) same ∙ number)) (account_next L h k end f from.0 a legal is then from.1.1)
    by false at =
        let apart : i ≢ f.scope - old.before - 1 = eqb-false i (f.scope - old.before - 1) at in
        account_stays L h (Finish k end) (old.before + 1 + i) a legal
        (other_completes h k (old.before + 1 + i) end f is (λ same. apart (omega (arith, same))))
        (was.accounts i a (sym (counts.others i apart) ∙ there))

-- the end of a task: its scope's account has the completion, and the scope its own cancel if the joiner fires
pub finished_next : (L : Limits) (h : History) (k : ℕ) (end : EndValue) (f : Forking) (old mid new : CancelTable) (fired : Bool) → Legal L h → AreCancelsOf h old → forking h k ≡ Some f → HasRow old f.scope
    → HasCounted old mid f.scope (record { task = k; end = end })
    → ((o : Opening) → opening h f.scope ≡ Some o → fired ≡ fires o.policy (completions (followed h (Finish k end)) f.scope))
    → new ≡ cond fired (cancelled mid f.scope Joiner (length h.events)) mid
    → AreCancelsOf (followed h (Finish k end)) new
finished_next L h k end f old mid new true legal was is has counts says result =
    let e = Finish k end in
    let at = row_of_scope old f.scope has in
    let place = length h.events in
    let number : f.scope - mid.before ≡ at.number = ap (λ b. f.scope - b) counts.before ∙ omega (arith, at.is) in
    let now = moment_same h e refl in
    let step = with_own (cancel_at place at.number Joiner) in
    let nodes : new.nodes ≡ changed old.nodes at.number step = ap (λ (t : CancelTable). t.nodes) result ∙ (ap (λ n. changed mid.nodes n (with_own (cancel_at place n Joiner))) number ∙ ap (λ rs. changed rs at.number step) counts.nodes) in
    let accounts : new.accounts ≡ mid.accounts = ap (λ (t : CancelTable). t.accounts) result in
    let before : new.before ≡ old.before = ap (λ (t : CancelTable). t.before) result ∙ counts.before in
    let moment_is : new.moment ≡ old.moment = ap (λ (t : CancelTable). t.moment) result ∙ counts.moment in
    table_next h e old new (at_row at.number step) was refl (stepped_at old new at.number step at.first before nodes)
    (moment_is ∙ (was.moment ∙ sym now)) (ap length accounts ∙ counts.length)
    (λ m row there row_is. at_row_by (λ j t. IsNodeOf (followed h e) old.before (old.before + j) t) at.number step m row
    (λ same.
    let here : IsNodeOf h old.before (old.before + at.number) row = subst (λ j. IsNodeOf h old.before (old.before + j) row) same row_is in
    let opened : opening h f.scope ≡ Some here.opened = subst (λ x. opening h x ≡ Some here.opened) at.is here.is in
    fired_row L h k end old.before at.number row legal here (subst (λ x. joiner_fires (followed h e) x e ≡ true) (sym at.is) (fires_here h k end f here.opened is opened ∙ sym (says here.opened opened))))
    (λ apart. row_stays L h e old.before m row legal row_is now refl refl refl (other_fires h k (old.before + m) end f is (λ same. apart (omega (arith, same, at.is))))))
    (λ i acc there. counted_accounts L h k end f old mid legal was is has counts i acc (sym (ap (λ xs. slice_get xs i) accounts) ∙ there))
finished_next L h k end f old mid new false legal was is has counts says result =
    let e = Finish k end in
    let at = row_of_scope old f.scope has in
    let now = moment_same h e refl in
    let nodes : new.nodes ≡ old.nodes = ap (λ (t : CancelTable). t.nodes) result ∙ counts.nodes in
    let accounts : new.accounts ≡ mid.accounts = ap (λ (t : CancelTable). t.accounts) result in
    let before : new.before ≡ old.before = ap (λ (t : CancelTable). t.before) result ∙ counts.before in
    let moment_is : new.moment ≡ old.moment = ap (λ (t : CancelTable). t.moment) result ∙ counts.moment in
    table_next h e old new (λ n t. t) was refl (record { before = before; length = ap length nodes; rows = λ n. ap (λ rs. rows.row rs n) nodes ∙ map_id (rows.row old.nodes n) })
    (moment_is ∙ (was.moment ∙ sym now)) (ap length accounts ∙ counts.length)
    (λ m row there row_is. row_stays L h e old.before m row legal row_is now refl refl refl (by m row row_is (eqb m at.number) refl))
    (λ i acc there. counted_accounts L h k end f old mid legal was is has counts i acc (sym (ap (λ xs. slice_get xs i) accounts) ∙ there))
  where
    e : Event
    e = Finish k end

    by : (m : ℕ) (row : ScopeNode) → IsNodeOf h old.before (old.before + m) row → (b : Bool) → eqb m (row_of_scope old f.scope has).number ≡ b → joiner_fires (followed h (Finish k end)) (old.before + m) (Finish k end) ≡ false
    by m row row_is true there =
        let at = row_of_scope old f.scope has in
        let same : old.before + m ≡ f.scope = ap (λ j. old.before + j) (eqb-true m at.number there) ∙ at.is in
        let opened : opening h f.scope ≡ Some row_is.opened = subst (λ x. opening h x ≡ Some row_is.opened) same row_is.is in
        subst (λ x. joiner_fires (followed h (Finish k end)) x (Finish k end) ≡ false) (sym same) (fires_here h k end f row_is.opened is opened ∙ sym (says row_is.opened opened))
    by m row row_is false there =
        let at = row_of_scope old f.scope has in
        let apart = eqb-false m at.number there in
        other_fires h k (old.before + m) end f is (λ same. apart (omega (arith, same, at.is)))
