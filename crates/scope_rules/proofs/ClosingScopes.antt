-- If a scope is closed, so are those inside it, and without a scope of main no task waits or runs.
use Rattle.std.proofs.Common.{[], ℕ, ◌+◌, ◌<◌, ◌==◌, ◌||◌, ◌∙◌, ◌≡◌, ◌⊎◌, Bool, None, Option, Some, ap, arith, false, inl, inr, length, option_map, refl, subst, suc, sym, true, zero}
use Rattle.scope_rules.specs.{Accepts, EndClose, Event, Forking, History.History, IsWhole, Legal.Legal, LiesInside, Limits, Opening, Origin.Origin, around, before, closed, directly, ends, followed, forked_in, forking, further}
use Rattle.scope_rules.specs.{innermost, is_running, is_settled, opening, opening_of, option_or, parent, stage, surrounding}
use Rattle.scope_rules.proofs.Words.{both_ways, eq-eqb, false_from_ne_true, true_from_ne_false}
use Rattle.scope_rules.proofs.{ChainsGrow.parent_stays, ClosingOwners.closed_is_settled, ClosingOwners.closed_task_settled, ClosingOwners.owners_act, Forkings.forked_after, Forkings.forker_owns, Forkings.forking_row}
use Rattle.scope_rules.proofs.{Forkings.main_unforked, Growing.forking_number, Growing.opening_number, Growing.opening_place, Innermosts.innermost_later, Innermosts.innermost_none, Innermosts.innermost_unclosed}
use Rattle.scope_rules.proofs.{Innermosts.opened_after, OneEventMore.along, OneEventMore.closed_grows, OneEventMore.closed_split, OneEventMore.closed_stays, OneEventMore.forking_later, OneEventMore.opening_ends_none}
use Rattle.scope_rules.proofs.{OneEventMore.opening_later, OneEventMore.opening_split, Openings.and_then_some, PassedRows.EndRow, PassedRows.IsActor, PassedRows.ender_passed, PassedRows.opener_passed, Pushing.before_last}
use Rattle.scope_rules.proofs.{SettledTasks.settled_task, Stages.running_forked, Stages.running_unsettled, Stages.unsettled_forked}

-- the actor is a task that was forked in scope s
pub record IsTaskIn (h : History) (a s : ℕ) : Type 0 where
  pub forked : Forking
  pub is : forking h a ≡ Some forked
  pub scope : forked.scope ≡ s

task_in_by : (h : History) (a s : ℕ) (o : Option Forking) → forking h a ≡ o → option_map (λ (f : Forking). f.scope) o ≡ Some s → IsTaskIn h a s
task_in_by h a s None is found = absurd cc
task_in_by h a s (Some f) is found = record { forked = f; is = is; scope = cc }

surrounding_by : (h : History) (a s : ℕ) (o : Option ℕ) → innermost h a ≡ o → option_or o (forked_in h a) ≡ Some s → (innermost h a ≡ Some s) ⊎ IsTaskIn h a s
surrounding_by h a s None is found = inr (task_in_by h a s (forking h a) refl found)
surrounding_by h a s (Some t) is found = inl (is ∙ found)

-- what surrounds an actor is its innermost scope, or the one in which it was forked
pub surrounding_split : (h : History) (a s : ℕ) → surrounding h a ≡ Some s → (innermost h a ≡ Some s) ⊎ IsTaskIn h a s
unfolding surrounding
surrounding_split h a s found = surrounding_by h a s (innermost h a) refl found

-- a task that acts is of an unclosed scope
actor_in_unclosed : (L : Limits) (h : History) (a : ℕ) (f : Forking) → Legal L h → IsActor h a → forking h a ≡ Some f → closed h f.scope ≡ false
actor_in_unclosed L h a f legal acts is =
    elim acts [
      | inl main ↦ absurd (main_unforked h a f main is)
      | inr runs ↦ false_from_ne_true (closed h f.scope) (λ so. both_ways (is_settled (stage h a)) (running_unsettled (stage h a) runs) (closed_task_settled L h a f legal is so))
    ]

-- what surrounds an actor that acts is unclosed
pub surrounding_unclosed : (L : Limits) (h : History) (a s : ℕ) → Legal L h → IsActor h a → surrounding h a ≡ Some s → closed h s ≡ false
surrounding_unclosed L h a s legal acts found =
    elim (surrounding_split h a s found) [
      | inl own ↦ (innermost_unclosed h a s own).unclosed
      | inr task ↦ let P : ℕ → Type 0 = λ n. closed h n ≡ false in subst P task.scope (actor_in_unclosed L h a task.forked legal acts task.is)
    ]

-- a scope with a parent was opened, with the parent around it
pub record HasParent (h : History) (t s : ℕ) : Type 0 where
  pub opened : Opening
  pub is : opening h t ≡ Some opened
  pub around : around h opened ≡ Some s

-- a scope that has a parent was opened inside it
pub parent_opening : (h : History) (t s : ℕ) → parent h t ≡ Some s → HasParent h t s
unfolding parent
parent_opening h t s is =
    let it = and_then_some (around h) (opening h t) s is in
    record { opened = it.0; is = it.1; around = it.2 }

-- at the end of the close of a scope, one that its owner opened inside it is closed
own_inner : (L : Limits) (h : History) (b s t : ℕ) (o : Opening) → EndRow h b s → opening h t ≡ Some o → innermost (before h o.place) o.actor ≡ Some s → closed h t ≡ true
own_inner L h b s t o row is inner =
    let own = innermost_unclosed (before h o.place) o.actor s inner in
    let place = opened_after (before h o.place) s own.opened own.is in
    let same : Some own.opened ≡ Some row.owner.opened = sym (opening_later h o.place s own.opened own.is) ∙ row.owner.is in
    let one : own.opened ≡ row.owner.opened = cc in
    let owner : o.actor ≡ b = sym own.by ∙ (ap (λ (x : Opening). x.actor) one ∙ row.owner.by) in
    innermost_later h b s t o row.innermost is owner (omega (arith, opening_number h t o is, place.1, place.2))

-- at the end of the close of a scope, one that a task of it opened is closed
task_inner : (L : Limits) (h : History) (b s t : ℕ) (o : Opening) → Legal L h → EndRow h b s → opening h t ≡ Some o → IsTaskIn (before h o.place) o.actor s → closed h t ≡ true
task_inner L h b s t o legal row is task =
    let forked = forking_later h o.place o.actor task.forked task.is in
    let done = settled_task h s o.actor task.forked row.settled forked task.scope in
    true_from_ne_false (closed h t)
    (λ unclosed. elim (owners_act L h t o legal is unclosed) [
      | inl main ↦ main_unforked h o.actor task.forked main forked
      | inr runs ↦ both_ways (is_settled (stage h o.actor)) (running_unsettled (stage h o.actor) runs) done
    ])

-- at the end of the close of a scope, each scope right inside it is closed
pub inner_at_end : (L : Limits) (h : History) (b s t : ℕ) → Legal L h → EndRow h b s → parent h t ≡ Some s → closed h t ≡ true
inner_at_end L h b s t legal row is =
    let it = parent_opening h t s is in
    elim (surrounding_split (before h it.opened.place) it.opened.actor s it.around) [
      | inl own ↦ own_inner L h b s t it.opened row it.is own
      | inr task ↦ task_inner L h b s t it.opened legal row it.is task
    ]

-- each scope right inside a closed one is closed
abbrev InnerClosed : History → Type 0
InnerClosed h = (t s : ℕ) → parent h t ≡ Some s → closed h s ≡ true → closed h t ≡ true

inner_start : (b : Origin) → InnerClosed (record { base = b; events = [] })
unfolding closed
inner_start b t s is so = absurd cc

-- what lies around a new scope is unclosed
around_new : (L : Limits) (h : History) (e : Event) (s : ℕ) (o : Opening) → Legal L h → Accepts L h e → opening_of (length h.events) e ≡ Some o → around (followed h e) o ≡ Some s → closed h s ≡ false
around_new L h e s o legal ok new is =
    let acts = (opener_passed L h (length h.events) e o new ok).0 in
    let place : before (followed h e) o.place ≡ h = ap (before (followed h e)) (opening_place (length h.events) e o new) ∙ before_last h e in
    surrounding_unclosed L h o.actor s legal acts (sym (ap (λ (g : History). surrounding g o.actor) place) ∙ is)

inner_step : (L : Limits) (h : History) (e : Event) → Legal L h → Accepts L h e → InnerClosed h → InnerClosed (followed h e)
inner_step L h e legal ok so t s is now =
    let it = parent_opening (followed h e) t s is in
    elim (opening_split h e t it.opened it.is) [
      | inl old ↦
          let was : parent h t ≡ Some s = sym (parent_stays h e t (record { opened = it.opened; is = old })) ∙ is in
          closed_stays h e t (elim (closed_split h e s now) [ inl before_it ↦ so t s was before_it | inr here ↦ let row = ender_passed L h e s here ok in inner_at_end L h row.0 s t legal row.2 was ])
      | inr new ↦
          absurd (elim (closed_split h e s now) [
            | inl before_it ↦ both_ways (closed h s) (around_new L h e s it.opened legal ok new.1 it.around) before_it
            | inr here ↦ both_ways (ends s e) (opening_ends_none (length h.events) e it.opened s new.1) here
          ])
    ]

-- in a legal history each scope right inside a closed one is closed
pub inner_closed : (L : Limits) (h : History) (t s : ℕ) → Legal L h → parent h t ≡ Some s → closed h s ≡ true → closed h t ≡ true
inner_closed L h t s legal is so = along L InnerClosed inner_start (λ g e lawful ok was. inner_step L g e lawful ok was) h legal t s is so

-- and each scope inside it, at any depth
pub inside_closed : (L : Limits) (h : History) (s t : ℕ) → Legal L h → closed h s ≡ true → LiesInside h s t → closed h t ≡ true
inside_closed L h s t legal so (directly is) = inner_closed L h t s legal is so
inside_closed L h s t legal so (further {p} is rest) = inner_closed L h t p legal is (inside_closed L h s p legal so rest)

-- a closed scope is whole
pub closed_whole : (L : Limits) (h : History) (s : ℕ) → Legal L h → closed h s ≡ true → IsWhole h s
closed_whole L h s legal so = record { settled = closed_is_settled L h s legal so; inside = λ t it. inside_closed L h s t legal so it }

-- the forker of a task is main, or a task with a smaller number
pub forker_smaller : (L : Limits) (h : History) (k : ℕ) (f : Forking) → Legal L h → forking h k ≡ Some f → (f.actor ≡ 0) ⊎ (f.actor < k)
forker_smaller L h k f legal is =
    elim (forking_row L h k f legal is).acts [
      | inl main ↦ inl main
      | inr runs ↦
          let it = running_forked (before h f.place) f.actor runs in
          let number = forked_after (before h f.place) f.actor it.forked it.is in
          inr (omega (arith, forking_number h k f is, number.1, number.2))
    ]

-- the scope of a task that isn't settled is main's unclosed one, or that of a task before it that runs
unsettled_owner : (L : Limits) (h : History) (k : ℕ) (f : Forking) → Legal L h → innermost h 0 ≡ None → forking h k ≡ Some f → closed h f.scope ≡ false → (f.actor < k) × (is_running (stage h f.actor) ≡ true)
unsettled_owner L h k f legal none is unclosed =
    let owner = forker_owns L h k f legal is in
    let not_main : f.actor ≡ 0 → ⊥ = λ main. both_ways (closed h f.scope) unclosed (innermost_none h 0 f.scope owner.opened none owner.is (owner.by ∙ main)) in
    let smaller : f.actor < k = elim (forker_smaller L h k f legal is) [ inl main ↦ absurd (not_main main) | inr less ↦ less ] in
    let P : ℕ → Type 0 = λ a. is_running (stage h a) ≡ true in
    (smaller, elim (owners_act L h f.scope owner.opened legal owner.is unclosed) [ inl main ↦ absurd (not_main (sym owner.by ∙ main)) | inr runs ↦ subst P owner.by runs ])

settled_below : (L : Limits) (h : History) (n k : ℕ) → Legal L h → innermost h 0 ≡ None → k < n → is_settled (stage h k) ≡ true
settled_below L h zero k legal none less = absurd (omega arith)
settled_below L h (suc n) k legal none less =
    true_from_ne_false (is_settled (stage h k))
    (λ unsettled.
    let it = unsettled_forked h k unsettled in
    let unclosed = false_from_ne_true (closed h it.forked.scope) (λ so. both_ways (is_settled (stage h k)) unsettled (closed_task_settled L h k it.forked legal it.is so)) in
    let owner = unsettled_owner L h k it.forked legal none it.is unclosed in
    both_ways (is_settled (stage h it.forked.actor)) (running_unsettled (stage h it.forked.actor) owner.1) (settled_below L h n it.forked.actor legal none (omega (arith, owner.0))))

-- if main has no unclosed scope, no task waits or runs
pub nothing_runs : (L : Limits) (h : History) (k : ℕ) → Legal L h → innermost h 0 ≡ None → is_settled (stage h k) ≡ true
nothing_runs L h k legal none = settled_below L h (k + 1) k legal none (omega arith)

-- if main has no unclosed scope, each scope is closed
pub nothing_open : (L : Limits) (h : History) (s : ℕ) (o : Opening) → Legal L h → innermost h 0 ≡ None → opening h s ≡ Some o → closed h s ≡ true
nothing_open L h s o legal none is =
    true_from_ne_false (closed h s)
    (λ unclosed. elim (owners_act L h s o legal is unclosed) [
      | inl main ↦ both_ways (closed h s) unclosed (innermost_none h 0 s o none is main)
      | inr runs ↦ both_ways (is_settled (stage h o.actor)) (running_unsettled (stage h o.actor) runs) (nothing_runs L h o.actor legal none)
    ])

or_true : (b c : Bool) → c ≡ true → (b || c) ≡ true
or_true true c is = refl
or_true false c is = is

closed_by_end : (h : History) (a s : ℕ) → closed (followed h (EndClose a s)) s ≡ true
closed_by_end h a s = closed_grows h (EndClose a s) s ∙ or_true (closed h s) (s == s) (eq-eqb s s refl)

-- a legal history that ends with the end of a scope's close has the scope whole
pub end_closes_whole : (L : Limits) (h g : History) (a s : ℕ) → Legal L g → g ≡ followed h (EndClose a s) → IsWhole g s
end_closes_whole L h g a s legal is = closed_whole L g s legal (ap (λ (x : History). closed x s) is ∙ closed_by_end h a s)
