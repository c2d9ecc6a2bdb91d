-- Who owns an unclosed scope acts, and what is closed is settled.
use Rattle.std.proofs.Common.{[], ℕ, ◌≡◌, Some, false, inl, inr, length, refl, subst, sym, true}
use Rattle.scope_rules.specs.{Accepts, Event, Forking, History.History, Legal.Legal, Limits, Opening, Origin.Origin, Tasks.settled, closed, closing, earliest, ends, finishes, followed, forking, is_settled, opening, stage}
use Rattle.scope_rules.proofs.Words.{both_ways, false_from_ne_true}
use Rattle.scope_rules.proofs.{Innermosts.innermost_none, OneEventMore.along, OneEventMore.closed_split, OneEventMore.closing_stays, OneEventMore.forking_split, OneEventMore.opening_split, OneEventMore.unclosed_earlier}
use Rattle.scope_rules.proofs.{PassedRows.IsActor, PassedRows.ender_passed, PassedRows.finisher_passed, PassedRows.forker_passed, PassedRows.opener_passed, SettledTasks.settled_task, SettledTasks.settled_where_all}
use Rattle.scope_rules.proofs.{Stages.running_stays, Stages.settled_stays}

-- the owner of each unclosed scope is main or runs
abbrev OwnersAct : History → Type 0
OwnersAct h = (s : ℕ) (o : Opening) → opening h s ≡ Some o → closed h s ≡ false → IsActor h o.actor

-- an actor acts until it finishes
pub acts_still : (L : Limits) (h : History) (e : Event) (a : ℕ) → Legal L h → Accepts L h e → IsActor h a → finishes a e ≡ false → IsActor (followed h e) a
acts_still L h e a legal ok acts unfinished = elim acts [ inl main ↦ inl main | inr runs ↦ inr (running_stays L h e a legal ok runs unfinished) ]

-- no accepted event finishes the owner of an unclosed scope
pub owner_unfinished : (L : Limits) (h : History) (e : Event) (s : ℕ) (o : Opening) → Accepts L h e → opening h s ≡ Some o → closed h s ≡ false → finishes o.actor e ≡ false
owner_unfinished L h e s o ok is unclosed =
    false_from_ne_true (finishes o.actor e)
    (λ it. both_ways (closed h s) unclosed (innermost_none h o.actor s o (finisher_passed L h e o.actor it ok).no_scope is refl))

owners_start : (b : Origin) → OwnersAct (record { base = b; events = [] })
unfolding opening earliest
owners_start b s o is unclosed = absurd cc

owners_step : (L : Limits) (h : History) (e : Event) → Legal L h → Accepts L h e → OwnersAct h → OwnersAct (followed h e)
owners_step L h e legal ok so s o is unclosed =
    let earlier = unclosed_earlier h e s unclosed in
    elim (opening_split h e s o is) [
      | inl old ↦ acts_still L h e o.actor legal ok (so s o old earlier) (owner_unfinished L h e s o ok old earlier)
      | inr new ↦ let it = opener_passed L h (length h.events) e o new.1 ok in acts_still L h e o.actor legal ok it.0 it.1
    ]

-- in a legal history the owner of an unclosed scope is main or runs
pub owners_act : (L : Limits) (h : History) (s : ℕ) (o : Opening) → Legal L h → opening h s ≡ Some o → closed h s ≡ false → IsActor h o.actor
owners_act L h s o legal is unclosed = along L OwnersAct owners_start (λ g e lawful ok so. owners_step L g e lawful ok so) h legal s o is unclosed

abbrev ClosedIsClosing : History → Type 0
ClosedIsClosing h = (s : ℕ) → closed h s ≡ true → closing h s ≡ true

closing_start : (b : Origin) → ClosedIsClosing (record { base = b; events = [] })
unfolding closed
closing_start b s so = absurd cc

closing_step : (L : Limits) (h : History) (e : Event) → Legal L h → Accepts L h e → ClosedIsClosing h → ClosedIsClosing (followed h e)
closing_step L h e legal ok so s it =
    elim (closed_split h e s it) [ inl old ↦ closing_stays h e s (so s old) | inr now ↦ closing_stays h e s (ender_passed L h e s now ok).2.begun ]

-- in a legal history a closed scope is closing
pub closed_is_closing : (L : Limits) (h : History) (s : ℕ) → Legal L h → closed h s ≡ true → closing h s ≡ true
closed_is_closing L h s legal so = along L ClosedIsClosing closing_start (λ g e lawful ok was. closing_step L g e lawful ok was) h legal s so

-- in a legal history a scope that isn't closing is unclosed
pub live_is_unclosed : (L : Limits) (h : History) (s : ℕ) → Legal L h → closing h s ≡ false → closed h s ≡ false
live_is_unclosed L h s legal live = false_from_ne_true (closed h s) (λ so. both_ways (closing h s) live (closed_is_closing L h s legal so))

-- each task of a closed scope is settled
abbrev ClosedTasksSettled : History → Type 0
ClosedTasksSettled h = (k : ℕ) (f : Forking) → forking h k ≡ Some f → closed h f.scope ≡ true → is_settled (stage h k) ≡ true

tasks_start : (b : Origin) → ClosedTasksSettled (record { base = b; events = [] })
unfolding closed
tasks_start b k f is so = absurd cc

settled_at_end : (L : Limits) (h : History) (e : Event) (k : ℕ) (f : Forking) → Accepts L h e → forking h k ≡ Some f → ends f.scope e ≡ true → is_settled (stage h k) ≡ true
settled_at_end L h e k f ok is now = settled_task h f.scope k f (ender_passed L h e f.scope now ok).2.settled is refl

unclosed_by_fork : (L : Limits) (h : History) (e : Event) (f : Forking) → Legal L h → closing h f.scope ≡ false → ((s : ℕ) → ends s e ≡ false) → closed (followed h e) f.scope ≡ true → ⊥
unclosed_by_fork L h e f legal live unended so =
    elim (closed_split h e f.scope so) [ inl old ↦ both_ways (closed h f.scope) (live_is_unclosed L h f.scope legal live) old | inr now ↦ both_ways (ends f.scope e) (unended f.scope) now ]

tasks_step : (L : Limits) (h : History) (e : Event) → Legal L h → Accepts L h e → ClosedTasksSettled h → ClosedTasksSettled (followed h e)
tasks_step L h e legal ok so k f is it =
    elim (forking_split h e k f is) [
      | inl old ↦ settled_stays L h e k f legal old (elim (closed_split h e f.scope it) [ inl was ↦ so k f old was | inr now ↦ settled_at_end L h e k f ok old now ])
      | inr new ↦ let row = forker_passed L h (length h.events) e f new.1 ok in absurd (unclosed_by_fork L h e f legal row.0.live row.1 it)
    ]

-- in a legal history each task of a closed scope is settled
pub closed_task_settled : (L : Limits) (h : History) (k : ℕ) (f : Forking) → Legal L h → forking h k ≡ Some f → closed h f.scope ≡ true → is_settled (stage h k) ≡ true
closed_task_settled L h k f legal is so = along L ClosedTasksSettled tasks_start (λ g e lawful ok was. tasks_step L g e lawful ok was) h legal k f is so

-- in a legal history a closed scope is settled
pub closed_is_settled : (L : Limits) (h : History) (s : ℕ) → Legal L h → closed h s ≡ true → settled h s ≡ true
closed_is_settled L h s legal so =
    settled_where_all h s (λ k f is it. closed_task_settled L h k f legal is (let P : ℕ → Type 0 = λ n. closed h n ≡ true in subst P (sym it) so))
