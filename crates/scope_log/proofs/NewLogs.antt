-- No event names a scope that isn't opened yet, so its log begins with its opening.
use Rattle.std.proofs.Common.{[], ℕ, ◌++◌, ◌+◌, ◌==◌, ◌∙◌, ◌≡◌, Bool, None, Option, Some, ap, cond, false, option_map, refl, subst, sym, true}
use Rattle.scope_log.specs.{Accepts, BeginClose, Cancel, EndClose, Event, Finish, FirstCancel, Fork, History, Join, Legal, Limits, LogGoesOn, LogValue, Move, Open, Opening, Origin, Reject, Start, Words.cause, Words.scopes}
use Rattle.scope_log.specs.{cons_option, entries, entries_next, entry_of, first_cancel, followed, is_cancelled, is_of, is_task_of, log, mark_next, mark_of, opening, row_check, said}
use Rattle.scope_log.proofs.Words.{IsOpened, IsOwner, along, begin_close_passed, cancel_opened, checks_at, end_close_passed, eqb-true, false_from_ne_true, fork_passed, forked_opened, next_opening, opening_stays, scope_passed}
use Rattle.scope_log.proofs.Words.{task_there}
use Rattle.scope_log.proofs.LogSteps.{entries_grow}

module _ (L : Limits) (h : History) (s : ℕ) where
  by_number : (n : ℕ) → (n == s) ≡ true → IsOpened h n → IsOpened h s
  by_number n same it = subst (IsOpened h) (eqb-true n s same) it

  owned : (a n : ℕ) → IsOwner h a n → IsOpened h n
  owned a n it = record { opened = it.opened; is = it.is }

  by_task : (k : ℕ) → Legal L h → is_task_of h s k ≡ true → IsOpened h s
  by_task k legal so = let it = task_there h s k so in subst (IsOpened h) it.of (forked_opened L h k it.forked legal it.is)

  stays : (e : Event) → IsOpened h s → IsOpened (followed h e) s
  stays e it = record { opened = it.opened; is = opening_stays h e s it.opened it.is }

  -- an accepted event names a scope that is opened, or opens it
  pub named_opened : (e : Event) → Legal L h → Accepts L h e → is_of h s e ≡ true → IsOpened (followed h e) s
  unfolding row_check
  named_opened (Open actor policy options) legal ok so = subst (IsOpened (followed h (Open actor policy options))) (eqb-true (scopes h + 1) s so) (record { opened = _; is = next_opening h actor policy options })
  named_opened (Fork actor scope label) legal ok so = stays (Fork actor scope label) (by_number scope so (owned actor scope (fork_passed L h actor scope label ok).owner))
  named_opened (Reject task) legal ok so = stays (Reject task) (by_task task legal so)
  named_opened (Start task) legal ok so = stays (Start task) (by_task task legal so)
  named_opened (Finish task end) legal ok so = stays (Finish task end) (by_task task legal so)
  named_opened (Cancel scope) legal ok so = stays (Cancel scope) (by_number scope so (scope_passed h scope (checks_at _ 0 _ ok.passed refl)))
  named_opened (Move scope deadline) legal ok so = stays (Move scope deadline) (by_number scope so (scope_passed h scope (checks_at _ 0 _ ok.passed refl)))
  named_opened (Join actor scope) legal ok so = stays (Join actor scope) (by_number scope so (scope_passed h scope (checks_at _ 1 _ ok.passed refl)))
  named_opened (BeginClose actor scope) legal ok so = stays (BeginClose actor scope) (by_number scope so (owned actor scope (begin_close_passed L h actor scope ok).owner))
  named_opened (EndClose actor scope) legal ok so = stays (EndClose actor scope) (by_number scope so (owned actor scope (end_close_passed L h actor scope ok).owner))
  named_opened _ legal ok so = absurd cc

unopened : (h : History) (s : ℕ) → opening h s ≡ None → IsOpened h s → ⊥
unopened h s none it = absurd (cc (none, it.is))

none_before : (h : History) (e : Event) (s : ℕ) (o : Option Opening) → opening (followed h e) s ≡ None → opening h s ≡ o → opening h s ≡ None
none_before h e s None none is = is
none_before h e s (Some o) none is = absurd (unopened (followed h e) s none (record { opened = o; is = opening_stays h e s o is }))

-- nor is it first cancel
pub no_first_cancel : (h : History) (s : ℕ) (c : Option FirstCancel) → opening h s ≡ None → first_cancel h s ≡ c → first_cancel h s ≡ None
no_first_cancel h s None none is = is
no_first_cancel h s (Some c) none is = absurd (unopened h s none (cancel_opened h s c (opening h s) is refl))

unmarked : (b : Bool) (c : Option FirstCancel) → c ≡ None → cond b None (mark_of (option_map (λ (x : FirstCancel). x.cause) c)) ≡ None
unmarked true c none = refl
unmarked false c none = rw none refl

nothing_next : (L : Limits) (h : History) (e : Event) (s : ℕ) → Legal L h → Accepts L h e → opening (followed h e) s ≡ None → entries_next h e s ≡ []
unfolding cause
nothing_next L h e s legal ok none =
    let unnamed = false_from_ne_true (is_of h s e) (λ so. unopened (followed h e) s none (named_opened L h s e legal ok so)) in
    let no_entry : entry_of h s e ≡ None = ap (λ b. cond b (said h e) None) unnamed in
    let no_mark : mark_next h e s ≡ None = unmarked (is_cancelled h s) (first_cancel (followed h e) s) (no_first_cancel (followed h e) s (first_cancel (followed h e) s) none refl) in
    rw no_entry (ap (λ o. cons_option o []) no_mark)

HasNoEntries : History → Type 0
HasNoEntries h = (s : ℕ) → opening h s ≡ None → entries h s ≡ []

none_start : (b : Origin) → HasNoEntries (record { base = b; events = [] })
unfolding HasNoEntries entries
none_start b s none = refl

none_step : (L : Limits) (h : History) (e : Event) → Legal L h → Accepts L h e → HasNoEntries h → HasNoEntries (followed h e)
unfolding HasNoEntries
none_step L h e legal ok so s none =
    entries_grow L h e s legal ∙ (ap (λ xs. xs ++ entries_next h e s) (so s (none_before h e s (opening h s) none refl)) ∙ nothing_next L h e s legal ok none)

-- a scope that isn't opened yet has no entries
pub no_entries : (L : Limits) (h : History) (s : ℕ) → Legal L h → opening h s ≡ None → entries h s ≡ []
unfolding HasNoEntries
no_entries L h s legal none = along L HasNoEntries none_start (λ g e lawful ok so. none_step L g e lawful ok so) h legal s none

-- the log is that of the opening
pub record IsLog (h : History) (s : ℕ) (l : LogValue) : Type 0 where
  pub opened : Opening
  pub is : opening h s ≡ Some opened
  pub log : l ≡ record { scope = s; policy = opened.policy; expiry = opened.options.expiry; entries = entries h s }

pub log_there : (h : History) (s : ℕ) (l : LogValue) → log h s ≡ Some l → IsLog h s l
unfolding log
log_there h s l is = by (opening h s) refl is
  where
    by : (o : Option Opening) → opening h s ≡ o → option_map (λ (x : Opening). record { scope = s; policy = x.policy; expiry = x.options.expiry; entries = entries h s }) o ≡ Some l → IsLog h s l
    by None opened found = absurd cc
    by (Some o) opened found = record { opened = o; is = opened; log = cc }

log_kept : (L : Limits) (h : History) (e : Event) (s : ℕ) (l : LogValue) → Legal L h → log h s ≡ Some l → log (followed h e) s ≡ Some (record l { entries = l.entries ++ entries_next h e s })
unfolding log
log_kept L h e s l legal is =
    let it = log_there h s l is in
    let o = it.opened in
    ap (option_map (λ (x : Opening). record { scope = s; policy = x.policy; expiry = x.options.expiry; entries = entries (followed h e) s })) (opening_stays h e s o it.is)
    ∙ (ap (λ es. Some (record { scope = s; policy = o.policy; expiry = o.options.expiry; entries = es })) (entries_grow L h e s legal)
    ∙ ap (λ (x : LogValue). Some (record x { entries = x.entries ++ entries_next h e s })) (sym it.log))

-- an accepted event goes on with the log of each scope
pub log_grows : (L : Limits) (h : History) (e : Event) (s : ℕ) → Legal L h → Accepts L h e → LogGoesOn h e s
log_grows L h e s legal ok = record {
  grows = entries_grow L h e s legal;
  begins = λ none. no_entries L h s legal none;
  kept = λ l is. log_kept L h e s l legal is;
}
