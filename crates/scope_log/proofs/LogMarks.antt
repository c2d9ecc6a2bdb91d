-- The mark in the entries of a scope, and what one event more adds before it and after it.
use Rattle.std.proofs.Common.{[], ℕ, ◌&&◌, ◌++◌, ◌||◌, ◌∙◌, ◌∷◌, ◌≡◌, Bool, List, None, Option, Some, ap, cond, false, is_some, option_map, refl, sym, true}
use Rattle.scope_log.specs.{Cause, Event, FirstCancel, History, Legal, Limits, LogEntry, Origin, Tick, Words.cause, after_first, after_mark, before_first, before_mark, cause_in, cause_said, cons_option, earliest, entries}
use Rattle.scope_log.specs.{entries_next, entry_of, filter_map, first_cancel, followed, is_cancelled, is_mark, is_of, list_any, mark_next, mark_of, opening, option_and_then, option_map_or, option_or, said}
use Rattle.scope_log.proofs.Words.{along, append-nil, cancel_stays, filter_map-append, list_any-append}
use Rattle.scope_log.proofs.{FirstParts.after_first-append, FirstParts.after_first-cons, FirstParts.after_first_none, FirstParts.any_of_two, FirstParts.before_first-append, FirstParts.before_first-cons}
use Rattle.scope_log.proofs.{FirstParts.before_first_none, FirstParts.first_of, FirstParts.first_of-append, FirstParts.first_of_two, FirstParts.pick_two, LogSteps.entries_grow, NewLogs.no_first_cancel}
use Rattle.scope_log.specs.declared.entries.LogEntry.TheVariants as entry

-- ---- the entry of an event

-- the entry of the event passes the test
abbrev pub tells : (LogEntry → Bool) → History → ℕ → Event → Bool
tells p h s e = option_map_or p (entry_of h s e) false

map_or_cond : {A : Type 0} (p : A → Bool) (b : Bool) (o : Option A) → option_map_or p (cond b o None) false ≡ (b && option_map_or p o false)
map_or_cond p true o = refl
map_or_cond p false o = refl

-- it does if the event is of the scope, and what is said of it passes
pub tells_by : (p : LogEntry → Bool) (h : History) (s : ℕ) (e : Event) → tells p h s e ≡ (is_of h s e && option_map_or p (said h e) false)
tells_by p h s e = map_or_cond p (is_of h s e) (said h e)

pub and_false : (b : Bool) → (b && false) ≡ false
and_false true = refl
and_false false = refl

said_plain : (h : History) (e : Event) → option_map_or is_mark (said h e) false ≡ false
said_plain h (Tick now) = refl
said_plain h _ = refl

-- no event says the mark
plain : (h : History) (s : ℕ) (e : Event) → tells is_mark h s e ≡ false
plain h s e = tells_by is_mark h s e ∙ (ap (λ b. is_of h s e && b) (said_plain h e) ∙ and_false (is_of h s e))

-- ---- the mark

marks_shown : (c : Option Cause) → option_map_or is_mark (mark_of c) false ≡ is_some c
marks_shown None = refl
marks_shown (Some c) = refl

cancelled_grows : (L : Limits) (h : History) (e : Event) (s : ℕ) → Legal L h → is_cancelled (followed h e) s ≡ (is_cancelled h s || option_map_or is_mark (mark_next h e s) false)
unfolding is_cancelled cause
cancelled_grows L h e s legal = by (first_cancel h s) refl
  where
    shown : (c : Option FirstCancel) → is_some c ≡ option_map_or is_mark (mark_of (option_map (λ (x : FirstCancel). x.cause) c)) false
    shown None = refl
    shown (Some c) = refl

    by : (c : Option FirstCancel) → first_cancel h s ≡ c → is_some (first_cancel (followed h e) s) ≡ (is_some (first_cancel h s) || option_map_or is_mark (cond (is_some (first_cancel h s)) None (mark_of (option_map (λ (x : FirstCancel). x.cause) (first_cancel (followed h e) s)))) false)
    by None was = rw was (shown (first_cancel (followed h e) s))
    by (Some c) was = rw was (rw (cancel_stays L h e s c legal was) refl)

marked_step : (L : Limits) (h : History) (e : Event) (s : ℕ) → Legal L h → list_any is_mark (entries h s) ≡ is_cancelled h s → list_any is_mark (entries (followed h e) s) ≡ is_cancelled (followed h e) s
marked_step L h e s legal so =
    ap (list_any is_mark) (entries_grow L h e s legal)
    ∙ (list_any-append is_mark (entries h s) (entries_next h e s)
    ∙ (ap (λ b. b || list_any is_mark (entries_next h e s)) so
    ∙ (ap (λ b. is_cancelled h s || b) (any_of_two is_mark (entry_of h s e) (mark_next h e s) ∙ ap (λ b. b || option_map_or is_mark (mark_next h e s) false) (plain h s e))
    ∙ sym (cancelled_grows L h e s legal))))

unmarked_start : (s : ℕ) (b : Origin) → list_any is_mark (entries (record { base = b; events = [] }) s) ≡ is_cancelled (record { base = b; events = [] }) s
unfolding entries is_cancelled opening earliest
unmarked_start s b = let g : History = record { base = b; events = [] } in sym (ap is_some (no_first_cancel g s (first_cancel g s) refl refl))

-- the entries have a mark if the scope is cancelled
pub marked : (L : Limits) (h : History) (s : ℕ) → Legal L h → list_any is_mark (entries h s) ≡ is_cancelled h s
marked L h s legal = along L (λ g. list_any is_mark (entries g s) ≡ is_cancelled g s) (unmarked_start s) (λ g e lawful ok so. marked_step L g e s lawful so) h legal

-- ---- the cause

and_then_cond : {A B : Type 0} (f : A → Option B) (b : Bool) (o : Option A) → option_and_then f (cond b o None) ≡ cond b (option_and_then f o) None
and_then_cond f true o = refl
and_then_cond f false o = refl

-- what the entry of an event gives, if the event is of the scope
pub gives_by : {B : Type 0} (f : LogEntry → Option B) (h : History) (s : ℕ) (e : Event) → option_and_then f (entry_of h s e) ≡ cond (is_of h s e) (option_and_then f (said h e)) None
gives_by f h s e = and_then_cond f (is_of h s e) (said h e)

pub cond_none : {B : Type 0} (b : Bool) → cond {A = Option B} b None None ≡ None
cond_none true = refl
cond_none false = refl

said_causeless : (h : History) (e : Event) → option_and_then cause_said (said h e) ≡ None
said_causeless h (Tick now) = refl
said_causeless h _ = refl

causeless : (h : History) (s : ℕ) (e : Event) → option_and_then cause_said (entry_of h s e) ≡ None
causeless h s e = gives_by cause_said h s e ∙ (ap (λ o. cond (is_of h s e) o None) (said_causeless h e) ∙ cond_none (is_of h s e))

cause_grows : (L : Limits) (h : History) (e : Event) (s : ℕ) → Legal L h → cause (followed h e) s ≡ option_or (cause h s) (option_and_then cause_said (mark_next h e s))
unfolding is_cancelled cause
cause_grows L h e s legal = by (first_cancel h s) refl
  where
    shown : (c : Option FirstCancel) → option_map (λ (x : FirstCancel). x.cause) c ≡ option_and_then cause_said (mark_of (option_map (λ (x : FirstCancel). x.cause) c))
    shown None = refl
    shown (Some c) = refl

    by : (c : Option FirstCancel) → first_cancel h s ≡ c
        → option_map (λ (x : FirstCancel). x.cause) (first_cancel (followed h e) s) ≡ option_or (option_map (λ (x : FirstCancel). x.cause) (first_cancel h s)) (option_and_then cause_said (cond (is_some (first_cancel h s)) None (mark_of (option_map (λ (x : FirstCancel). x.cause) (first_cancel (followed h e) s)))))
    by None was = rw was (shown (first_cancel (followed h e) s))
    by (Some c) was = rw was (rw (cancel_stays L h e s c legal was) refl)

-- the cause is what the first entry says that says one
cause_is : (es : List LogEntry) → cause_in es ≡ first_of cause_said es
unfolding cause_in first_of
cause_is [] = refl
cause_is (entry.Cancelled c ∷ es) = refl
cause_is (e ∷ es) = cause_is es

cause_step : (L : Limits) (h : History) (e : Event) (s : ℕ) → Legal L h → first_of cause_said (entries h s) ≡ cause h s → first_of cause_said (entries (followed h e) s) ≡ cause (followed h e) s
cause_step L h e s legal so =
    ap (first_of cause_said) (entries_grow L h e s legal)
    ∙ (first_of-append cause_said (entries h s) (entries_next h e s)
    ∙ (ap (λ o. option_or o (first_of cause_said (entries_next h e s))) so
    ∙ (ap (option_or (cause h s)) (first_of_two cause_said (entry_of h s e) (mark_next h e s) ∙ ap (λ o. option_or o (option_and_then cause_said (mark_next h e s))) (causeless h s e))
    ∙ sym (cause_grows L h e s legal))))

cause_start : (s : ℕ) (b : Origin) → first_of cause_said (entries (record { base = b; events = [] }) s) ≡ cause (record { base = b; events = [] }) s
unfolding entries first_of cause opening earliest
cause_start s b = let g : History = record { base = b; events = [] } in sym (ap (option_map (λ (x : FirstCancel). x.cause)) (no_first_cancel g s (first_cancel g s) refl refl))

-- the mark says the cause
pub cause_told : (L : Limits) (h : History) (s : ℕ) → Legal L h → cause_in (entries h s) ≡ cause h s
cause_told L h s legal = cause_is (entries h s) ∙ along L (λ g. first_of cause_said (entries g s) ≡ cause g s) (cause_start s) (λ g e lawful ok so. cause_step L g e s lawful so) h legal

-- ---- before and after the mark

before_one : (c : Option Cause) → before_first is_mark (cons_option (mark_of c) []) ≡ []
before_one None = refl
before_one (Some c) = refl

before_next : (x : Option LogEntry) (c : Option Cause) → option_map_or is_mark x false ≡ false → before_first is_mark (cons_option x (cons_option (mark_of c) [])) ≡ cons_option x []
before_next None c none = before_one c
before_next (Some x) c none =
    before_first-cons is_mark x (cons_option (mark_of c) [])
    ∙ (ap (λ b. cond b [] (x ∷ before_first is_mark (cons_option (mark_of c) []))) none ∙ ap (λ xs. x ∷ xs) (before_one c))

after_one : (c : Option Cause) → after_first is_mark (cons_option (mark_of c) []) ≡ []
after_one None = refl
after_one (Some c) = refl

after_next : (x : Option LogEntry) (c : Option Cause) → option_map_or is_mark x false ≡ false → after_first is_mark (cons_option x (cons_option (mark_of c) [])) ≡ []
after_next None c none = after_one c
after_next (Some x) c none =
    after_first-cons is_mark x (cons_option (mark_of c) [])
    ∙ (ap (λ b. cond b (cons_option (mark_of c) []) (after_first is_mark (cons_option (mark_of c) []))) none ∙ after_one c)

-- what one event more adds on either side of the mark
pub record Parted (h : History) (e : Event) (s : ℕ) : Type 0 where
  pub before : before_mark (entries (followed h e) s) ≡ before_mark (entries h s) ++ cond (is_cancelled h s) [] (cons_option (entry_of h s e) [])
  pub after : after_mark (entries (followed h e) s) ≡ after_mark (entries h s) ++ cond (is_cancelled h s) (cons_option (entry_of h s e) []) []

pub parted : (L : Limits) (h : History) (e : Event) (s : ℕ) → Legal L h → Parted h e s
unfolding before_mark after_mark
parted L h e s legal = by (is_cancelled h s) refl
  where
    by : (b : Bool) → is_cancelled h s ≡ b → Parted h e s
    by true is =
        let any : list_any is_mark (entries h s) ≡ true = marked L h s legal ∙ is in
        let next : entries_next h e s ≡ cons_option (entry_of h s e) [] = ap (λ b. cons_option (entry_of h s e) (cons_option (cond b None (mark_of (cause (followed h e) s))) [])) is in
        record {
          before =
              ap before_mark (entries_grow L h e s legal)
              ∙ (before_first-append is_mark (entries h s) (entries_next h e s)
              ∙ (ap (λ b. cond b (before_mark (entries h s)) (entries h s ++ before_mark (entries_next h e s))) any
              ∙ (sym (append-nil (before_mark (entries h s))) ∙ ap (λ b. before_mark (entries h s) ++ cond b [] (cons_option (entry_of h s e) [])) (sym is))));
          after =
              ap after_mark (entries_grow L h e s legal)
              ∙ (after_first-append is_mark (entries h s) (entries_next h e s)
              ∙ (ap (λ b. cond b (after_mark (entries h s) ++ entries_next h e s) (after_mark (entries_next h e s))) any
              ∙ (ap (λ xs. after_mark (entries h s) ++ xs) next ∙ ap (λ b. after_mark (entries h s) ++ cond b (cons_option (entry_of h s e) []) []) (sym is))));
        }
    by false is =
        let any : list_any is_mark (entries h s) ≡ false = marked L h s legal ∙ is in
        let next : entries_next h e s ≡ cons_option (entry_of h s e) (cons_option (mark_of (cause (followed h e) s)) []) = ap (λ b. cons_option (entry_of h s e) (cons_option (cond b None (mark_of (cause (followed h e) s))) [])) is in
        record {
          before =
              ap before_mark (entries_grow L h e s legal)
              ∙ (before_first-append is_mark (entries h s) (entries_next h e s)
              ∙ (ap (λ b. cond b (before_mark (entries h s)) (entries h s ++ before_mark (entries_next h e s))) any
              ∙ (ap (λ xs. entries h s ++ xs) (ap before_mark next ∙ before_next (entry_of h s e) (cause (followed h e) s) (plain h s e))
              ∙ (ap (λ xs. xs ++ cons_option (entry_of h s e) []) (sym (before_first_none is_mark (entries h s) any))
              ∙ ap (λ b. before_mark (entries h s) ++ cond b [] (cons_option (entry_of h s e) [])) (sym is)))));
          after =
              ap after_mark (entries_grow L h e s legal)
              ∙ (after_first-append is_mark (entries h s) (entries_next h e s)
              ∙ (ap (λ b. cond b (after_mark (entries h s) ++ entries_next h e s) (after_mark (entries_next h e s))) any
              ∙ (ap after_mark next ∙ (after_next (entry_of h s e) (cause (followed h e) s) (plain h s e)
              ∙ (sym (append-nil [])
              ∙ (ap (λ xs. xs ++ []) (sym (after_first_none is_mark (entries h s) any))
              ∙ ap (λ b. after_mark (entries h s) ++ cond b (cons_option (entry_of h s e) []) []) (sym is)))))));
        }

-- ---- what is asked of the entries but the mark

unshown : (p : LogEntry → Bool) → ((c : Cause) → p (entry.Cancelled c) ≡ false) → (b : Bool) (c : Option Cause) → option_map_or p (cond b None (mark_of c)) false ≡ false
unshown p none true c = refl
unshown p none false None = refl
unshown p none false (Some c) = none c

or_false : (b : Bool) → (b || false) ≡ b
or_false true = refl
or_false false = refl

-- whether an entry passes goes on with the event's
pub any_grows : (p : LogEntry → Bool) → ((c : Cause) → p (entry.Cancelled c) ≡ false) → (L : Limits) (h : History) (e : Event) (s : ℕ) → Legal L h
    → list_any p (entries (followed h e) s) ≡ (list_any p (entries h s) || tells p h s e)
any_grows p none L h e s legal =
    ap (list_any p) (entries_grow L h e s legal)
    ∙ (list_any-append p (entries h s) (entries_next h e s)
    ∙ ap (λ b. list_any p (entries h s) || b) (any_of_two p (entry_of h s e) (mark_next h e s) ∙ (ap (λ b. tells p h s e || b) (unshown p none (is_cancelled h s) (cause (followed h e) s)) ∙ or_false (tells p h s e))))

unpicked : {B : Type 0} (f : LogEntry → Option B) → ((c : Cause) → f (entry.Cancelled c) ≡ None) → (b : Bool) (c : Option Cause) → option_and_then f (cond b None (mark_of c)) ≡ None
unpicked f none true c = refl
unpicked f none false None = refl
unpicked f none false (Some c) = none c

-- what is picked of the entries goes on with what the event's gives
pub picks_grow : {B : Type 0} (f : LogEntry → Option B) → ((c : Cause) → f (entry.Cancelled c) ≡ None) → (L : Limits) (h : History) (e : Event) (s : ℕ) → Legal L h
    → filter_map f (entries (followed h e) s) ≡ filter_map f (entries h s) ++ cons_option (option_and_then f (entry_of h s e)) []
picks_grow f none L h e s legal =
    ap (filter_map f) (entries_grow L h e s legal)
    ∙ (filter_map-append f (entries h s) (entries_next h e s)
    ∙ ap (λ xs. filter_map f (entries h s) ++ xs) (pick_two f (entry_of h s e) (mark_next h e s) ∙ ap (λ o. cons_option (option_and_then f (entry_of h s e)) (cons_option o [])) (unpicked f none (is_cancelled h s) (cause (followed h e) s))))
