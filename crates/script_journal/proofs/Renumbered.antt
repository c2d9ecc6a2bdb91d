-- The script of a history is that of the same, if nothing was numbered before, and brings a fresh realm there.
use Rattle.std.proofs.Common.{[], ℕ, ◌++◌, ◌-◌, ◌<◌, ◌^◌, ◌∙◌, ◌∷◌, ◌≡◌, ◌≤◌, Err, IfOk, List, Ok, Result, ap, ap₂, arith, length, map, refl, rules, subst, suc, sym, zero}
use Rattle.script_journal.specs.{AllFit, BaseFits, Do, Event, Fits, HasWords, History, IsRuled, JournalBringsAnew, JournalCountsAnew, Limits, Origin, Realm, RunsTo, anew, binds_text, event_line, events_text, load, moment_text}
use Rattle.script_journal.specs.{renumbered, script_text, spelled, without_dues}
use Rattle.script_journal.proofs.{Beginning.begun, RaisedLegal.numbers_decide_nothing, Running.runs, Words.none_before}
use Rattle.scope_rules.specs.declared.types.events.Event.TheVariants as event

-- an event's line is that of the event counted anew
line_anew : (h : History) (e : Event) → event_line (anew h).base (renumbered h.base e) ≡ event_line h.base e
unfolding event_line
line_anew h e = ap (λ d. spelled (Do d)) (none_before (renumbered h.base e))

lines_anew : (h : History) (es : List Event) → events_text (anew h).base (map (renumbered h.base) es) ≡ events_text h.base es
unfolding events_text
lines_anew h [] = refl
lines_anew h (e ∷ es) = rw (line_anew h e) (ap (λ xs. (event_line h.base e ++ 10 ∷ []) ++ xs) (lines_anew h es))

pub counts_anew : JournalCountsAnew
counts_anew h = ap (λ lines. moment_text h.base.moment ++ binds_text h.base.binds ++ lines) (sym (lines_anew h h.events))

-- the numbers fit their types still
less : (n m : ℕ) → n < 2 ^ 32 → n - m < 2 ^ 32
less n m small = omega arith

fits_anew : (base : Origin) (e : Event) → Fits e → Fits (renumbered base e)
unfolding HasWords
fits_anew base (event.Finish task (Ok value)) is = search (rules, less)
fits_anew base (event.Finish task (Err fault)) is = search (rules, less)
fits_anew base _ is = search (rules, less)

all_fit_anew : (base : Origin) (es : List Event) → AllFit es → AllFit (map (renumbered base) es)
all_fit_anew base [] fit i d at = absurd cc
all_fit_anew base (e ∷ es) fit zero d at = let same : renumbered base e ≡ d = cc in subst Fits same (fits_anew base e (fit 0 e refl))
all_fit_anew base (e ∷ es) fit (suc i) d at = all_fit_anew base es (λ j c there. fit (suc j) c there) i d at

pub brings_anew : JournalBringsAnew
brings_anew L h legal base fit =
    rw (counts_anew h)
    (runs h.base.moment h.base.binds L (anew h).events (begun L h.base base) (numbers_decide_nothing L h legal) (all_fit_anew h.base h.events fit))

pairs_within : (realm : Realm) → load realm.history ≤ realm.limits.load → length realm.history.base.binds ≤ realm.limits.load
unfolding load
pairs_within realm loaded = omega (arith, loaded)

-- so does the text that was made of a realm's journal, if one was made
pub text_brings : {T E : Type 0} (bytes : T → List ℕ) (realm : Realm) (limits : Limits) (first base : Origin) (es : List Event) (made : Result T E) → IsRuled realm limits
    → first ≡ realm.history.base → (length first.binds ≤ limits.load → BaseFits limits first) → base ≡ realm.history.base → es ≡ realm.history.events → AllFit es
    → IfOk made (λ text. bytes text ≡ script_text (record { base = base; events = es }))
    → IfOk made (λ text. RunsTo realm.limits (bytes text) (without_dues (anew realm.history)))
text_brings bytes realm limits first base es (Err error) ruled of_first fits of_base of_events fit made = tt
text_brings bytes realm limits first base es (Ok text) ruled of_first fits of_base of_events fit made =
    let whole : bytes text ≡ script_text realm.history = made ∙ ap₂ (λ (b : Origin) (xs : List Event). script_text (record { base = b; events = xs })) of_base of_events in
    let within : length first.binds ≤ limits.load = rw (of_first, ruled.limits) (pairs_within realm ruled.within.loaded) in
    let base_fits : BaseFits realm.limits realm.history.base = subst (λ (L : Limits). BaseFits L realm.history.base) ruled.limits (subst (BaseFits limits) of_first (fits within)) in
    subst (λ t. RunsTo realm.limits t (without_dues (anew realm.history))) (sym whole) (brings_anew realm.limits realm.history ruled.legal base_fits (subst AllFit of_events fit))
