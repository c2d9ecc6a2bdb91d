-- The script of a history without dues is that of the history.
use Rattle.std.proofs.Common.{[], ℕ, ◌++◌, ◌∙◌, ◌∷◌, ◌≡◌, List, ap, ap₂, map, refl, sym}
use Rattle.script_journal.specs.{Event, JournalStays, JournalTellsAll, Origin, Realm, binds_text, event_line, events_text, moment_text, realm_of_script, without_due, words_of}
use Rattle.script_journal.proofs.Running.{journal_is_a_script}
use Rattle.scope_rules.specs.declared.types.events.Event.TheVariants as event

same_line : (base : Origin) (e : Event) → event_line base (without_due e) ≡ event_line base e
unfolding event_line words_of
same_line base (event.Fork actor scope label) = refl
same_line base _ = refl

same_lines : (base : Origin) (es : List Event) → events_text base (map without_due es) ≡ events_text base es
unfolding events_text
same_lines base [] = refl
same_lines base (e ∷ es) = ap₂ (λ (line lines : List ℕ). line ++ 10 ∷ [] ++ lines) (same_line base e) (same_lines base es)

pub journal_stays : JournalStays
journal_stays h = ap (λ lines. moment_text h.base.moment ++ binds_text h.base.binds ++ lines) (same_lines h.base h.events)

pub journal_tells_all : JournalTellsAll
journal_tells_all L g h g_fresh g_legal g_fits h_fresh h_legal h_fits same =
    let first = (journal_is_a_script L g g_fresh g_legal g_fits).left in
    let second = (journal_is_a_script L h h_fresh h_legal h_fits).left in
    ap (λ (realm : Realm). realm.history) (sym first ∙ (ap (realm_of_script L) same ∙ second))
