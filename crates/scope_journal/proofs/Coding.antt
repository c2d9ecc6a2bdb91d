-- Codes say their events, whatever entries come later.
use Rattle.std.proofs.Common.{[], ℕ, ◌++◌, ◌+◌, ◌<◌, ◌∙◌, ◌∷◌, ◌≡◌, List, Some, ap, arith, get_or, length, length-append, refl, slice_get, subst, suc, sym, take, zero}
use Rattle.std.specs.Option.{option_map}
use Rattle.scope_journal.specs.{AreCodes, Code, Codes.Codes, EntryTable, Event, HasEntry, HasMoreRoom, HaveEntries, Keeps, event_of, events_said, weight}
use Rattle.scope_journal.proofs.Words.{get_or_from_slice_get, map-append, slice_get-map, slice_get_read, slice_get_within, take_more}
use Rattle.scope_journal.specs.declared.codes.Code.TheVariants as code

-- the code at a place has its entry
pub entry_at : (t : EntryTable) (cs : List Code) (i : ℕ) (d : Code) → HaveEntries t cs → i < length cs → HasEntry t (get_or cs i d)
entry_at t [] i d there within = absurd (omega arith)
entry_at t (c ∷ cs) zero d there within = there.0
entry_at t (c ∷ cs) (suc i) d there within = entry_at t cs i d there.1 (omega arith)

-- one code more
pub entries_more : (t : EntryTable) (cs : List Code) (c : Code) → HaveEntries t cs → HasEntry t c → HaveEntries t (cs ++ c ∷ [])
entries_more t [] c there it = (it, tt)
entries_more t (b ∷ cs) c there it = (there.0, entries_more t cs c there.1 it)

-- the codes that were there have their entries, after entries that keep what was
pub entries_stay : (t u : EntryTable) (cost : ℕ) (cs : List Code) → Keeps t cost u → HaveEntries t cs → HaveEntries u cs
entries_stay t u cost [] keeps there = tt
entries_stay t u cost (c ∷ cs) keeps there = ((keeps.kept c there.0).0, entries_stay t u cost cs keeps there.1)

-- and they say the same
pub said_stays : (t u : EntryTable) (cost : ℕ) (cs : List Code) → Keeps t cost u → HaveEntries t cs → events_said u cs ≡ events_said t cs
said_stays t u cost [] keeps there = refl
said_stays t u cost (c ∷ cs) keeps there =
    ap (λ e. e ∷ events_said u cs) (keeps.kept c there.0).1 ∙ ap (λ es. event_of t c ∷ es) (said_stays t u cost cs keeps there.1)

-- one code more says its event behind the others
pub said_more : (t u : EntryTable) (cs : List Code) (e : Event) (c : Code) → HaveEntries t cs → Codes t e c u → events_said u (cs ++ c ∷ []) ≡ events_said t cs ++ e ∷ []
said_more t u cs e c there codes =
    map-append (event_of u) cs (c ∷ [])
    ∙ (ap (λ es. es ++ event_of u c ∷ []) (said_stays t u (weight e) cs codes.keeps there)
    ∙ ap (λ x. events_said t cs ++ x ∷ []) codes.says)

-- one code more, with its entry, keeps what ties codes and entries
pub codes_more : (t u : EntryTable) (cs : List Code) (e : Event) (c : Code) → AreCodes t cs → Codes t e c u → AreCodes u (cs ++ c ∷ [])
codes_more t u cs e c are codes = record {
  there = entries_more u cs c (entries_stay t u (weight e) cs codes.keeps are.there) codes.there;
  few = record {
    wides = omega (arith, length-append cs (c ∷ []), are.few.wides, codes.keeps.wides);
    labels = omega (arith, length-append cs (c ∷ []), are.few.labels, codes.keeps.labels);
    names = omega (arith, length-append cs (c ∷ []), are.few.names, codes.keeps.names);
  };
}

-- the code that was read at a place has its entry
pub read_entry : (t : EntryTable) (cs : List Code) (i : ℕ) (c : Code) → HaveEntries t cs → i < length cs → c ≡ get_or cs i c → HasEntry t c
read_entry t cs i c there within is = subst (HasEntry t) (sym is) (entry_at t cs i c there within)

-- and says the event at the place
pub read_said : (t : EntryTable) (cs : List Code) (i : ℕ) (c : Code) → i < length cs → c ≡ get_or cs i c → slice_get (events_said t cs) i ≡ Some (event_of t c)
read_said t cs i c within is = slice_get-map (event_of t) cs i ∙ ap (option_map (event_of t)) (slice_get_read cs (length cs) i c refl within is)

-- a code's entry is there still, in entries with more room
roomier_entry : (t u : EntryTable) (c : Code) → HasMoreRoom t u → HasEntry t c → HasEntry u c
roomier_entry t u (code.Wide at) more it = omega (arith, it, ap length more.wides)
roomier_entry t u (code.Fork actor scope at) more it = omega (arith, it, ap length more.labels)
roomier_entry t u (code.Text task at) more it = omega (arith, it, ap length more.names)
roomier_entry t u (code.Fail task at) more it = omega (arith, it, ap length more.names)
roomier_entry t u _ more it = tt

roomier_entries : (t u : EntryTable) (cs : List Code) → HasMoreRoom t u → HaveEntries t cs → HaveEntries u cs
roomier_entries t u [] more there = tt
roomier_entries t u (c ∷ cs) more there = (roomier_entry t u c more there.0, roomier_entries t u cs more there.1)

-- entries with more room are those of the codes
pub codes_roomier : (t u : EntryTable) (cs : List Code) → HasMoreRoom t u → AreCodes t cs → AreCodes u cs
codes_roomier t u cs more are = record {
  there = roomier_entries t u cs more are.there;
  few = record {
    wides = omega (arith, are.few.wides, ap length more.wides);
    labels = omega (arith, are.few.labels, ap length more.labels);
    names = omega (arith, are.few.names, ap length more.names);
  };
}

-- one event more is copied
pub copied_more : (es copies : List Event) (i : ℕ) (e : Event) → copies ≡ take i es → slice_get es i ≡ Some e → copies ++ e ∷ [] ≡ take (i + 1) es
copied_more es copies i e so at =
    ap (λ cs. cs ++ e ∷ []) so
    ∙ (ap (λ x. take i es ++ x ∷ []) (sym (get_or_from_slice_get es i e e at)) ∙ sym (take_more es i e (slice_get_within es i e at)))
