-- What the places of a scope's events say of its log.
use Rattle.std.proofs.Common.{ℕ, ◌++◌, ◌+◌, ◌∙◌, ◌≡◌, Bool, List, None, Option, Some, ap, cond, false, refl, slice_get, suc, sym, true, zero}
use Rattle.scope_journal.specs.{EntriesAreAtPlaces, Event, EventsAreOfOneScope, History, before, cons_option, entry_at, entry_of, filter_map, flat_map, if_one, is_of, is_of_at, option_and_then, option_map_or, places_of}
use Rattle.scope_journal.specs.{range_with_len, said, scope_of_event}
use Rattle.scope_journal.proofs.Words.{eq-eqb, eqb-true}
use Rattle.scope_journal.proofs.PlaceSteps.{event_of, is_this}

this_one : (o : Option ℕ) (s : ℕ) → is_this o s ≡ true → o ≡ Some s
this_one None s so = absurd cc
this_one (Some n) s so = ap Some (eqb-true n s so)

pub one_scope : EventsAreOfOneScope
one_scope h s e = (
  λ own. this_one (scope_of_event h e) s (sym (event_of h s e) ∙ own),
  λ named. event_of h s e ∙ (ap (λ o. is_this o s) named ∙ eq-eqb s s refl),
)

unsaid_there : (h : History) (s i : ℕ) (o : Option Event) → option_map_or (is_of (before h i) s) o false ≡ false → option_and_then (entry_of (before h i) s) o ≡ None
unsaid_there h s i None other = refl
unsaid_there h s i (Some e) other = ap (λ b. cond b (said (before h i) e) None) other

module _ (h : History) (s : ℕ) where
  abbrev pub here : ℕ → List ℕ
  here i = if_one (is_of_at h s i) i

  one_more : (a : ℕ) (rest ns : List ℕ) (b : Bool) → is_of_at h s a ≡ b → filter_map (entry_at h s) rest ≡ filter_map (entry_at h s) ns → filter_map (entry_at h s) (here a ++ rest) ≡ cons_option (entry_at h s a) (filter_map (entry_at h s) ns)
  one_more a rest ns true own same = ap (λ b. filter_map (entry_at h s) (if_one b a ++ rest)) own ∙ ap (cons_option (entry_at h s a)) same
  one_more a rest ns false other same =
      ap (λ b. filter_map (entry_at h s) (if_one b a ++ rest)) other
      ∙ (same ∙ ap (λ o. cons_option o (filter_map (entry_at h s) ns)) (sym (unsaid_there h s a (slice_get h.events a) other)))

  pub at_places : (a n : ℕ) → filter_map (entry_at h s) (flat_map here (range_with_len a n)) ≡ filter_map (entry_at h s) (range_with_len a n)
  at_places a zero = refl
  at_places a (suc n) = one_more a (flat_map here (range_with_len (a + 1) n)) (range_with_len (a + 1) n) (is_of_at h s a) refl (at_places (a + 1) n)

pub entries_placed : EntriesAreAtPlaces
unfolding places_of
entries_placed h s = at_places h s 0 _
