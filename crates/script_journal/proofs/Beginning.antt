-- The lines with which a script begins bring a fresh realm to the moment and to main's bindings.
use Rattle.std.proofs.Common.{[], ℕ, ◌++◌, ◌<◌, ◌^◌, ◌∙◌, ◌∷◌, ◌≡◌, ◌≤◌, List, Some, ap, append_assoc, ap₂, arith, codes, length, map, refl, slice_get, subst, suc, sym, zero}
use Rattle.script_journal.specs.{AllFit, BaseFits, Binding, Command, Fits, HasWords, History, IsValue, Limits, Origin, Retire, base_of, decimal, digits, event_line, line_said, opened_count, realm_after, reply_to, starting}
use Rattle.script_journal.specs.{text_of, the_start, value_text, without_due, words_of}
use Rattle.script_journal.proofs.Lemmas.{line_says_the_command, slice_get-map}
use Rattle.script_journal.proofs.{Accepted.ruled, Bases.bind_of, Bases.binding, Bases.binds_leave, Bases.binds_legal, Bases.bound_there, Bases.from, Bases.may_retire, Bases.none_opened, Bases.tick_leaves, Bases.tick_legal}
use Rattle.script_journal.proofs.{Bases.unnumbered, PlayedLines.bind_line, PlayedLines.binds_said, PlayedLines.moment_said, PlayedLines.retire_line, Running.Plays, Running.both_played, Running.events_played, Running.line_played}
use Rattle.script_journal.proofs.{Running.none_played}
use Rattle.scope_rules.specs.declared.types.events.Event.TheVariants as event

-- ---- a retirement

retire_says : line_said retire_line ≡ Command (Retire 0)
unfolding HasWords words_of digits
retire_says = line_says_the_command (Retire 0) ((omega arith, tt), refl)

retires : (L : Limits) (h : History) (base : Origin) → opened_count h ≡ 0 → base_of h ≡ base → Plays (ruled L h) (starting L base) (retire_line ∷ [])
unfolding realm_after reply_to
retires L h base none leaves =
    line_played (ruled L h) (starting L base) retire_line (Retire 0) retire_says (rw (may_retire h none) (ap (starting L) leaves)) (rw (may_retire h none) refl)

-- ---- the moment

tick_fits : (n : ℕ) → n < 2 ^ 64 → AllFit (event.Tick n ∷ [])
unfolding HasWords
tick_fits n small zero e at = let same : event.Tick n ≡ e = cc in subst Fits same ((small, tt), refl)
tick_fits n small (suc i) e at = absurd cc

tick_line : (n : ℕ) → event_line the_start (event.Tick n) ≡ codes "tick " ++ decimal n
unfolding event_line words_of
tick_line n = refl

moment_played : (L : Limits) (n : ℕ) → 1 ≤ L.load → n < 2 ^ 64 → Plays (starting L the_start) (starting L (unnumbered n [])) (moment_said n)
moment_played L zero some_load small = none_played (starting L the_start)
moment_played L (suc n) some_load small =
    let ticks = events_played L the_start (event.Tick (suc n) ∷ []) (tick_legal L (suc n) some_load) (tick_fits (suc n) small) in
    let there : Plays (starting L the_start) (ruled L (from the_start (event.Tick (suc n) ∷ []))) ((codes "tick " ++ decimal (suc n)) ∷ []) = rw (tick_line (suc n)) at ticks in
    both_played _ _ _ ((codes "tick " ++ decimal (suc n)) ∷ []) (retire_line ∷ []) there
    (retires L (from the_start (event.Tick (suc n) ∷ [])) (unnumbered (suc n) []) refl (tick_leaves (suc n)))

-- ---- main's bindings

bind_fits : (pair : Binding) → IsValue pair.value → Fits (bind_of pair)
unfolding HasWords
bind_fits pair is = ((omega arith, (tt, (is, tt))), refl)

binds_fit : (pairs : List Binding) → ((i : ℕ) (pair : Binding) → slice_get pairs i ≡ Some pair → IsValue pair.value) → AllFit (map bind_of pairs)
binds_fit pairs values i e at =
    let it = bound_there (slice_get pairs i) e (sym (slice_get-map bind_of pairs i) ∙ at) in
    subst Fits it.2 (bind_fits it.0 (values i it.0 it.1))

bind_lines : (pairs : List Binding) → map (event_line the_start) (map bind_of pairs) ≡ map bind_line pairs
unfolding event_line words_of digits
bind_lines [] = refl
bind_lines (pair ∷ pairs) = ap₂ (λ line lines. line ∷ lines) (ap (λ t. codes "bind 0 " ++ t) (sym (append_assoc (text_of pair.key) (codes " ") (value_text pair.value)))) (bind_lines pairs)

no_dues : (pairs : List Binding) → map without_due (map bind_of pairs) ≡ map bind_of pairs
no_dues [] = refl
no_dues (pair ∷ pairs) = ap (λ es. bind_of pair ∷ es) (no_dues pairs)

module _ (L : Limits) (n : ℕ) where
  bound : (pairs : List Binding) → length pairs ≤ L.load → ((i : ℕ) (pair : Binding) → slice_get pairs i ≡ Some pair → IsValue pair.value) → Plays (starting L (unnumbered n [])) (ruled L (binding n pairs)) (map bind_line pairs)
  bound pairs loaded values =
      rw (bind_lines pairs) at (rw (no_dues pairs) at (events_played L (unnumbered n []) (map bind_of pairs) (binds_legal L n pairs loaded) (binds_fit pairs values)))

  binds_played : (pairs : List Binding) → length pairs ≤ L.load → ((i : ℕ) (pair : Binding) → slice_get pairs i ≡ Some pair → IsValue pair.value) → Plays (starting L (unnumbered n [])) (starting L (unnumbered n pairs)) (binds_said pairs)
  binds_played [] loaded values = none_played (starting L (unnumbered n []))
  binds_played (pair ∷ pairs) loaded values =
      both_played _ _ _ (map bind_line (pair ∷ pairs)) (retire_line ∷ []) (bound (pair ∷ pairs) loaded values)
      (retires L (binding n (pair ∷ pairs)) (unnumbered n (pair ∷ pairs)) (none_opened (pair ∷ pairs)) (binds_leave n (pair ∷ pairs)))

-- ---- both

pub begun : (L : Limits) (base : Origin) → BaseFits L base → Plays (starting L the_start) (starting L (unnumbered base.moment base.binds)) (moment_said base.moment ++ binds_said base.binds)
begun L base fits =
    both_played _ _ _ (moment_said base.moment) (binds_said base.binds) (moment_played L base.moment fits.some_load fits.moment) (binds_played L base.moment base.binds fits.loaded fits.values)
