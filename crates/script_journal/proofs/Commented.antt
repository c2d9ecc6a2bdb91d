-- The script with times is the script, with comments between its lines.
use Rattle.std.proofs.Common.{[], ℕ, ◌++◌, ◌∷◌, ◌≡◌, List, None, Option, Some, codes, length, length-append, refl, slice_get, suc, zero}
use Rattle.script_journal.specs.{Binding, Event, Origin, TimesAreComments, WithTimes, at_text, binds_text, decimal, ended, event_line, events_text, flat_map, line, line_of, moment_text, new_time, pair_text, pairs_text}
use Rattle.script_journal.specs.{range_with_len, retire_behind, retire_text, script_text, time, timed_line}
use Rattle.script_journal.proofs.Lemmas.{append-nil, append_assoc}

-- one text with times behind another
pub both : (a b c d : List ℕ) → WithTimes a b → WithTimes c d → WithTimes (a ++ c) (b ++ d)
both _ _ c d ended two = two
both _ b c d (time at timed text one) two = rw (append_assoc (at_text (Some at)) timed c) (time at (timed ++ c) (b ++ d) (both timed b c d one two))
both _ _ c d (line command timed text one) two =
    rw (append_assoc command (10 ∷ timed) c) (rw (append_assoc command (10 ∷ text) d) (line command (timed ++ c) (text ++ d) (both timed text c d one two)))

-- a line alone
alone : (command : List ℕ) → WithTimes (command ++ 10 ∷ []) (command ++ 10 ∷ [])
alone command = line command [] [] ended

retirement : WithTimes retire_text retire_text
retirement = alone (codes "retire 0")

moment : (n : ℕ) → WithTimes (moment_text n) (moment_text n)
moment zero = ended
moment (suc n) = line (codes "tick " ++ decimal (suc n)) retire_text retire_text retirement

bound : (pairs : List Binding) → WithTimes (pairs_text pairs) (pairs_text pairs)
unfolding pairs_text
bound [] = ended
bound (pair ∷ pairs) =
    let one = codes "bind 0 " ++ pair_text pair ++ 10 ∷ [] in
    both one one (pairs_text pairs) (pairs_text pairs) (alone (codes "bind 0 " ++ pair_text pair)) (bound pairs)

retired : (pairs : List Binding) → WithTimes (retire_behind pairs) (retire_behind pairs)
retired [] = ended
retired (pair ∷ pairs) = retirement

binds : (pairs : List Binding) → WithTimes (binds_text pairs) (binds_text pairs)
unfolding binds_text
binds pairs = both (pairs_text pairs) (pairs_text pairs) (retire_behind pairs) (retire_behind pairs) (bound pairs) (retired pairs)

-- the line of an event, behind its time or not
one_line : (base : Origin) (a : Option ℕ) (e : Event) → WithTimes (at_text a ++ line_of base (Some e)) (line_of base (Some e))
unfolding at_text
one_line base None e = alone (event_line base e)
one_line base (Some at) e = time at (line_of base (Some e)) (line_of base (Some e)) (alone (event_line base e))

-- what stands behind a beginning
behind : {A : Type 0} (first : List A) (x : A) (rest : List A) → slice_get (first ++ x ∷ rest) (length first) ≡ Some x
behind [] x rest = refl
behind (y ∷ first) x rest = behind first x rest

module _ (base : Origin) (times : List ℕ) where
  line_at : (events : List Event) (i : ℕ) (e : Event) → slice_get events i ≡ Some e → WithTimes (timed_line base events times i) (line_of base (Some e))
  unfolding timed_line
  line_at events i e there = rw there (one_line base (new_time times i) e)

  lines_from : (first rest : List Event) → WithTimes (flat_map (timed_line base (first ++ rest) times) (range_with_len (length first) (length rest))) (events_text base rest)
  unfolding events_text
  lines_from first [] = ended
  lines_from first (e ∷ rest) =
      let later = lines_from (first ++ e ∷ []) rest in
      let same : (first ++ e ∷ []) ++ rest ≡ first ++ e ∷ rest = append_assoc first (e ∷ []) rest in
      let here = line_at (first ++ e ∷ rest) (length first) e (behind first e rest) in
      both _ _ _ _ here (rw same at (rw (length-append first (e ∷ [])) at later))

-- the script of a history with times is its script, but for comments
pub with_times : TimesAreComments
with_times h times now =
    let lines = lines_from h.base times [] h.events in
    let all = both _ _ _ _ (both _ _ _ _ (moment h.base.moment) (binds h.base.binds)) lines in
    rw (append-nil (at_text (Some now))) at (rw (append-nil (script_text h)) at (both _ _ _ _ all (time now [] [] ended)))
