-- The run of the script of a legal history.
use Rattle.std.proofs.Common.{[], ℕ, ◌++◌, ◌+◌, ◌∙◌, ◌∷◌, ◌≡◌, Err, IfOk, List, Ok, Result, Some, ap, append-nil, append_assoc, ap₂, false, length, map, refl, slice_get, subst, sym, take}
use Rattle.script_journal.specs.{Accepts, AllFit, Binding, Command, Do, Event, History, JournalIsAScript, Legal, Limits, Origin, Realm, RunsTo, Tally, beginning_lines, ended_lines, event_line, is_refused, line_said, no_refusals}
use Rattle.script_journal.specs.{realm_after, realm_after_line, realm_after_lines, realm_of_script, reply_to, script_text, starting, tally_after_line, tally_after_lines, tally_of_script, the_start, with_cut, without_due}
use Rattle.script_journal.specs.{without_dues}
use Rattle.script_journal.proofs.Lemmas.{accepts_without, fun_ext, length-map, take-append_seam, without_followed}
use Rattle.script_journal.proofs.{Accepted.accepted_adds, Accepted.accepted_unrefused, Accepted.ruled, Bases.from, Bases.unnumbered, PlayedLines.all_ended, PlayedLines.all_lines, PlayedLines.binds_said, PlayedLines.line_count}
use Rattle.script_journal.proofs.{PlayedLines.moment_said, Words.line_says_event}

-- ---- lines in turn

-- the lines bring the one realm to the other, and none is refused
pub record Plays (old new : Realm) (lines : List (List ℕ)) : Type 0 where
  pub left : realm_after_lines old lines ≡ new
  pub unrefused : tally_after_lines no_refusals old lines ≡ no_refusals

pub none_played : (realm : Realm) → Plays realm realm []
unfolding realm_after_lines tally_after_lines
none_played realm = record { left = refl; unrefused = refl }

left_in_turn : (realm : Realm) (first others : List (List ℕ)) → realm_after_lines realm (first ++ others) ≡ realm_after_lines (realm_after_lines realm first) others
unfolding realm_after_lines
left_in_turn realm [] others = refl
left_in_turn realm (line ∷ first) others = left_in_turn (realm_after_line realm (line_said line)) first others

counted_in_turn : (tally : Tally) (realm : Realm) (first others : List (List ℕ))
    → tally_after_lines tally realm (first ++ others) ≡ tally_after_lines (tally_after_lines tally realm first) (realm_after_lines realm first) others
unfolding realm_after_lines tally_after_lines
counted_in_turn tally realm [] others = refl
counted_in_turn tally realm (line ∷ first) others = counted_in_turn (tally_after_line tally realm (line_said line)) (realm_after_line realm (line_said line)) first others

pub both_played : (a b c : Realm) (first others : List (List ℕ)) → Plays a b first → Plays b c others → Plays a c (first ++ others)
both_played a b c first others one two = record {
  left = left_in_turn a first others ∙ (ap (λ (realm : Realm). realm_after_lines realm others) one.left ∙ two.left);
  unrefused = counted_in_turn no_refusals a first others ∙ (ap₂ (λ tally (realm : Realm). tally_after_lines tally realm others) one.unrefused one.left ∙ two.unrefused);
}

pub line_played : (old new : Realm) (line : List ℕ) (command : _) → line_said line ≡ Command command → realm_after old command ≡ new → is_refused (reply_to old command) ≡ false → Plays old new (line ∷ [])
unfolding realm_after_line realm_after_lines tally_after_line tally_after_lines
line_played old new line command says leaves unrefused = record { left = rw says leaves; unrefused = rw (says, unrefused) refl }

-- ---- events in turn

-- the element behind the first ones
get_behind : {A : Type 0} (xs : List A) (x : A) (ys : List A) → slice_get (xs ++ x ∷ ys) (length xs) ≡ Some x
get_behind [] x ys = refl
get_behind (y ∷ xs) x ys = get_behind xs x ys

put_behind : (done : List Event) (e : Event) (es all : List Event) → done ++ e ∷ es ≡ all → (done ++ e ∷ []) ++ es ≡ all
put_behind done e es all whole = append_assoc done (e ∷ []) es ∙ whole

module _ (L : Limits) (base : Origin) (all : List Event) (legal : Legal L (from base all)) (fit : AllFit all) where
  at_seam : (done : List Event) (e : Event) (es : List Event) → done ++ e ∷ es ≡ all → slice_get all (length done) ≡ Some e
  at_seam done e es whole = ap (λ xs. slice_get xs (length done)) (sym whole) ∙ get_behind done e es

  -- each event is accepted on those before it
  accepted : (done : List Event) (e : Event) (es : List Event) → done ++ e ∷ es ≡ all → Accepts L (from base done) e
  unfolding Legal
  accepted done e es whole =
      let seam : take (length done) all ≡ done = ap (take (length done)) (sym whole) ∙ take-append_seam done (e ∷ es) in
      subst (λ (xs : List Event). Accepts L (from base xs) e) seam (legal (length done) e (at_seam done e es whole))

  says : (done : List Event) (e : Event) (es : List Event) → done ++ e ∷ es ≡ all → line_said (event_line the_start e) ≡ Command (Do (without_due e))
  says done e es whole = line_says_event e (fit (length done) e (at_seam done e es whole))

  -- the lines of the events that are left bring the realm from those before them to all
  played_after : (done es : List Event) → done ++ es ≡ all → Plays (ruled L (without_dues (from base done))) (ruled L (without_dues (from base all))) (map (event_line the_start) es)
  played_after done [] whole =
      subst (λ (xs : List Event). Plays (ruled L (without_dues (from base done))) (ruled L (without_dues (from base xs))) []) (sym (append-nil done) ∙ whole) (none_played (ruled L (without_dues (from base done))))
  played_after done (e ∷ es) whole =
      let old = without_dues (from base done) in
      let is = accepts_without L (from base done) e (accepted done e es whole) in
      both_played (ruled L old) (ruled L (without_dues (from base (done ++ e ∷ [])))) (ruled L (without_dues (from base all))) (event_line the_start e ∷ []) (map (event_line the_start) es)
      (line_played (ruled L old) (ruled L (without_dues (from base (done ++ e ∷ [])))) (event_line the_start e) (Do (without_due e)) (says done e es whole)
      (accepted_adds L old (without_due e) is ∙ ap (ruled L) (without_followed (from base done) e)) (accepted_unrefused L old (without_due e) is))
      (played_after (done ++ e ∷ []) es (put_behind done e es all whole))

  -- the lines of the events bring a realm that begins with the base to the history
  pub events_played : Plays (starting L base) (ruled L (without_dues (from base all))) (map (event_line the_start) all)
  events_played = played_after [] all refl

-- ---- the whole script

module _ (moment : ℕ) (pairs : List Binding) where
  same_line : (e : Event) → event_line (unnumbered moment pairs) e ≡ event_line the_start e
  unfolding event_line
  same_line e = refl

  module _ (L : Limits) (es : List Event)
      (begun : Plays (starting L the_start) (starting L (unnumbered moment pairs)) (moment_said moment ++ binds_said pairs))
      (legal : Legal L (from (unnumbered moment pairs) es)) (fit : AllFit es) where
    lines : ended_lines [] (script_text (from (unnumbered moment pairs) es)) ≡ (moment_said moment ++ binds_said pairs) ++ map (event_line the_start) es
    lines =
        all_lines (from (unnumbered moment pairs) es)
        ∙ ap (λ (line : Event → List ℕ). (moment_said moment ++ binds_said pairs) ++ map line es) (fun_ext same_line)

    played : Plays (starting L the_start) (ruled L (without_dues (from (unnumbered moment pairs) es))) ((moment_said moment ++ binds_said pairs) ++ map (event_line the_start) es)
    played = both_played (starting L the_start) (starting L (unnumbered moment pairs)) (ruled L (without_dues (from (unnumbered moment pairs) es))) (moment_said moment ++ binds_said pairs) (map (event_line the_start) es) begun (events_played L (unnumbered moment pairs) es legal fit)

    pub runs : RunsTo L (script_text (from (unnumbered moment pairs) es)) (without_dues (from (unnumbered moment pairs) es))
    unfolding realm_of_script tally_of_script
    runs = record {
      left = ap (realm_after_lines (starting L the_start)) lines ∙ played.left;
      unrefused = ap₂ (λ ls line. with_cut (tally_after_lines no_refusals (starting L the_start) ls) line) lines (all_ended (from (unnumbered moment pairs) es)) ∙ played.unrefused;
      lines = line_count (from (unnumbered moment pairs) es) ∙ ap (λ n. beginning_lines (unnumbered moment pairs) + n) (sym (length-map es without_due));
      ended = all_ended (from (unnumbered moment pairs) es);
    }

pub journal_is_a_script : JournalIsAScript
journal_is_a_script L h is legal fit =
    let same : from the_start h.events ≡ h = ap (λ (b : Origin). from b h.events) (sym is) in
    subst (λ (g : History). RunsTo L (script_text g) (without_dues g)) same (runs 0 [] L h.events (none_played (starting L the_start)) (subst (Legal L) (sym same) legal) fit)

-- the text that was made of a realm's journal, if one was made
pub text_runs : {T E : Type 0} (bytes : T → List ℕ) (realm : Realm) (base : Origin) (es : List Event) (made : Result T E) → Legal realm.limits realm.history → base ≡ realm.history.base → es ≡ realm.history.events → AllFit es
    → IfOk made (λ text. bytes text ≡ script_text (record { base = base; events = es }))
    → IfOk made (λ text. realm.history.base ≡ the_start → RunsTo realm.limits (bytes text) (without_dues realm.history))
text_runs bytes realm base es (Err error) legal of_base of_events fit made = tt
text_runs bytes realm base es (Ok text) legal of_base of_events fit made =
    λ is.
    let whole : bytes text ≡ script_text realm.history = made ∙ ap₂ (λ (b : Origin) (xs : List Event). script_text (record { base = b; events = xs })) of_base of_events in
    subst (λ t. RunsTo realm.limits t (without_dues realm.history)) (sym whole) (journal_is_a_script realm.limits realm.history is legal (subst AllFit of_events fit))
