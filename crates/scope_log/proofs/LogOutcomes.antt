-- What a join answered, by the entries before it.
use Rattle.std.proofs.Common.{[], ℕ, ◌&&◌, ◌++◌, ◌<◌, ◌==◌, ◌||◌, ◌∙◌, ◌∷◌, ◌≡◌, Bool, None, Option, Some, ap, arith, cond, false, length, length-append, option_map, refl, suc, sym, true}
use Rattle.std.proofs.lemmas.Bool.{or_right}
use Rattle.scope_log.specs.{Event, History, Join, Legal, Limits, LogValue, Opening, Origin, Words.cause, Words.joined, Words.outcome, answer_in, answer_of, before, before_first, before_join, cons_option, earliest, entries}
use Rattle.scope_log.specs.{entries_next, followed, has_failed, has_succeeded, is_join, is_of, joining, joining_at, joins, list_any, mark_next, opening, option_and_then, option_map_or, option_or, outcome_in, outcome_of}
use Rattle.scope_log.specs.{readable_of, readings_in, said}
use Rattle.scope_log.proofs.Words.{along, append-nil, before_last, before_push, earliest_same, get_push, joined_grows, joining_inside, joining_stays, last_event, legal_before}
use Rattle.scope_log.proofs.{FirstParts.before_first-append, LogCounts.listing_told, LogCounts.values_told, LogFirsts.first_told, LogMarks.and_false, LogMarks.any_grows, LogMarks.cause_told, LogMarks.tells, LogMarks.tells_by}
use Rattle.scope_log.proofs.{LogSteps.entries_grow}
use Rattle.scope_log.specs.declared.entries.LogEntry.TheVariants as entry

-- ---- the join

join_earlier : (h : History) (e : Event) (s i : ℕ) → i < length h.events → joining_at (followed h e) s i ≡ joining_at h s i
join_earlier h e s i within = ap (option_and_then (λ (x : Event). cond (joins s x) (Some i) None)) (get_push h.events e i within)

-- the place of a join stays, or is the event's
joining_grows : (h : History) (e : Event) (s : ℕ) → joining (followed h e) s ≡ option_or (joining h s) (cond (joins s e) (Some (length h.events)) None)
unfolding joining earliest
joining_grows h e s =
    let longer : length (h.events ++ e ∷ []) ≡ suc (length h.events) = length-append h.events (e ∷ []) ∙ omega arith in
    rw longer
    (rw (earliest_same (joining_at (followed h e) s) (joining_at h s) (length h.events) (λ i within. join_earlier h e s i within))
    (ap (λ o. option_or (joining h s) (option_and_then (λ (x : Event). cond (joins s x) (Some (length h.events)) None) o)) (last_event h.events e)))

and_true : (b : Bool) → (b && true) ≡ b
and_true true = refl
and_true false = refl

join_shown : (h : History) (s : ℕ) (e : Event) → tells is_join h s e ≡ joins s e
join_shown h s e = tells_by is_join h s e ∙ by e
  where
    by : (x : Event) → (is_of h s x && option_map_or is_join (said h x) false) ≡ joins s x
    by (Join actor scope) = and_true (scope == s)
    by x = and_false (is_of h s x)

-- the join stands first in what it adds
join_first : (h : History) (s : ℕ) (e : Event) → joins s e ≡ true → before_first is_join (entries_next h e s) ≡ []
join_first h s (Join actor scope) is = ap (λ b. before_first is_join (cons_option (cond b (Some (entry.Join actor)) None) (cons_option (mark_next h (Join actor scope) s) []))) is
join_first h s _ is = absurd cc

-- what the entries tell of the join of the scope
record JoinTold (s : ℕ) (h : History) : Type 0 where
  none : joining h s ≡ None → list_any is_join (entries h s) ≡ false
  some : (i : ℕ) → joining h s ≡ Some i → (list_any is_join (entries h s) ≡ true) × (before_first is_join (entries h s) ≡ entries (before h i) s)

module _ (L : Limits) (s : ℕ) (h : History) (e : Event) (legal : Legal L h) where
  joins_grow : list_any is_join (entries (followed h e) s) ≡ (list_any is_join (entries h s) || joins s e)
  joins_grow = any_grows is_join (λ c. refl) L h e s legal ∙ ap (λ b. list_any is_join (entries h s) || b) (join_shown h s e)

  before_grows : before_first is_join (entries (followed h e) s) ≡ cond (list_any is_join (entries h s)) (before_first is_join (entries h s)) (entries h s ++ before_first is_join (entries_next h e s))
  before_grows = ap (before_first is_join) (entries_grow L h e s legal) ∙ before_first-append is_join (entries h s) (entries_next h e s)

  joined_before : JoinTold s h → (j : ℕ) → joining h s ≡ Some j → JoinTold s (followed h e)
  joined_before so j was =
      let told = so.some j was in
      record {
        none = λ none. absurd (cc (none, joining_stays h e s j was));
        some = λ i is.
            let same : j ≡ i = cc (joining_stays h e s j was) in (
              joins_grow ∙ ap (λ b. b || joins s e) told.0,
              before_grows
                  ∙ (ap (λ b. cond b (before_first is_join (entries h s)) (entries h s ++ before_first is_join (entries_next h e s))) told.0
                  ∙ (told.1
                  ∙ (ap (λ (g : History). entries g s) (sym (before_push h e j (omega (arith, joining_inside h s j was)))) ∙ ap (λ n. entries (before (followed h e) n) s) same))),
            );
      }

  joined_now : JoinTold s h → joining h s ≡ None → joins s e ≡ true → JoinTold s (followed h e)
  joined_now so was now =
      let here : joining (followed h e) s ≡ Some (length h.events) = joining_grows h e s ∙ (ap (λ o. option_or o (cond (joins s e) (Some (length h.events)) None)) was ∙ ap (λ b. cond b (Some (length h.events)) None) now) in
      record {
        none = λ none. absurd (cc (none, here));
        some = λ i is.
            let same : length h.events ≡ i = cc (here, is) in (
              joins_grow ∙ or_right (list_any is_join (entries h s)) (joins s e) now,
              before_grows
                  ∙ (ap (λ b. cond b (before_first is_join (entries h s)) (entries h s ++ before_first is_join (entries_next h e s))) (so.none was)
                  ∙ (ap (λ xs. entries h s ++ xs) (join_first h s e now)
                  ∙ (append-nil (entries h s)
                  ∙ (ap (λ (g : History). entries g s) (sym (before_last h e)) ∙ ap (λ n. entries (before (followed h e) n) s) same)))),
            );
      }

  not_joined : JoinTold s h → joining h s ≡ None → joins s e ≡ false → JoinTold s (followed h e)
  not_joined so was other =
      let still : joining (followed h e) s ≡ None = joining_grows h e s ∙ (ap (λ o. option_or o (cond (joins s e) (Some (length h.events)) None)) was ∙ ap (λ b. cond b (Some (length h.events)) None) other) in
      record {
        none = λ none. joins_grow ∙ (ap (λ b. b || joins s e) (so.none was) ∙ other);
        some = λ i is. absurd (cc (still, is));
      }

  join_step : JoinTold s h → JoinTold s (followed h e)
  join_step so = by (joining h s) (joins s e) refl refl
    where
      by : (o : Option ℕ) (b : Bool) → joining h s ≡ o → joins s e ≡ b → JoinTold s (followed h e)
      by (Some j) b was is = joined_before so j was
      by None true was is = joined_now so was is
      by None false was is = not_joined so was is

join_start : (s : ℕ) (b : Origin) → JoinTold s (record { base = b; events = [] })
unfolding entries joining earliest
join_start s b = record { none = λ none. refl; some = λ i is. absurd cc }

join_told : (L : Limits) (h : History) (s : ℕ) → Legal L h → JoinTold s h
join_told L h s legal = along L (JoinTold s) (join_start s) (λ g e lawful ok so. join_step L s g e lawful so) h legal

none_joined : (s : ℕ) (b : Origin) → list_any is_join (entries (record { base = b; events = [] }) s) ≡ joined (record { base = b; events = [] }) s
unfolding entries joined
none_joined s b = refl

-- the entries have a join if the scope is joined
pub joined_told : (L : Limits) (h : History) (s : ℕ) → Legal L h → list_any is_join (entries h s) ≡ joined h s
joined_told L h s legal = along L (λ g. list_any is_join (entries g s) ≡ joined g s) (none_joined s) (λ g e lawful ok so. joins_grow L s g e lawful ∙ (ap (λ b. b || joins s e) so ∙ sym (joined_grows g e s))) h legal

-- ---- what it answered

-- the log of scope s, opened so
abbrev pub log_of : History → ℕ → Opening → LogValue
log_of h s o = record { scope = s; policy = o.policy; expiry = o.options.expiry; entries = entries h s }

-- the entries tell what can be read
readings_told : (L : Limits) (h : History) (s : ℕ) → Legal L h → readings_in (entries h s) ≡ readable_of h s
readings_told L h s legal = rw (first_told L has_failed h s legal) (rw (first_told L has_succeeded h s legal) (rw (values_told L h s legal) (rw (listing_told L h s legal) refl)))

-- what a join answers next
pub next_told : (L : Limits) (h : History) (s : ℕ) (o : Opening) → Legal L h → answer_in (log_of h s o) ≡ outcome_of h s o
unfolding answer_in outcome_of
next_told L h s o legal = rw (cause_told L h s legal) (ap (λ r. answer_of r s o.policy o.options.expiry (cause h s)) (readings_told L h s legal))

-- the log tells what the join answered
pub outcome_told : (L : Limits) (h : History) (s : ℕ) (o : Opening) → Legal L h → opening h s ≡ Some o → outcome_in (log_of h s o) ≡ outcome h s
unfolding outcome_in outcome
outcome_told L h s o legal is = by (joining h s) refl ∙ sym (ap (λ (x : Option Opening). option_and_then (λ i. option_map (outcome_of (before h i) s) x) (joining h s)) is)
  where
    by : (j : Option ℕ) → joining h s ≡ j → cond (list_any is_join (entries h s)) (Some (answer_in (before_join (log_of h s o)))) None ≡ option_and_then (λ i. Some (outcome_of (before h i) s o)) (joining h s)
    by None was = rw was (ap (λ b. cond b (Some (answer_in (before_join (log_of h s o)))) None) ((join_told L h s legal).none was))
    by (Some i) was =
        let told = (join_told L h s legal).some i was in
        rw was
        (ap (λ b. cond b (Some (answer_in (before_join (log_of h s o)))) None) told.0
        ∙ (ap (λ es. Some (answer_in (record (log_of h s o) { entries = es }))) told.1 ∙ ap Some (next_told L (before h i) s o (legal_before L h i legal))))
