-- The lines of a script: one for each event, and no line holds a line feed.
use Rattle.std.proofs.Common.{[], ℕ, ◌++◌, ◌+◌, ◌==◌, ◌∙◌, ◌∷◌, ◌≡◌, List, ap, append-nil, append_assoc, arith, codes, false, length, map, refl, subst, suc, sym, true, zero}
use Rattle.script_journal.specs.{Binding, Do, Event, History, NoLineIsLost, Origin, beginning_lines, begun_line, bind_lines, binds_text, decimal, ended_lines, event_line, events_text, flat_map, is_printable, moment_lines, moment_text}
use Rattle.script_journal.specs.{pair_text, pairs_text, renumbered, retire_behind, retire_text, script_text}
use Rattle.script_journal.proofs.Lemmas.{Shows, decimal_shows, length-append, length-map, list_all-append, name_shows, nat_tests, spelled_shows, value_shows}

-- ---- lines are printable

line_shows : (base : Origin) (e : Event) → Shows (event_line base e)
unfolding event_line
line_shows base e = spelled_shows (Do (renumbered base e))

-- ---- where lines end

no_feed : (b : ℕ) → is_printable b ≡ true → (b == 10) ≡ false
no_feed b shows = grind (arith, nat_tests)

first_shows : (b : ℕ) (bs : List ℕ) → Shows (b ∷ bs) → is_printable b ≡ true
first_shows b bs shows = grind arith

others_show : (b : ℕ) (bs : List ℕ) → Shows (b ∷ bs) → Shows bs
others_show b bs shows = grind arith

-- a line feed behind a printable line ends just that line
ended_behind : (begun line rest : List ℕ) → Shows line → ended_lines begun (line ++ 10 ∷ rest) ≡ (begun ++ line) ∷ ended_lines [] rest
unfolding ended_lines
ended_behind begun [] rest shows = rw (append-nil begun) refl
ended_behind begun (b ∷ bs) rest shows =
    rw (no_feed b (first_shows b bs shows))
    (ended_behind (begun ++ b ∷ []) bs rest (others_show b bs shows) ∙ ap (λ line. line ∷ ended_lines [] rest) (append_assoc begun (b ∷ []) bs))

begun_behind : (begun line rest : List ℕ) → Shows line → begun_line begun (line ++ 10 ∷ rest) ≡ begun_line [] rest
unfolding begun_line
begun_behind begun [] rest shows = refl
begun_behind begun (b ∷ bs) rest shows = rw (no_feed b (first_shows b bs shows)) (begun_behind (begun ++ b ∷ []) bs rest (others_show b bs shows))

-- the text has just these lines, each ended
record Has (text : List ℕ) (lines : List (List ℕ)) : Type 0 where
  ended : (rest : List ℕ) → ended_lines [] (text ++ rest) ≡ lines ++ ended_lines [] rest
  begun : (rest : List ℕ) → begun_line [] (text ++ rest) ≡ begun_line [] rest

nothing : Has [] []
nothing = record { ended = λ rest. refl; begun = λ rest. refl }

one_line : (line : List ℕ) → Shows line → Has (line ++ 10 ∷ []) (line ∷ [])
one_line line shows = record {
  ended = λ rest. ap (ended_lines []) (append_assoc line (10 ∷ []) rest) ∙ ended_behind [] line rest shows;
  begun = λ rest. ap (begun_line []) (append_assoc line (10 ∷ []) rest) ∙ begun_behind [] line rest shows;
}

both : (text more : List ℕ) (lines others : List (List ℕ)) → Has text lines → Has more others → Has (text ++ more) (lines ++ others)
both text more lines others first second = record {
  ended = λ rest. ap (ended_lines []) (append_assoc text more rest) ∙ (first.ended (more ++ rest) ∙ (ap (λ ls. lines ++ ls) (second.ended rest) ∙ sym (append_assoc lines others (ended_lines [] rest))));
  begun = λ rest. ap (begun_line []) (append_assoc text more rest) ∙ (first.begun (more ++ rest) ∙ second.begun rest);
}

-- lines of a list of things
each : {A : Type 0} (line : A → List ℕ) → ((x : A) → Shows (line x)) → (xs : List A) → Has (flat_map (λ x. line x ++ 10 ∷ []) xs) (map line xs)
each line shows [] = nothing
each line shows (x ∷ xs) = both (line x ++ 10 ∷ []) (flat_map (λ y. line y ++ 10 ∷ []) xs) (line x ∷ []) (map line xs) (one_line (line x) (shows x)) (each line shows xs)

-- ---- the lines of a script

abbrev pub retire_line : List ℕ
retire_line = codes "retire 0"

abbrev pub bind_line : Binding → List ℕ
bind_line pair = codes "bind 0 " ++ pair_text pair

-- the lines that come to the moment, and those that come to main's bindings
abbrev pub moment_said : ℕ → List (List ℕ)
moment_said zero = []
moment_said (suc n) = (codes "tick " ++ decimal (suc n)) ∷ retire_line ∷ []

abbrev pub retire_said : List Binding → List (List ℕ)
retire_said [] = []
retire_said (pair ∷ pairs) = retire_line ∷ []

abbrev pub binds_said : List Binding → List (List ℕ)
binds_said pairs = map bind_line pairs ++ retire_said pairs

bind_shows : (pair : Binding) → Shows (bind_line pair)
bind_shows pair = simp (list_all-append, name_shows, value_shows)

tick_shows : (n : ℕ) → Shows (codes "tick " ++ decimal n)
tick_shows n = simp (decimal_shows)

moment_has : (moment : ℕ) → Has (moment_text moment) (moment_said moment)
moment_has zero = nothing
moment_has (suc n) =
    let tick = codes "tick " ++ decimal (suc n) in
    subst (λ text. Has text (tick ∷ retire_line ∷ [])) (append_assoc tick (10 ∷ []) retire_text)
    (both (tick ++ 10 ∷ []) retire_text (tick ∷ []) (retire_line ∷ []) (one_line tick (tick_shows (suc n))) (one_line retire_line refl))

behind_has : (pairs : List Binding) → Has (retire_behind pairs) (retire_said pairs)
behind_has [] = nothing
behind_has (pair ∷ pairs) = one_line retire_line refl

binds_have : (pairs : List Binding) → Has (binds_text pairs) (binds_said pairs)
unfolding binds_text pairs_text
binds_have pairs = both (pairs_text pairs) (retire_behind pairs) (map bind_line pairs) (retire_said pairs) (each bind_line bind_shows pairs) (behind_has pairs)

events_have : (base : Origin) (es : List Event) → Has (events_text base es) (map (event_line base) es)
unfolding events_text
events_have base es = each (event_line base) (line_shows base) es

-- ---- all lines

moment_count : (moment : ℕ) → length (moment_said moment) ≡ moment_lines moment
moment_count zero = refl
moment_count (suc n) = refl

binds_count : (pairs : List Binding) → length (binds_said pairs) ≡ bind_lines pairs
binds_count [] = refl
binds_count (pair ∷ pairs) = length-append (map bind_line (pair ∷ pairs)) (retire_line ∷ []) ∙ ap (λ n. n + 1) (length-map (pair ∷ pairs) bind_line)

abbrev pub lines_of : History → List (List ℕ)
lines_of h = (moment_said h.base.moment ++ binds_said h.base.binds) ++ map (event_line h.base) h.events

module _ (h : History) where
  script_has : Has (script_text h) (lines_of h)
  script_has = both _ _ _ _ (both _ _ _ _ (moment_has h.base.moment) (binds_have h.base.binds)) (events_have h.base h.events)

  pub all_lines : ended_lines [] (script_text h) ≡ lines_of h
  unfolding ended_lines
  all_lines = ap (ended_lines []) (sym (append-nil (script_text h))) ∙ (script_has.ended [] ∙ append-nil (lines_of h))

  pub all_ended : begun_line [] (script_text h) ≡ []
  unfolding begun_line
  all_ended = ap (begun_line []) (sym (append-nil (script_text h))) ∙ script_has.begun []

  pub line_count : length (ended_lines [] (script_text h)) ≡ beginning_lines h.base + length h.events
  line_count =
      let first = length-append (moment_said h.base.moment ++ binds_said h.base.binds) (map (event_line h.base) h.events) in
      let second = length-append (moment_said h.base.moment) (binds_said h.base.binds) in
      ap length all_lines ∙ omega (arith, first, second, moment_count h.base.moment, binds_count h.base.binds, length-map h.events (event_line h.base))

pub no_line_is_lost : NoLineIsLost
no_line_is_lost h = (line_count h, all_ended h)
