-- The times of a script, line by line.
use Rattle.std.specs.Prelude.{◌++◌, ◌||◌, ◌∷◌, ◌≡◌}
use Rattle.script_jobs.specs.{[], ℕ, Bool, CutsLine, List, Realm, Stamps, at_line, ended_lines, false, has_feed, has_reading, is_some, length, line_said, reading_of, realm_after_line}
use Rattle.script_jobs.specs.{stamped, stamps_from, true}
use Rattle.script_jobs.proofs.Words.{◌∙◌, ap, sym}
use Rattle.script_jobs.proofs.Walked.{line_ends, no_lines}

-- the lines of what is left begin with its first one
pub lines_cut : (bytes line rest : List ℕ) → CutsLine bytes line rest → ended_lines [] bytes ≡ line ∷ ended_lines [] rest
lines_cut bytes line rest cuts = ap (ended_lines []) cuts.whole ∙ line_ends [] line rest cuts.unended

pub one_stamped : (bytes line rest times new : List ℕ) (realm after : Realm) (before behind at next : ℕ) (all : Stamps) → CutsLine bytes line rest →
    stamps_from times realm at (ended_lines [] bytes) ≡ all →
    after ≡ realm_after_line realm (line_said line) → before ≡ length realm.history.events → behind ≡ length after.history.events → next ≡ at_line at line → new ≡ stamped times before behind next →
    stamps_from new after next (ended_lines [] rest) ≡ all
unfolding stamps_from
one_stamped bytes line rest times new realm after before behind at next all cuts sofar leaves had has reading is =
    ap (λ ts. stamps_from ts after next (ended_lines [] rest)) is
    ∙ (ap (λ n. stamps_from (stamped times n behind next) after next (ended_lines [] rest)) had
    ∙ (ap (λ n. stamps_from (stamped times (length realm.history.events) n next) after next (ended_lines [] rest)) has
    ∙ (ap (λ n. stamps_from (stamped times (length realm.history.events) (length after.history.events) n) after n (ended_lines [] rest)) reading
    ∙ (ap (λ (r : Realm). stamps_from (stamped times (length realm.history.events) (length r.history.events) (at_line at line)) r (at_line at line) (ended_lines [] rest)) leaves
    ∙ (ap (stamps_from times realm at) (sym (lines_cut bytes line rest cuts)) ∙ sofar)))))

pub all_stamped : (bytes times new : List ℕ) (realm : Realm) (at : ℕ) (all : Stamps) → has_feed bytes ≡ false → stamps_from times realm at (ended_lines [] bytes) ≡ all → new ≡ times ++ at ∷ [] → record { events = new; last = at } ≡ all
unfolding stamps_from
all_stamped bytes times new realm at all none sofar is = ap (λ ts. record { events = ts; last = at }) is ∙ (ap (stamps_from times realm at) (sym (no_lines [] bytes none)) ∙ sofar)

-- ---- readings

pub read_here : (bytes line rest : List ℕ) (all : Bool) → CutsLine bytes line rest → has_reading (ended_lines [] bytes) ≡ all → is_some (reading_of line) ≡ true → true ≡ all
read_here bytes line rest all cuts sofar some =
    sym (ap (λ b. b || has_reading (ended_lines [] rest)) some) ∙ (sym (ap has_reading (lines_cut bytes line rest cuts)) ∙ sofar)

pub read_later : (bytes line rest : List ℕ) (all : Bool) → CutsLine bytes line rest → has_reading (ended_lines [] bytes) ≡ all → is_some (reading_of line) ≡ false → has_reading (ended_lines [] rest) ≡ all
read_later bytes line rest all cuts sofar none =
    sym (ap (λ b. b || has_reading (ended_lines [] rest)) none) ∙ (sym (ap has_reading (lines_cut bytes line rest cuts)) ∙ sofar)

pub read_never : (bytes : List ℕ) (all : Bool) → has_feed bytes ≡ false → has_reading (ended_lines [] bytes) ≡ all → false ≡ all
read_never bytes all none sofar = ap has_reading (sym (no_lines [] bytes none)) ∙ sofar
