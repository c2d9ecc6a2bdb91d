-- Lines that are put together.
use Rattle.std.specs.Prelude.{◌&&◌, ◌++◌, ◌+◌, ◌∷◌, ◌≡◌}
use Rattle.script_jobs.specs.{[], ℕ, Bool, Do, HasWords, IsScript, Line, LineSaysTheCommand, List, OneMore, Tick, codes, digits, ended, false, flat_map, is_answered_line}
use Rattle.script_jobs.specs.{line_said, list_all, true, words_of}
use Rattle.script_jobs.proofs.Words.{◌∙◌, ap, append-nil, append_assoc, arith, length-append, lit<, refl, sym}

flat_more : (xs : List (List ℕ)) (x : List ℕ) → flat_map ended (xs ++ x ∷ []) ≡ flat_map ended xs ++ ended x
flat_more [] x = append-nil (ended x)
flat_more (y ∷ ys) x = ap (λ r. ended y ++ r) (flat_more ys x) ∙ sym (append_assoc (ended y) (flat_map ended ys) (ended x))

all_more : (xs : List (List ℕ)) (x : List ℕ) → list_all is_answered_line xs ≡ true → is_answered_line x ≡ true → list_all is_answered_line (xs ++ x ∷ []) ≡ true
all_more [] x all one = rw one refl
all_more (y ∷ ys) x all one = go (is_answered_line y) (all_more ys x) all
  where
    go : (b : Bool) → (list_all is_answered_line ys ≡ true → is_answered_line x ≡ true → list_all is_answered_line (ys ++ x ∷ []) ≡ true) → (b && list_all is_answered_line ys) ≡ true → (b && list_all is_answered_line (ys ++ x ∷ [])) ≡ true
    go true more all = more all one
    go false more all = all

pub none_made : (text : List ℕ) → text ≡ [] → IsScript 0 text
none_made text none = record { lines = []; many = refl; answered = refl; is = none }

pub one_made : (n : ℕ) (text more : List ℕ) → IsScript n text → OneMore text more → IsScript (n + 1) more
one_made n text more made one = record {
  lines = made.lines ++ one.line ∷ [];
  many = omega (arith, length-append made.lines (one.line ∷ []), made.many);
  answered = all_more made.lines one.line made.answered one.answered;
  is = one.is ∙ (ap (λ t. t ++ ended one.line) made.is ∙ sym (flat_more made.lines one.line));
}

-- the line that stands in for a phrase that is answered nothing
pub fallback : LineSaysTheCommand → is_answered_line (codes "tick 0") ≡ true
unfolding words_of HasWords digits
fallback law =
    let said : line_said (codes "tick 0") ≡ Line.Command (Do (Tick 0)) = law (Do (Tick 0)) ((lit< tt, tt), refl) in
    rw said refl
