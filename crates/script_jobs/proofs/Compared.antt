-- Two texts that are gone through line by line.
use Rattle.std.specs.Prelude.{◌++◌, ◌+◌, ◌<◌, ◌∷◌, ◌≡◌}
use Rattle.script_jobs.specs.{[], ℕ, BeginAlike, CutsLine, List, flat_map, length}
use Rattle.script_jobs.proofs.Words.{◌∙◌, ap, append-nil, append_assoc, arith, length-append, refl, sym}
use Rattle.script_jobs.specs.Comparing.{ended}

flat_more : (xs : List (List ℕ)) (x : List ℕ) → flat_map ended (xs ++ x ∷ []) ≡ flat_map ended xs ++ ended x
flat_more [] x = append-nil (ended x)
flat_more (y ∷ ys) x = ap (λ r. ended y ++ r) (flat_more ys x) ∙ sym (append_assoc (ended y) (flat_map ended ys) (ended x))

-- the texts begin with the same lines, one less than the number
pub record SameSoFar (number : ℕ) (wanted given wanted_rest given_rest : List ℕ) : Type 0 where
  pub lines : List (List ℕ)
  pub many : number ≡ length lines + 1
  pub wanted_is : wanted ≡ flat_map ended lines ++ wanted_rest
  pub given_is : given ≡ flat_map ended lines ++ given_rest

pub none_so_far : (wanted given : List ℕ) → SameSoFar 1 wanted given wanted given
none_so_far wanted given = record { lines = []; many = refl; wanted_is = refl; given_is = refl }

cut_more : (text : List ℕ) (lines : List (List ℕ)) (rest line others : List ℕ) → text ≡ flat_map ended lines ++ rest → CutsLine rest line others → text ≡ flat_map ended (lines ++ line ∷ []) ++ others
cut_more text lines rest line others is cut =
    is
    ∙ (ap (λ r. flat_map ended lines ++ r) (cut.whole ∙ sym (append_assoc line (10 ∷ []) others))
    ∙ (sym (append_assoc (flat_map ended lines) (ended line) others) ∙ ap (λ r. r ++ others) (sym (flat_more lines line))))

pub one_more : (number : ℕ) (wanted given one other rest others : List ℕ) → SameSoFar number wanted given one other → BeginAlike one other rest others → SameSoFar (number + 1) wanted given rest others
one_more number wanted given one other rest others so alike = record {
  lines = so.lines ++ alike.line ∷ [];
  many = omega (arith, length-append so.lines (alike.line ∷ []), so.many);
  wanted_is = cut_more wanted so.lines one alike.line rest so.wanted_is alike.one_is;
  given_is = cut_more given so.lines other alike.line others so.given_is alike.other_is;
}

pub all_same : (number : ℕ) (wanted given one other : List ℕ) → SameSoFar number wanted given one other → one ≡ other → wanted ≡ given
all_same number wanted given one other so same = so.wanted_is ∙ (ap (λ r. flat_map ended so.lines ++ r) same ∙ sym so.given_is)

-- a line takes a byte at the least
pub shorter : (text line rest : List ℕ) → CutsLine text line rest → length rest < length text
shorter text line rest cut = omega (arith, ap length cut.whole, length-append line (10 ∷ rest))
