-- The lines of a script, one by one.
use Rattle.std.specs.Prelude.{◌++◌, ◌==◌, ◌∷◌, ◌≡◌}
use Rattle.script_jobs.specs.{[], ℕ, List, ended_lines, false, has_feed}
use Rattle.script_jobs.proofs.Words.{◌∙◌, ap, append-nil, append_assoc, cond, or_parts, refl, sym}

-- bytes without a line feed end no line
pub no_lines : (begun bytes : List ℕ) → has_feed bytes ≡ false → ended_lines begun bytes ≡ []
unfolding ended_lines
no_lines begun [] none = refl
no_lines begun (b ∷ bytes) none =
    let parts = or_parts (b == 10) (has_feed bytes) none in
    ap (λ c. cond c (begun ∷ ended_lines [] bytes) (ended_lines (begun ++ b ∷ []) bytes)) parts.0 ∙ no_lines (begun ++ b ∷ []) bytes parts.1

-- a line that a line feed ends comes first
pub line_ends : (begun line rest : List ℕ) → has_feed line ≡ false → ended_lines begun (line ++ 10 ∷ rest) ≡ (begun ++ line) ∷ ended_lines [] rest
unfolding ended_lines
line_ends begun [] rest none = ap (λ l. l ∷ ended_lines [] rest) (sym (append-nil begun))
line_ends begun (b ∷ line) rest none =
    let parts = or_parts (b == 10) (has_feed line) none in
    ap (λ c. cond c (begun ∷ ended_lines [] (line ++ 10 ∷ rest)) (ended_lines (begun ++ b ∷ []) (line ++ 10 ∷ rest))) parts.0
    ∙ (line_ends (begun ++ b ∷ []) line rest parts.1 ∙ ap (λ l. l ∷ ended_lines [] rest) (append_assoc begun (b ∷ []) line))
