-- What is kept of a line that is begun.
use Rattle.std.specs.Prelude.{◌&&◌, ◌++◌, ◌<◌, ◌==◌, ◌∷◌, ◌≡◌, if◌then◌else◌}
use Rattle.quote_plan.specs.Words.{[], ℕ, Bool, LINE_LIMIT, List, length, list_any, not}
use Rattle.quote_plan.specs.PlanWhys.{is_return, is_tab}

-- what is kept stands for the line: it is the line, or both are too long, and have carriage returns and tabs alike
pub data StandsFor (kept line : List ℕ) : Type 0 where
  same : kept ≡ line → StandsFor kept line
  long : LINE_LIMIT < length kept → LINE_LIMIT < length line → list_any is_return kept ≡ list_any is_return line → list_any is_tab kept ≡ list_any is_tab line → StandsFor kept line

-- one of them is the byte
abbrev pub has_byte : ℕ → List ℕ → Bool
has_byte byte bytes = list_any (λ b. b == byte) bytes

-- what is kept, and the byte behind it, if it is one of the others and was not kept before
abbrev pub with_byte : ℕ → (kept others : List ℕ) → List ℕ
with_byte byte kept others = if has_byte byte others && not (has_byte byte kept) then kept ++ byte ∷ [] else kept
