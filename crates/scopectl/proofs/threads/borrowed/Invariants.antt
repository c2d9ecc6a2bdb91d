-- The words so far are borrowed.
use Rattle.std.specs.Prelude.{◌≡◌}
use Rattle.scopectl.specs.{map, string_bytes}
use Rattle.scopectl.proofs.Words.{take}
use Rattle.scopectl.proofs.threads.borrowed.Given as goal

abbrev pub invariant-loop-word : goal.invariant-loop-word
invariant-loop-word l = map (λ word. word.now) l.words.items ≡ map string_bytes (take l.word-index l.owned)
