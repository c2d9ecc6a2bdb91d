use Rattle.std.proofs.Common.{◌≡◌, ◌≤◌, length}
use Rattle.script_words.specs.{without_spaces}
use Rattle.script_words.proofs.fields.without_spaces.Given as goal

abbrev pub invariant-loop-rest : goal.invariant-loop-rest
invariant-loop-rest l = record {
  same : without_spaces l.rest ≡ without_spaces l.text;
  within : length l.rest ≤ length l.text;
}

abbrev pub decreases-loop-rest : goal.decreases-loop-rest
decreases-loop-rest l = length l.rest
