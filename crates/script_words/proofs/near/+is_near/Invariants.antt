use Rattle.script_words.proofs.Lemmas.{length}
use Rattle.script_words.proofs.near.+is_near.Given as goal

abbrev pub decreases-is_near : goal.decreases-is_near
decreases-is_near l = length l.name.now
