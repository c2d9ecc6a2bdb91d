-- What the rows that are left have beside the word, the whole table has beside it.
use Rattle.std.proofs.Common.{◌≡◌, length}
use Rattle.script_words.specs.{keyword_beside}
use Rattle.script_words.proofs.keywords.keyword_beside.Given as goal

abbrev pub invariant-loop-rows : goal.invariant-loop-rows
invariant-loop-rows g l = keyword_beside l.rows l.word ≡ keyword_beside l.table l.word

abbrev pub decreases-loop-rows : goal.decreases-loop-rows
decreases-loop-rows g l = length l.rows
