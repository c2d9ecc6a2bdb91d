-- The lines before the index were written.
use Rattle.script_journal.specs.{HasWritten, IsPlainFormatter, pairs_text}
use Rattle.script_journal.proofs.Lemmas.{take}
use Rattle.script_journal.proofs.script.ShownBindsDisplay.fmt.Given as goal

abbrev pub invariant-loop-pair : goal.invariant-loop-pair
invariant-loop-pair g l =
    IsPlainFormatter l.fn.f → HasWritten g.W.Write.write_str_gives l.fn.f (pairs_text (take l.pair-index l.self.0.now)) l.f
