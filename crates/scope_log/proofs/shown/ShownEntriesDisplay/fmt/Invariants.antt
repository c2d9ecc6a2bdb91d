-- The lines of the entries before the index were written.
use Rattle.scope_log.specs.{HasWritten, IsPlainFormatter, lines_text}
use Rattle.scope_log.proofs.Words.{take}
use Rattle.scope_log.proofs.shown.ShownEntriesDisplay.fmt.Given as goal

abbrev pub invariant-loop-entry : goal.invariant-loop-entry
invariant-loop-entry g l =
    IsPlainFormatter l.fn.f → HasWritten g.W.Write.write_str_gives l.fn.f (lines_text l.self.scope (take l.entry-index l.self.entries.now)) l.f
