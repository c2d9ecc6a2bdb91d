-- The levels so far were written.
use Rattle.tree_dump.specs.{HasWritten, IsPlainFormatter, indent}
use Rattle.tree_dump.proofs.text_lines.IndentDisplay.fmt.Given as goal

abbrev pub invariant-loop-level : goal.invariant-loop-level
invariant-loop-level g l =
    IsPlainFormatter l.fn.f → HasWritten g.W.Write.write_str_gives l.fn.f (indent l._level) l.f
