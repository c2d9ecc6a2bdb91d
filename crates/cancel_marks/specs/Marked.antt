-- What a mark says.
use Rattle.cancel_marks.specs.declared.cancellation.Cancellation.{Cancellation}
use Rattle.cancel_marks.specs.declared.marks.Mark.{Mark}

-- why the mark's scope became cancelled, and where
abbrev pub said_by : Mark → Cancellation
said_by mark = record { cause = mark.cause; number = mark.number }
