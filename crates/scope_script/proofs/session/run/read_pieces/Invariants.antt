-- All that was read so far was answered, and no stream has failed.
use Rattle.std.proofs.Common.{[], ◌-◌, ◌<◌, ◌≡◌, false, length}
use Rattle.scope_script.specs.{Limits, session_of, the_beginning}
use Rattle.scope_script.proofs.Progress.{UnderWay}
use Rattle.scope_script.proofs.session.run.read_pieces.Given as goal

abbrev pub decreases-reading : goal.decreases-reading
decreases-reading g l = 18446744073709551615 - l.reader.reads

abbrev pub invariant-reading : goal.invariant-reading
invariant-reading g l = record {
  run : (L : Limits) → session_of l.fn.script ≡ the_beginning L → UnderWay (g.R.Read.remaining l.fn.reader.inner) (g.R.Read.remaining l.reader.inner) (g.W.Write.contents l.fn.writer.inner) (g.W.Write.contents l.writer.inner) l.mode L (session_of l.script);
  room : 0 < length l.piece;
  sent : l.replies.items ≡ [];
  reads : l.reader.failed ≡ false;
  writes : l.writer.failed ≡ false;
}
