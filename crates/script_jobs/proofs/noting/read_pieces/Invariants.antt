-- All that was read so far was answered, and no stream has failed.
use Rattle.std.specs.Prelude.{◌-◌, ◌<◌, ◌≡◌}
use Rattle.script_jobs.specs.{[], Limits, Replies, false, length, plain_of, the_beginning}
use Rattle.script_jobs.proofs.Words.{UnderWay}
use Rattle.script_jobs.proofs.noting.read_pieces.Given as goal

abbrev pub decreases-reading : goal.decreases-reading
decreases-reading g l = 18446744073709551615 - l.reader.reads

abbrev pub invariant-reading : goal.invariant-reading
invariant-reading g l = record {
  run : (L : Limits) → plain_of l.fn.script ≡ the_beginning L → UnderWay (g.R.Read.remaining l.fn.reader.inner) (g.R.Read.remaining l.reader.inner) (g.W.Write.contents l.fn.writer.inner) (g.W.Write.contents l.writer.inner) Replies L (plain_of l.script);
  room : 0 < length l.piece;
  replied : l.replies.items ≡ [];
  reads : l.reader.failed ≡ false;
  writes : l.writer.failed ≡ false;
  says : l.errors.failed ≡ l.fn.errors.failed;
}
