-- The text of what was sent is that of the tree.
use Rattle.tree_dump.specs.{clock_of, timed_dump_data, timed_dump_text}
use Rattle.tree_dump.proofs.Lemmas.{string_bytes, text_of_value}
use Rattle.tree_dump.proofs.Floats.{timed_whole}
use Rattle.tree_dump.proofs.timed.timed_dump.Goals as goal

pub returns-in-Ok : goal.returns-in-Ok
unfolding timed_dump_text
returns-in-Ok g c =
    let h = g.R.Readings.history c.args.readings.now in
    let clock = clock_of c.args.ages.now in
    let sent = c.in-Ok.ensures.events in
    text_of_value (timed_dump_data c.args.limits clock h) sent.0 (string_bytes c.in-Ok.text) sent.1 sent.2 (timed_whole c.args.limits clock h)
