-- The text of what was sent is that of the tree.
use Rattle.tree_dump.specs.{dump_data, dump_text}
use Rattle.tree_dump.proofs.Lemmas.{string_bytes, text_of_value}
use Rattle.tree_dump.proofs.Floats.{dump_whole}
use Rattle.tree_dump.proofs.walk.dump_of.Goals as goal

pub returns-in-Ok : goal.returns-in-Ok
unfolding dump_text
returns-in-Ok g c =
    let h = g.R.Readings.history c.args.readings.now in
    let sent = c.in-Ok.ensures.events in
    text_of_value (dump_data h) sent.0 (string_bytes c.in-Ok.text) sent.1 sent.2 (dump_whole h)
