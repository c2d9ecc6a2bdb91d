use Rattle.scope_script.proofs.Feeds.{cut_at}
use Rattle.scope_script.proofs.session.cutting.first_line.Goals as goal

pub returns : goal.returns
returns c =
    rw (c.split_at.ensures.front, c.split_at-2.ensures.back) (cut_at c.args.bytes.now c.in_ok-end.end c.in_ok-end.ensures.0 c.in_ok-end.ensures.1)
