-- What is not so already is recorded.
use Rattle.realm_core.proofs.Words.{refl}
use Rattle.realm_core.proofs.Performed.{told_records}
use Rattle.realm_core.proofs.events.done.Goals as goal

pub returns : goal.returns
returns g c =
    let h = c.args.realm.now.history in
    (rw c.in_ok-perform.ensures.0.0 refl, rw (told_records h c.args.event.now c.in_ok-perform.field-0 (c.requires.new h) c.in_ok-perform.ensures.0.1) at c.in_ok-perform.ensures.1)
