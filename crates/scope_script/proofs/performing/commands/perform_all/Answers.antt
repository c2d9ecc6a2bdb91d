use Rattle.scope_script.specs.{Realm, realm_after, realm_of}
use Rattle.scope_script.proofs.Lemmas.{◌∙◌, ap, length, refl, slice_get_read, sym}
use Rattle.scope_script.proofs.Runs.{realm_after_at, stops_at}
use Rattle.scope_script.proofs.performing.commands.perform_all.Goals as goal

pub loop-command-preserved : goal.loop-command-preserved
loop-command-preserved g c =
    c.in-Ok.ensures.performs.realm ∙ (ap (λ (r : Realm). realm_after r c.command-item.result) c.loop-command.invariant
    ∙ sym (realm_after_at (realm_of c.args.book.now) c.args.commands.now c.loop-command.command-index c.command-item.result
    (slice_get_read c.args.commands.now (length c.args.commands.now) c.loop-command.command-index c.command-item.result refl c.loop-command-test.true c.command-item.is)))

pub returns-in-Err-clause-stopped : goal.returns-in-Err-clause-stopped
returns-in-Err-clause-stopped g c =
    stops_at (realm_of c.args.book.now) _ _ c.args.commands.now c.loop-command.command-index c.command-item.result
    (slice_get_read c.args.commands.now (length c.args.commands.now) c.loop-command.command-index c.command-item.result refl c.loop-command-test.true c.command-item.is)
    c.loop-command.invariant c.in-Err.ensures.stopped
