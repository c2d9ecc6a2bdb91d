use Rattle.std.specs.Prelude.{◌≡◌, ◌⊎◌}
use Rattle.scopectl.specs.{CameFrom, Err, ProgramFault, Write, false, true}
use Rattle.scopectl.proofs.Words.{◌∙◌, ap, subst, sym}
use Rattle.scopectl.proofs.Jobs.{came_of, made, read_is_other, shown_as, sound_at, view_stopped, view_told_part, view_whole, write_is_other}
use Rattle.scopectl.proofs.act.show_plainly.Goals as goal

pub returns-in-Ok-clause-done : goal.returns-in-Ok-clause-done
returns-in-Ok-clause-done g c =
    λ e. view_whole _ _ _ _ c.args.view c.args.lenient (c.tell_shown.ensures.told e) _ _ c.shown.ensures.unwritten (c.tell_shown.ensures.done e) (c.tell_shown.ensures.noted e) (shown_as _ _ _ _ _ _ _ c.view_of.ensures c.in-Ok.ensures.ok)

pub returns-in-Ok-clause-fault : goal.returns-in-Ok-clause-fault
returns-in-Ok-clause-fault g c =
    λ e. view_told_part c.args.view _ c.args.lenient false _ _ _ (made c.args.view c.args.script c.args.lenient false _ _ _ _ (shown_as _ _ _ _ _ _ _ c.view_of.ensures c.in-Ok.ensures.ok)) c.shown.ensures.unwritten (c.tell_shown.ensures.fault e) (c.tell_shown.ensures.failed e)

pub returns-in-Err-clause-fault : goal.returns-in-Err-clause-fault
returns-in-Err-clause-fault g c = λ e. view_stopped c.args.view _ c.args.lenient false _ c.in-Err.ensures.part c.shown.ensures.unwritten

pub returns-in-Ok-clause-named : goal.returns-in-Ok-clause-named
returns-in-Ok-clause-named g c =
    λ e. record { fault = Write; came = c.tell_shown.ensures.failed e; line = c.tell_shown.ensures.named e }

pub returns-in-Err-clause-named : goal.returns-in-Err-clause-named
returns-in-Err-clause-named g c = λ e. record {
  fault = c.of_run.result;
  came = subst (λ (f : ProgramFault). CameFrom f ((c.shown.new.reader.failed ≡ true) ⊎ (c.shown.new.reader.reads ≡ 18446744073709551615)) (c.shown.new.writer.failed ≡ true) ((c.shown.new.reader.failed ≡ false) × (c.shown.new.writer.failed ≡ false)) (λ _. ⊥)) (sym c.of_run.ensures)
      (came_of c.in-Err.cause _ _ _ _ (λ is. c.shown.ensures.read (c.in-Err.is ∙ ap Err is)) (λ is. c.shown.ensures.write (c.in-Err.is ∙ ap Err is))
      (λ is. (sound_at _ _ _ _ c.in-Err.is c.shown.ensures.read_failed is read_is_other, sound_at _ _ _ _ c.in-Err.is c.shown.ensures.write_failed is write_is_other)));
  line = c.fail.ensures.named;
}
