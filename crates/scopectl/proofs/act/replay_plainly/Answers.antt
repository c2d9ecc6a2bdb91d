use Rattle.std.specs.Prelude.{◌≡◌, ◌⊎◌}
use Rattle.scopectl.specs.{CameFrom, Err, ProgramFault, false, true}
use Rattle.scopectl.proofs.Words.{◌∙◌, ap, subst, sym}
use Rattle.scopectl.proofs.Jobs.{came_of, read_is_other, replay_whole, replayed_part, sound_at, write_is_other}
use Rattle.scopectl.proofs.act.replay_plainly.Goals as goal

pub returns-in-Ok-clause-done : goal.returns-in-Ok-clause-done
returns-in-Ok-clause-done g c = λ e. replay_whole _ _ _ _ c.note.ensures.status c.note.ensures.noted c.in-Ok.ensures.ok

pub returns-clause-fault : goal.returns-clause-fault
returns-clause-fault g c = λ explain trace e. replayed_part _ explain trace _ c.in-Err.ensures.fault

pub returns-clause-named : goal.returns-clause-named
returns-clause-named g c = λ e. record {
  fault = c.of_run.result;
  came = subst (λ (f : ProgramFault). CameFrom f ((c.replayed.new.reader.failed ≡ true) ⊎ (c.replayed.new.reader.reads ≡ 18446744073709551615)) (c.replayed.new.writer.failed ≡ true) ((c.replayed.new.reader.failed ≡ false) × (c.replayed.new.writer.failed ≡ false)) (λ _. ⊥)) (sym c.of_run.ensures)
      (came_of c.in-Err.fault _ _ _ _ (λ is. c.replayed.ensures.read (c.in-Err.is ∙ ap Err is)) (λ is. c.replayed.ensures.write (c.in-Err.is ∙ ap Err is))
      (λ is. (sound_at _ _ _ _ c.in-Err.is c.replayed.ensures.read_failed is read_is_other, sound_at _ _ _ _ c.in-Err.is c.replayed.ensures.write_failed is write_is_other)));
  line = c.fail.ensures.named;
}
