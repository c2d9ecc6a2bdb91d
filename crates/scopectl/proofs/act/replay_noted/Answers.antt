use Rattle.std.specs.Prelude.{◌≡◌, ◌⊎◌}
use Rattle.scopectl.specs.{CameFrom, Err, OfNotes, ProgramFault, false, true}
use Rattle.scopectl.proofs.Words.{◌∙◌, ap, subst, sym}
use Rattle.scopectl.proofs.Jobs.{came_of_noted, noted_kept, notes_are, read_no_memory, replay_noted, replayed_part, sound_noted, write_no_memory}
use Rattle.scopectl.proofs.act.replay_noted.Goals as goal

pub returns-in-Ok-clause-done : goal.returns-in-Ok-clause-done
returns-in-Ok-clause-done g c =
    λ e. replay_noted _ _ _ _ c.note.ensures.status _ (g.E.Write.contents c.replayed_noted.new.errors.inner)
    (noted_kept c.args.script.quiet c.in-Ok.count (c.note.new.errors ≡ c.replayed_noted.new.errors) (g.E.Write.contents c.note.new.errors.inner ≡ g.E.Write.contents c.replayed_noted.new.errors.inner) (g.E.Write.contents c.replayed_noted.new.errors.inner) (g.E.Write.contents c.note.new.errors.inner) c.note.new.errors.failed (λ kept. cc) c.note.ensures.noted) c.in-Ok.ensures.ok

pub returns-in-Err-clause-fault : goal.returns-in-Err-clause-fault
returns-in-Err-clause-fault g c = λ explain trace e. replayed_part _ explain trace _ c.in-Err.ensures.fault

pub returns-in-Err-clause-named : goal.returns-in-Err-clause-named
returns-in-Err-clause-named g c = λ e explain trace same. record {
  wanted = notes_are explain trace c.args.notes same;
  noted = g.E.Write.contents c.replayed_noted.new.errors.inner;
  names = record {
    fault = c.of_noted.result;
    came = subst (λ (f : ProgramFault). CameFrom f ((c.replayed_noted.new.reader.failed ≡ true) ⊎ (c.replayed_noted.new.reader.reads ≡ 18446744073709551615)) (c.replayed_noted.new.writer.failed ≡ true) ((c.replayed_noted.new.reader.failed ≡ false) × (c.replayed_noted.new.writer.failed ≡ false)) (OfNotes (c.fail.new.errors.failed ≡ true))) (sym c.of_noted.ensures)
        (came_of_noted c.in-Err.reason _ _ _ _ (λ is. c.replayed_noted.ensures.read (c.in-Err.is ∙ ap Err is)) (λ is. c.replayed_noted.ensures.write (c.in-Err.is ∙ ap Err is))
        (λ is. (sound_noted _ _ _ _ c.in-Err.is c.replayed_noted.ensures.read_failed is read_no_memory, sound_noted _ _ _ _ c.in-Err.is c.replayed_noted.ensures.write_failed is write_no_memory))
        (λ is. c.fail.ensures.stays (c.replayed_noted.ensures.notes (c.in-Err.is ∙ ap Err is))));
    line = c.fail.ensures.named;
  };
}
