use Rattle.std.specs.Prelude.{◌≡◌, ◌⊎◌}
use Rattle.scopectl.specs.{CameFrom, Err, OfNotes, ProgramFault, Write, false, true}
use Rattle.scopectl.proofs.Words.{◌∙◌, ap, refl, subst, sym}
use Rattle.scopectl.proofs.Jobs.{came_of_noted, made, noted_kept, read_no_memory, shown_as, sound_noted, view_noted, view_stopped, view_told_part, write_no_memory}
use Rattle.scopectl.proofs.act.show_noted.Goals as goal

pub returns-in-Ok-clause-done : goal.returns-in-Ok-clause-done
returns-in-Ok-clause-done g c =
    λ e. view_noted _ _ _ _ c.args.view c.args.lenient (c.tell_shown.ensures.told e) _ _ c.shown_noted.ensures.unwritten (c.tell_shown.ensures.done e) (g.E.Write.contents c.shown_noted.new.errors.inner)
    (noted_kept c.args.script.quiet c.in-Ok.shown.count (c.tell_shown.new.errors ≡ c.shown_noted.new.errors) (g.E.Write.contents c.tell_shown.new.errors.inner ≡ g.E.Write.contents c.shown_noted.new.errors.inner) (g.E.Write.contents c.shown_noted.new.errors.inner) (g.E.Write.contents c.tell_shown.new.errors.inner) c.tell_shown.new.errors.failed (λ kept. cc) (c.tell_shown.ensures.noted e))
    (shown_as _ _ _ _ _ _ _ c.view_of.ensures c.in-Ok.ensures.ok)

pub returns-in-Ok-clause-fault : goal.returns-in-Ok-clause-fault
returns-in-Ok-clause-fault g c =
    λ e. view_told_part c.args.view _ c.args.lenient true _ _ _ (made c.args.view c.args.script c.args.lenient true _ _ _ _ (shown_as _ _ _ _ _ _ _ c.view_of.ensures c.in-Ok.ensures.ok)) c.shown_noted.ensures.unwritten (c.tell_shown.ensures.fault e) (c.tell_shown.ensures.failed e)

pub returns-in-Err-clause-fault : goal.returns-in-Err-clause-fault
returns-in-Err-clause-fault g c = λ e. view_stopped c.args.view _ c.args.lenient true _ c.in-Err.ensures.part c.shown_noted.ensures.unwritten

pub returns-in-Ok-clause-named : goal.returns-in-Ok-clause-named
returns-in-Ok-clause-named g c = λ e. record {
  wanted = refl;
  noted = g.E.Write.contents c.shown_noted.new.errors.inner;
  names = record { fault = Write; came = c.tell_shown.ensures.failed e; line = c.tell_shown.ensures.named e };
}

pub returns-in-Err-clause-named : goal.returns-in-Err-clause-named
returns-in-Err-clause-named g c = λ e. record {
  wanted = refl;
  noted = g.E.Write.contents c.shown_noted.new.errors.inner;
  names = record {
    fault = c.of_noted.result;
    came = subst (λ (f : ProgramFault). CameFrom f ((c.shown_noted.new.reader.failed ≡ true) ⊎ (c.shown_noted.new.reader.reads ≡ 18446744073709551615)) (c.shown_noted.new.writer.failed ≡ true) ((c.shown_noted.new.reader.failed ≡ false) × (c.shown_noted.new.writer.failed ≡ false)) (OfNotes (c.fail.new.errors.failed ≡ true))) (sym c.of_noted.ensures)
        (came_of_noted c.in-Err.reason _ _ _ _ (λ is. c.shown_noted.ensures.read (c.in-Err.is ∙ ap Err is)) (λ is. c.shown_noted.ensures.write (c.in-Err.is ∙ ap Err is))
        (λ is. (sound_noted _ _ _ _ c.in-Err.is c.shown_noted.ensures.read_failed is read_no_memory, sound_noted _ _ _ _ c.in-Err.is c.shown_noted.ensures.write_failed is write_no_memory))
        (λ is. c.fail.ensures.stays (c.shown_noted.ensures.notes (c.in-Err.is ∙ ap Err is))));
    line = c.fail.ensures.named;
  };
}
