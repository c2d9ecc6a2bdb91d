use Rattle.std.specs.Prelude.{◌++◌, ◌≡◌, ◌⊎◌}
use Rattle.scopectl.specs.{CameFrom, IsBadLine, ProgramFault, false, true}
use Rattle.scopectl.proofs.Words.{◌∙◌, Consumes-trans, arith, subst, sym, take}
use Rattle.scopectl.proofs.Quoted.{at_end, bad_at_end, bad_early}
use Rattle.scopectl.proofs.quoting.read_from.Goals as goal

pub reading-preserved : goal.reading-preserved
reading-preserved g c =
    let so = c.reading.invariant.so_far in
    record {
      so_far = (so.0 ++ take c.in-Ok.count c.read_piece.new.piece, Consumes-trans _ _ _ _ _ so.1 c.in-Ok.ensures.bytes, c.in-Ok-take.ensures.taken so.0 so.2);
      room = omega (arith, c.read_piece.ensures.same_room, c.reading.invariant.room);
      sound = c.in-Ok.ensures.unfailed ∙ c.reading.invariant.sound;
    }

pub returns-in-Err-clause-came : goal.returns-in-Err-clause-came
returns-in-Err-clause-came g c =
    let so = c.reading.invariant.so_far in
    subst (λ (f : ProgramFault). CameFrom f ((c.read_piece.new.self.failed ≡ true) ⊎ (c.read_piece.new.self.reads ≡ 18446744073709551615)) ⊥ (c.read_piece.new.self.failed ≡ false) (IsBadLine (g.R.Read.remaining c.args.reader.now.inner) (g.R.Read.remaining c.read_piece.new.self.inner))) (sym c.of_plan.ensures)
    (bad_at_end _ _ so.0 (at_end _ _ _ so.0 c.read_piece.new.piece c.in-Ok.count c.if-count-eq0.true so.1 c.in-Ok.ensures.bytes) _ _ (c.in-Ok.ensures.unfailed ∙ c.reading.invariant.sound) c.in-Err.fault (c.in-Ok.ensures.end c.if-count-eq0.true) (c.in-Err.ensures so.0 so.2))

pub returns-in-Err-take-clause-part : goal.returns-in-Err-take-clause-part
returns-in-Err-take-clause-part g c = record { bytes = _; read = Consumes-trans _ _ _ _ _ c.reading.invariant.so_far.1 c.in-Ok.ensures.bytes }

pub returns-in-Err-take-clause-came : goal.returns-in-Err-take-clause-came
returns-in-Err-take-clause-came g c =
    let so = c.reading.invariant.so_far in
    subst (λ (f : ProgramFault). CameFrom f ((c.read_piece.new.self.failed ≡ true) ⊎ (c.read_piece.new.self.reads ≡ 18446744073709551615)) ⊥ (c.read_piece.new.self.failed ≡ false) (IsBadLine (g.R.Read.remaining c.args.reader.now.inner) (g.R.Read.remaining c.read_piece.new.self.inner))) (sym c.of_plan-in-Err-take.ensures)
    (bad_early _ _ (so.0 ++ take c.in-Ok.count c.read_piece.new.piece) (Consumes-trans _ _ _ _ _ so.1 c.in-Ok.ensures.bytes) _ _ (c.in-Ok.ensures.unfailed ∙ c.reading.invariant.sound) c.in-Err-take.fault (c.in-Err-take.ensures.bad so.0 so.2))
