-- Each step of the search for the number is one of those in `Openings`.
use Rattle.std.specs.Prelude.{◌<◌}
use Rattle.scope_model.specs.{is_some, length}
use Rattle.scope_model.proofs.Words.{◌∙◌, ap, arith, searched_all, searched_at, searched_found, searched_other, searched_wrong, sym}
use Rattle.scope_model.proofs.scan.history.find_numbered.Goals.{in-Some+else-given-wanted, in_default}
use Rattle.scope_model.proofs.scan.history.find_numbered.Goals as goal

pub loop-place-init : goal.loop-place-init
loop-place-init g c = searched_at g.R.Numbered.kind g.R.Numbered.shown _ _ _ _ c.from-given.ensures

pub returns-then-given-wanted-clause-found : goal.returns-then-given-wanted-clause-found
returns-then-given-wanted-clause-found g c =
    let within : c.loop-place.place < length c.args.view.now.events = omega (arith, c.len-place-end.ensures.count) in
    let found = searched_found g.R.Numbered.kind g.R.Numbered.shown _ _ _ _ _ _ _ c.loop-place.invariant c.event.ensures (sym c.in-Some.ensures.shows) c.if-given-wanted.true within in
    sym (rw c.from-wanted.ensures at found)

pub loop-place-preserved : goal.loop-place-preserved
loop-place-preserved g c =
    elim c.match-shown_by.branch [
      | in-Some+else-given-wanted w ↦ rw w.given-is (searched_wrong g.R.Numbered.kind g.R.Numbered.shown _ _ _ _ _ _ c.loop-place.invariant c.event.ensures (sym w.in-Some.ensures.kind) w.if-given-wanted.false)
      | in_default w ↦ rw w.given-is (searched_other g.R.Numbered.kind g.R.Numbered.shown _ _ _ _ _ _ c.loop-place.invariant c.event.ensures (sym c.shown_by.ensures.shows ∙ w.in_default.is) (sym c.shown_by.ensures.kind ∙ ap is_some w.in_default.is))
    ]

pub returns-clause-found : goal.returns-clause-found
returns-clause-found g c =
    let none = searched_all g.R.Numbered.kind g.R.Numbered.shown _ _ _ _ _ c.loop-place.invariant (omega (arith, c.len-place-end.ensures.count)) in
    sym (rw c.from-wanted.ensures at none)
