-- The last row takes in one node after the other, or a new one begins.
use Rattle.std.specs.Prelude.{◌∷◌}
use Rattle.run_picture.specs.{StandFor, class_of}
use Rattle.run_picture.proofs.Lemmas.{◌∙◌, ap, slice_get-get_or, subst, take_all}
use Rattle.run_picture.proofs.Folding.{begins_next, last_begins, last_stands, takes_next}
use Rattle.run_picture.proofs.rows.folded_rows.Goals as goal
use Rattle.run_picture.proofs.rows.folded_rows.Goals.{in-Some, in-None+in_ok-push-in-None}

pub loop-one-init : goal.loop-one-init
loop-one-init c = last_begins (class_of c.args.columns.now) c.new-rows.result.items c.begun-last.result c.args.first c.class_of.result c.new-rows.ensures.items c.class_of.ensures c.begun-last.ensures

pub loop-one-preserved : goal.loop-one-preserved
loop-one-preserved c =
    let of = class_of c.args.columns.now in
    let i = c.loop-one.one-index in
    let at = slice_get-get_or c.args.others.now i _ c.loop-one-test.true in
    elim c.match-taken_in.branch [
      | in-Some w ↦ takes_next of c.loop-one.rows.items c.match-taken_in.rows.items c.loop-one.last c.match-taken_in.last w.in-Some.taken c.args.first c.args.others.now i _ c.class_of-class.result c.taken_in.result at c.loop-one.invariant c.requires c.class_of-class.ensures c.taken_in.ensures w.in-Some.is (ap (λ v. v.items) w.rows-is) w.last-is
      | in-None+in_ok-push-in-None w ↦ begins_next of _ c.loop-one.rows.items c.match-taken_in.rows.items c.loop-one.last c.match-taken_in.last c.args.first c.args.others.now i _ c.class_of-class.result at c.loop-one.invariant c.class_of-class.ensures (ap (λ v. v.items) w.rows-is ∙ w.in_ok-push-in-None.ensures.items) (w.last-is ∙ w.begun-last-in-None.ensures)
    ]

pub returns : goal.returns
returns c =
    let of = class_of c.args.columns.now in
    let all = last_stands of c.loop-one.rows.items c.push-2.new.self.items c.loop-one.last _ c.loop-one.invariant c.in_ok-push.ensures.items in
    subst (λ l. StandFor of c.push-2.new.self.items (c.args.first ∷ l)) (take_all c.loop-one.one-index c.args.others.now c.loop-one-test.false) all
