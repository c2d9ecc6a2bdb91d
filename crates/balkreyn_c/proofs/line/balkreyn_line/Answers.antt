use Rattle.balkreyn_c.specs.{DoesLine, line_said}
use Rattle.balkreyn_c.proofs.Lemmas.{ℤ, ◌∙◌, Some, ap, subst, sym, to_z-of_z, w64}
use Rattle.balkreyn_c.proofs.Doors.{took}
use Rattle.balkreyn_c.proofs.line.balkreyn_line.Goals as goal

pub returns : goal.returns
returns c =
    let did = c.do_line-answer in
    let old = c.deref_mut.result.now in
    let there = c.in-Ok.ensures.realm ∙ ap Some (sym c.deref_mut.ensures.value) in
    let left = c.let_go.ensures in
    let back = to_z-of_z {w = w64} {z = did.result} (record { sfits = did.type_inv }) in
    let Q : ℤ → Type 0 = λ n. DoesLine old.realm (line_said c.args.line.now) n did.new.realm c.args.reply.now did.new.reply in
    took c.args.book.now.place.held _ old c.deref_mut-2.result.now c.let_go.new.self did.new.realm c.args.line.now _ c.args.reply.now did.new.reply there (subst Q (sym back) did.ensures) c.deref_mut-2.ensures.value left.realm left.times c.put.ensures.holds
