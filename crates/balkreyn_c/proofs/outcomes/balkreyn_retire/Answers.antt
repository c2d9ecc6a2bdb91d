use Rattle.balkreyn_c.proofs.Lemmas.{◌∙◌, Some, ap, sym, to_z-of_z, w64}
use Rattle.balkreyn_c.proofs.Acted.{let_go}
use Rattle.balkreyn_c.proofs.outcomes.balkreyn_retire.Goals as goal

pub returns : goal.returns
returns c =
    let there = c.in-Ok.ensures.realm ∙ ap Some (sym c.deref_mut.ensures.value) in
    let left = c.let_go.ensures in
    let number = to_z-of_z {w = w64} (record { sfits = c.retired-answer.type_inv }) ∙ c.retired-answer.ensures in
    let_go c.args.book.now.place.held _ c.deref_mut.result.now c.deref_mut-2.result.now c.let_go.new.self c.retire.new.self c.args.actor c.retire.result _ there c.retire.ensures c.deref_mut-2.ensures.value left.realm left.times number c.put.ensures.holds
