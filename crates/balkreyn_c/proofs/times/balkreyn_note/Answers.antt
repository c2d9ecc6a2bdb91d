use Rattle.balkreyn_c.proofs.Lemmas.{◌∙◌, Some, ap, sym, to_z-of_z, w64}
use Rattle.balkreyn_c.proofs.Acted.{took_time}
use Rattle.balkreyn_c.proofs.times.balkreyn_note.Goals as goal

pub returns : goal.returns
returns c =
    let there = c.in-Ok.ensures.realm ∙ ap Some (sym c.deref_mut.ensures.value) in
    let number = to_z-of_z {w = w64} (record { sfits = c.noted-answer.type_inv }) ∙ c.noted-answer.ensures in
    took_time c.args.book.now.place.held _ c.deref_mut.result.now c.note.new.self c.args.now c.note.result _ there c.note.ensures.realm c.note.ensures.times number c.put.ensures.holds
