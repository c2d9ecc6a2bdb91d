use Rattle.balkreyn_c.proofs.Lemmas.{◌∙◌, Some, ap, sym, to_z-of_z, w64}
use Rattle.balkreyn_c.proofs.Acted.{tried}
use Rattle.balkreyn_c.proofs.acting.act.Goals as goal

pub returns : goal.returns
returns c =
    let old = c.deref_mut.result.now in
    let there = c.in-Ok.ensures.realm ∙ ap Some (sym c.deref_mut.ensures.value) in
    rw c.in-Some.is (tried c.args.book.now.place.held _ old c.perform.new.self c.in-Some.event c.perform.result _ there c.perform.ensures (to_z-of_z {w = w64} (record { sfits = c.told-answer.type_inv }) ∙ c.told-answer.ensures) c.put-2.ensures.holds)
