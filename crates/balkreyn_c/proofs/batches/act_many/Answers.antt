use Rattle.balkreyn_c.specs.{Batched}
use Rattle.balkreyn_c.proofs.Lemmas.{ℤ, ◌∙◌, Some, ap, subst, sym, to_z-of_z, w64}
use Rattle.balkreyn_c.proofs.Repeats.{acted}
use Rattle.balkreyn_c.proofs.batches.act_many.Goals as goal

pub returns : goal.returns
returns c =
    let did = c.repeat-answer in
    let was = c.args.answers.now in
    let old = c.deref_mut.result.now in
    let there = c.in-Ok.ensures.realm ∙ ap Some (sym c.deref_mut.ensures.value) in
    let back = to_z-of_z {w = w64} {z = did.result} (record { sfits = did.type_inv }) in
    let Q : ℤ → Type 0 = λ n. Batched old.realm c.in-Some.event n did.new.realm was did.new.answers in
    rw c.in-Some.is (acted c.args.book.now.place.held _ old did.new.realm c.in-Some.event _ was did.new.answers there (subst Q (sym back) did.ensures) c.put-2.ensures.holds)
