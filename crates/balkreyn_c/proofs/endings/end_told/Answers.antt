use Rattle.balkreyn_c.specs.{Ends}
use Rattle.balkreyn_c.proofs.Lemmas.{ℤ, ◌∙◌, Some, ap, subst, sym, to_z-of_z, w64}
use Rattle.balkreyn_c.proofs.Told.{told}
use Rattle.balkreyn_c.proofs.endings.end_told.Goals as goal

pub returns : goal.returns
returns c =
    let did = c.end-answer in
    let was = c.args.news.now in
    let old = c.deref_mut.result.now in
    let there = c.in-Ok.ensures.realm ∙ ap Some (sym c.deref_mut.ensures.value) in
    let back = to_z-of_z {w = w64} {z = did.result} (record { sfits = did.type_inv }) in
    let Q : ℤ → Type 0 = λ n. Ends old.realm c.in-Some.event c.args.task n did.new.realm was did.new.news in
    rw c.in-Some.is (told c.args.book.now.place.held _ old did.new.realm c.in-Some.event c.args.task _ was did.new.news there (subst Q (sym back) did.ensures) c.put-2.ensures.holds)
