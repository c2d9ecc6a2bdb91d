use Rattle.std.proofs.Common.{◌++◌, ◌∙◌, ap, append_assoc, sym, take}
use Rattle.scope_script.proofs.Lemmas.{Appends-trans, take-append-drop}
use Rattle.scope_script.proofs.streams.watched.Watched.write_bytes.Goals as goal

pub loop-rest-preserved : goal.loop-rest-preserved
loop-rest-preserved g c =
    let done = c.loop-rest.invariant.0 in
    let piece = take c.in-Ok.count c.loop-rest.rest.now in
    let left = c.split_at.result.1.now in (
      done ++ piece,
      c.loop-rest.invariant.1 ∙ (ap (λ bs. done ++ bs) (sym (take-append-drop c.in-Ok.count c.loop-rest.rest.now) ∙ ap (λ bs. piece ++ bs) (sym c.split_at.ensures.back)) ∙ sym (append_assoc done piece left)),
      Appends-trans _ _ _ done piece c.loop-rest.invariant.2 c.in-Ok.ensures.bytes,
      c.loop-rest.invariant.3,
    )
