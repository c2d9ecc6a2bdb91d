-- A line that was put together in place.
use Rattle.std.proofs.Common.{[], ℕ, ◌++◌, ◌∙◌, ◌∷◌, ◌≡◌, List, ap, length, pos, w64}
use Rattle.balkreyn_c.specs.{ArrayString, reply_text, text_in}
use Rattle.balkreyn_c.proofs.Lemmas.{contents_after_writes, to_z-of_z}
use Rattle.balkreyn_c.proofs.text.write_line.Goals as goal

pub returns-in-Ok : goal.returns-in-Ok
returns-in-Ok c =
    let said = reply_text c.args.reply.now in
    let written = contents_after_writes _ (λ (l : ArrayString 96). l.bytes) (λ _ _ _ h. h) _ _ _ c.in-Ok.ensures.writes in
    let line : c.as_bytes.result.now ≡ said ++ 10 ∷ [] =
    c.as_bytes.ensures.value ∙ (c.deref.ensures.0 ∙ (written ∙ ap (λ front. front ++ (said ++ 10 ∷ [])) c.new-line.ensures)) in
    record {
      number = to_z-of_z {w = w64} (record { sfits = c.write_text.type_inv }) ∙ (c.write_text.ensures.answer ∙ ap (λ (l : List ℕ). pos (length l)) line);
      written = c.write_text.ensures.text ∙ ap (λ (l : List ℕ). text_in l c.args.buffer.now) line;
    }
