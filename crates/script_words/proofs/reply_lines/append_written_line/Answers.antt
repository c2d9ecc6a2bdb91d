-- A line that was put together in place.
use Rattle.std.proofs.Common.{[], ◌++◌, ◌∙◌, ◌∷◌, ◌≡◌, ap, append_assoc, rules, sym}
use Rattle.script_words.specs.{ArrayString, reply_text}
use Rattle.script_words.proofs.Lemmas.{contents_after_writes}
use Rattle.script_words.proofs.reply_lines.append_written_line.Goals as goal

pub returns-in-Ok-clause-ok : goal.returns-in-Ok-clause-ok
returns-in-Ok-clause-ok c =
    let old = c.args.text.now.items in
    let said = reply_text c.args.reply.now in
    let written = contents_after_writes _ (λ (l : ArrayString 96). l.bytes) (λ _ _ _ h. h) _ _ _ c.in-Ok.ensures.writes in
    let line : c.as_bytes.result.now ≡ said ++ 10 ∷ [] =
    c.as_bytes.ensures.value ∙ (c.deref.ensures.0 ∙ (written ∙ ap (λ front. front ++ (said ++ 10 ∷ [])) c.new-line.ensures)) in
    let whole : old ++ c.as_bytes.result.now ≡ old ++ said ++ 10 ∷ [] = ap (λ l. old ++ l) line ∙ sym (append_assoc old said (10 ∷ [])) in
    rw (sym whole) (search rules)
