-- A line of four numbers, which is put together from the left.
use Rattle.std.proofs.Common.{[], ℕ, ◌++◌, ◌∙◌, ◌∷◌, ◌≡◌, List, ap, append_assoc}
use Rattle.script_words.proofs.reply_lines.push_counts.Goals as goal

-- words and a number more
longer : (old line words number before after : List ℕ) → before ≡ old ++ line → after ≡ before ++ words ++ number → after ≡ old ++ (line ++ words ++ number)
longer old line words number before after so_far is =
    is ∙ (ap (λ l. l ++ words ++ number) so_far ∙ (ap (λ l. l ++ number) (append_assoc old line words) ∙ append_assoc old (line ++ words) number))

pub returns : goal.returns
returns c =
    let old = c.args.text.now.items in
    let first = c.push_count.ensures.bytes ∙ append_assoc old _ _ in
    let second = longer old _ _ _ _ _ first c.push_count-2.ensures.bytes in
    let third = longer old _ _ _ _ _ second c.push_count-3.ensures.bytes in
    let fourth = longer old _ _ _ _ _ third c.push_count-4.ensures.bytes in
    c.push_bytes.ensures.bytes ∙ ap (λ l. l ++ 10 ∷ []) fourth
