use Rattle.script_words.proofs.Lemmas.{arith}
use Rattle.script_words.proofs.FieldSteps.{next_some}
use Rattle.script_words.proofs.fields.next_field.Goals as goal

pub returns : goal.returns
returns c =
    next_some c.args.text.now c.without_spaces-text.result.now _ _ c.field_len.result c.without_spaces-text.ensures.is (grind arith) c.field_len.ensures.value c.split_at.ensures.front c.split_at.ensures.back
