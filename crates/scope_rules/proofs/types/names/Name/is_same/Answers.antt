-- Equal texts are equal names.
use Rattle.scope_rules.specs.{bytes_decides, text_of}
use Rattle.scope_rules.proofs.Words.{◌∙◌, Decides-at, ap, sym}
use Rattle.scope_rules.proofs.NameLemmas.{same_text}
use Rattle.scope_rules.proofs.types.names.Name.is_same.Goals as goal

pub returns-clause-same : goal.returns-clause-same
returns-clause-same c =
    let told = Decides-at _ _ c.eq.ensures (bytes_decides _ _) in
    (λ yes. same_text _ _ (sym c.as_bytes.ensures ∙ told.0 yes ∙ c.as_bytes-2.ensures), λ same. told.1 (c.as_bytes.ensures ∙ ap text_of same ∙ sym c.as_bytes-2.ensures))
