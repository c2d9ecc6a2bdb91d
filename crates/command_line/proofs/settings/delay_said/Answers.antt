use Rattle.command_line.specs.{delay_of, is_name, option_map}
use Rattle.command_line.proofs.Words.{◌∙◌, ap, refl}
use Rattle.command_line.proofs.Cutting.{cut, not_named, says, uncut, unnamed, unnumbered, whole}
use Rattle.command_line.proofs.settings.delay_said.Goals as goal

pub returns-in_err-name : goal.returns-in_err-name
returns-in_err-name c =
    ap (option_map delay_of) c.from_residual.ensures ∙ uncut c.args.text.now (whole _ _ c.split_once.ensures.cases c.in_err-name.was)

pub returns-in_err-name-2 : goal.returns-in_err-name-2
returns-in_err-name-2 c =
    let parts = cut _ _ c.split_once.ensures.cases _ c.in_ok-name.was in
    ap (option_map delay_of) c.from_residual-in_err-name-2.ensures
    ∙ unnamed c.args.text.now _ _ (c.as_bytes.ensures.value ∙ parts.0) parts.1 (not_named _ c.in_err-name-2.ensures.named.1)

pub returns-in_err-millis : goal.returns-in_err-millis
returns-in_err-millis c =
    let parts = cut _ _ c.split_once.ensures.cases _ c.in_ok-name.was in
    ap (option_map delay_of) c.from_residual-in_err-millis.ensures ∙ unnumbered c.args.text.now _ _ parts.0 parts.1 c.in_err-millis.ensures.number

pub returns : goal.returns
returns c =
    let parts = cut _ _ c.split_once.ensures.cases _ c.in_ok-name.was in
    says c.args.text.now _ _ (c.in_ok-name-2.ensures.text ∙ c.as_bytes.ensures.value ∙ parts.0) parts.1 c.in_ok-millis.millis
    (ap is_name c.in_ok-name-2.ensures.text ∙ c.in_ok-name-2.ensures.named.0 refl) c.in_ok-millis.ensures.number
