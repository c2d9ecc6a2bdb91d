use Rattle.command_line.specs.{map, subcommand_rows_of}
use Rattle.command_line.proofs.Words.{◌∙◌, IfErr-weaker, IfOk-weaker, both, inl, inr}
use Rattle.command_line.proofs.Parsed.{answers_entered, answers_of, refused_of, says_entered, simple}
use Rattle.command_line.proofs.lines.line.Goals as goal

pub returns-in-Ok-clause-said : goal.returns-in-Ok-clause-said
returns-in-Ok-clause-said c =
    let words = map (λ word. word.now) c.args.words.now in
    let app_is = c.in_ok-application.ensures in
    let plain = simple words _ app_is in
    let says = says_entered words _ app_is (c.in-Ok.ensures.kinds plain) (subcommand_rows_of c.in-Ok.matches) (c.in-Ok.ensures.matches (both _ _ plain).0).1 in
    IfOk-weaker c.entered.result _ _ (λ line is. says ∙ is) c.entered.ensures.said

pub returns-in-Ok-clause-refused : goal.returns-in-Ok-clause-refused
returns-in-Ok-clause-refused c =
    let words = map (λ word. word.now) c.args.words.now in
    let app_is = c.in_ok-application.ensures in
    let plain = simple words _ app_is in
    let says = says_entered words _ app_is (c.in-Ok.ensures.kinds plain) (subcommand_rows_of c.in-Ok.matches) (c.in-Ok.ensures.matches (both _ _ plain).0).1 in
    IfErr-weaker c.entered.result _ _ (λ fault refused. elim refused [ inl memory ↦ inl memory | inr none ↦ inr (says ∙ none) ]) c.entered.ensures.refused

pub returns-in-Ok-clause-answers : goal.returns-in-Ok-clause-answers
returns-in-Ok-clause-answers c =
    let words = map (λ word. word.now) c.args.words.now in
    let app_is = c.in_ok-application.ensures in
    let plain = simple words _ app_is in
    IfErr-weaker c.entered.result _ _ (λ fault told. answers_entered words _ app_is (c.in-Ok.ensures.kinds plain) (subcommand_rows_of c.in-Ok.matches) (c.in-Ok.ensures.matches (both _ _ plain).0).1 fault told) c.entered.ensures.told

pub returns-in-Err-clause-refused : goal.returns-in-Err-clause-refused
returns-in-Err-clause-refused c =
    let words = map (λ word. word.now) c.args.words.now in
    let app_is = c.in_ok-application.ensures in
    refused_of words _ app_is c.of_parse.result _ c.of_parse.ensures (c.in-Err.ensures.kinds (simple words _ app_is))

pub returns-in-Err-clause-answers : goal.returns-in-Err-clause-answers
returns-in-Err-clause-answers c =
    let words = map (λ word. word.now) c.args.words.now in
    let app_is = c.in_ok-application.ensures in
    answers_of words _ app_is c.of_parse.result _ c.of_parse.ensures (c.in-Err.ensures.kinds (simple words _ app_is))
