-- The kept totals answer, or the closure that agrees with the rule.
use Rattle.std.proofs.Common.{◌∙◌, ◌≡◌, ap, rules, true}
use Rattle.join_rules.specs.{Until, meets}
use Rattle.join_rules.proofs.StandingLemmas.{fires_by_closure, fires_by_kept}
use Rattle.join_rules.proofs.account.JoinerAccount.fires_by.Goals as goal

pub returns-in_default : goal.returns-in_default
returns-in_default g c = λ list stands. c.fires.ensures ∙ fires_by_kept _ list stands

pub returns-in-Some : goal.returns-in-Some
returns-in-Some g c = λ list stands.
    let kept = c.args.self.now in
    let stored = c.in-Some.stored.now in
    let has_closure : kept.has_closure ≡ true = search rules in
    let until : kept.policy ≡ Until stored.rule = search rules in
    c.ask.ensures ∙ ap (meets stored.rule) c.seen.ensures.value ∙ fires_by_closure kept stored.rule list stands has_closure until
