use Rattle.std.specs.Prelude.{◌≡◌}
use Rattle.script_jobs.specs.{false, is_blank, kept, true}
use Rattle.script_jobs.proofs.Words.{◌∙◌, append-nil, rules, sym}
use Rattle.script_jobs.proofs.Growing.{blank_kept}
use Rattle.script_jobs.proofs.session.NotedScript.end.Goals as goal

pub returns-then-is_empty-clause-tally : goal.returns-then-is_empty-clause-tally
returns-then-is_empty-clause-tally g c =
    let blank : is_blank (kept c.args.self.now.begun.first) ≡ true = blank_kept _ true (sym c.is_empty.ensures ∙ c.if-is_empty.true) in
    rw blank (search rules)

pub returns-then-is_empty-clause-replies : goal.returns-then-is_empty-clause-replies
returns-then-is_empty-clause-replies g c =
    let blank : is_blank (kept c.args.self.now.begun.first) ≡ true = blank_kept _ true (sym c.is_empty.ensures ∙ c.if-is_empty.true) in
    rw blank (sym (append-nil _))

pub returns-clause-tally : goal.returns-clause-tally
returns-clause-tally g c =
    let some : is_blank (kept c.args.self.now.begun.first) ≡ false = blank_kept _ false (sym c.is_empty.ensures ∙ c.if-is_empty.false) in
    rw some (search rules)

pub returns-clause-replies : goal.returns-clause-replies
returns-clause-replies g c =
    let some : is_blank (kept c.args.self.now.begun.first) ≡ false = blank_kept _ false (sym c.is_empty.ensures ∙ c.if-is_empty.false) in
    rw some c.answer_bad.ensures.replies
