use Rattle.std.specs.Prelude.{◌++◌}
use Rattle.script_jobs.proofs.Words.{◌∙◌, ap, drop, sym, take-append-drop}
use Rattle.script_jobs.proofs.prompting.Talk.take_back.Goals as goal

pub returns-clause-lines : goal.returns-clause-lines
returns-clause-lines g c = record {
  rest = drop c.before_last-kept.result c.args.self.now.lines.items;
  whole = sym (ap (λ l. l ++ drop c.before_last-kept.result c.args.self.now.lines.items) c.truncate.ensures.items ∙ take-append-drop c.before_last-kept.result c.args.self.now.lines.items);
}
