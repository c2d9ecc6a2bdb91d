-- The index is written at the key alone.
use Rattle.scoped_env.specs.{same_name, value_in}
use Rattle.scoped_env.proofs.Words.{◌∙◌, None, Some, ap, cond, sym}
use Rattle.scoped_env.proofs.Indexing.{writes_of, written}
use Rattle.scoped_env.proofs.stack.put_back.Goals as goal

pub returns-else-is_err : goal.returns-else-is_err
returns-else-is_err c = λ other.
    written c.insert.result c.args.latest.now c.insert.new.self c.args.key (Some c.in-Some.value) (sym c.is_err.ensures.value ∙ c.if-is_err.false) c.insert.ensures.updates other
    ∙ ap (λ o. cond (same_name c.args.key other) o (value_in c.args.latest.now other)) (sym c.in-Some.is)

pub returns-in-None : goal.returns-in-None
returns-in-None c = λ other.
    writes_of c.args.latest.now c.remove.new.self c.args.key None c.remove.ensures.updates.0 other
    ∙ ap (λ o. cond (same_name c.args.key other) o (value_in c.args.latest.now other)) (sym c.in-None.is)
