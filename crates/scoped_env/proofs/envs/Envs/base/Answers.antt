-- Main inherits nothing, so all its pairs are its own.
use Rattle.std.proofs.Common.{◌∙◌, ◌≡◌, List, ap, subst, sym}
use Rattle.scoped_env.specs.{AreEnvsOf, Binding, EnvTable.EnvTable, History, Origin, Words.stack, all_pairs}
use Rattle.scoped_env.proofs.Words.{IfOk-weaker}
use Rattle.scoped_env.proofs.Beginnings.{main_pairs}
use Rattle.scoped_env.proofs.envs.Envs.base.Goals as goal

pub returns-clause-agrees : goal.returns-clause-agrees
returns-clause-agrees c =
    let inside = c.self.inside in
    let table : EnvTable = record { before = inside.before; main = inside.main; tasks = inside.tasks.items } in
    let of_pairs : List Binding → Origin = λ binds. record { moment = c.args.moment; scopes = c.args.scopes; tasks = c.args.tasks; binds = binds } in
    IfOk-weaker c.base.result (λ base. base ≡ of_pairs (all_pairs inside.main)) (λ base. (h : History) → AreEnvsOf h c.args.self.now → base ≡ of_pairs (stack h 0))
    (λ base is h agrees. is ∙ ap of_pairs (main_pairs h table (subst (AreEnvsOf h) (sym c.self.view_is) agrees))) c.base.ensures.ok
