-- Parts that are of one history have rows for the same scopes and tasks.
use Rattle.scope_index.specs.{AreAlike, AreCancelsOf, AreDeadlinesOf, AreEnvsOf, AreForksOf, AreRowsOf, CancelTable, DeadlineTable, EnvTable, ForkTable.ForkTable, History, RowTable}
use Rattle.scope_index.proofs.Words.{◌∙◌, sym}

pub alike : (h : History) (rows : RowTable) (cancels : CancelTable) (envs : EnvTable) (forks : ForkTable) (deadlines : DeadlineTable) → AreRowsOf h rows → AreCancelsOf h cancels → AreEnvsOf h envs → AreForksOf h forks → AreDeadlinesOf h deadlines → AreAlike rows cancels envs forks deadlines
alike h rows cancels envs forks deadlines r c e f d = record {
  scopes_before = c.numbered ∙ sym r.scopes_before;
  scopes = c.count ∙ sym r.scope_count;
  accounts = c.counted ∙ sym r.scope_count;
  tasks_before = e.numbered ∙ sym r.tasks_before;
  tasks = e.count ∙ sym r.task_count;
  forks_before = f.numbered ∙ sym r.scopes_before;
  lists = f.count ∙ sym r.scope_count;
  deadlines_before = d.numbered ∙ sym r.scopes_before;
  deadline_count = d.count ∙ sym r.scope_count;
}
