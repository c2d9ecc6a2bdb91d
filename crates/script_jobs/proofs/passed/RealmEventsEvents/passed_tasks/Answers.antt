-- No search finds those that are known to have ended.
use Rattle.script_jobs.proofs.PassedTasks.{passed_over}
use Rattle.script_jobs.proofs.passed.RealmEventsEvents.passed_tasks.Goals as goal

pub returns : goal.returns
returns c =
    let h = c.args.self.now.realm.now.history in
    passed_over h c.args.scope c.known_passed.result (c.known_passed.ensures h c.args.self.now.knows)
