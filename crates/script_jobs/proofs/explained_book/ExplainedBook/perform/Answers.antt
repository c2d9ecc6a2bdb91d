-- What ended before stays ended, and if there are fewer events, the realm began anew.
use Rattle.script_jobs.specs.{Realm, length, realm_of}
use Rattle.script_jobs.proofs.Words.{ap, arith}
use Rattle.script_jobs.proofs.PassedTasks.{knows_performed}
use Rattle.script_jobs.proofs.explained_book.ExplainedBook.perform.Goals as goal

pub invariant_of-self-else-event_count-before : goal.invariant_of-self-else-event_count-before
invariant_of-self-else-event_count-before g c = record {
  knows = knows_performed (realm_of c.args.self.now.book) (realm_of c.perform-done.new.book) c.args.command.now c.args.self.now.passed c.perform-done.result c.perform-done.ensures.performs c.perform-done.ensures.stopped c.requires
      (omega (arith, c.event_count-before.ensures, c.event_count.ensures, c.if-event_count-before.false, ap (λ (r : Realm). length r.history.events) c.realm.ensures, ap (λ (r : Realm). length r.history.events) c.realm-2.ensures))
      c.args.self.now.knows;
}
