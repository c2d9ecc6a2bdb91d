use Rattle.balkreyn_c.specs.{TimedRealm}
use Rattle.balkreyn_c.proofs.Lemmas.{◌∙◌, ap, refl}
use Rattle.balkreyn_c.proofs.books.fresh.Goals as goal

pub returns-in-Ok : goal.returns-in-Ok
returns-in-Ok c =
    let limits = c.in-Some.ensures in
    let made = c.in-Ok.ensures.ok in
    record {
      limits = c.in-Some.limits;
      scopes_are = limits.scopes;
      tasks_are = limits.tasks;
      load_is = limits.load;
      timed = c.in-Ok.timed.value;
      number = refl;
      realm = ap (λ (t : TimedRealm). t.realm) made ∙ c.new-2.ensures.realm;
      times = ap (λ (t : TimedRealm). t.times.items) made ∙ c.new-2.ensures.times;
      holds = refl;
    }
