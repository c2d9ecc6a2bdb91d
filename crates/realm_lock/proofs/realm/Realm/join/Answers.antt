use Rattle.realm_lock.specs.{Joins}
use Rattle.realm_lock.proofs.{Waits.joins_never, Words.joins_later}
use Rattle.realm_lock.proofs.realm.Realm.join.Goals as goal

pub returns-clause-answer : goal.returns-clause-answer
returns-clause-answer g c =
    let old = c.args.token.now in
    let new = c.join_by.new.token in
    joins_never _ (λ a b n none. none) Joins old new _ _ c.args.scope c.join_by.result (λ now. joins_later old now new c.args.scope c.join_by.result) c.join_by.ensures.answer
