use Rattle.std.proofs.Common.{◌≡◌, IfOk, MatchResult, Result, refl, subst, sym}
use Rattle.share_ledger.specs.declared.steps.Ask.TheVariants.{Tick}
use Rattle.realm_lock.specs.{Asked, CoreValue, HasCome, Refusal, TickRefused, Ticks, history_of, records}
use Rattle.realm_lock.proofs.{Behind.behind_stepped, Sleeping.tick_passed, Waits.tick_done}
use Rattle.realm_lock.proofs.locked.LockedRealm.tick_due.Goals as goal

pub catch_up-requires : goal.catch_up-requires
catch_up-requires g c =
    behind_stepped c.self.inside.core c.perform-result.new.self (Asked c.args.token.now.actor (Tick c.args.now)) (records c.perform-result.result) c.self.inside.setters c.limits-legal.ensures.legal refl c.perform-result.ensures.steps.1 c.self.invariant

pub returns-clause-ticked : goal.returns-clause-ticked
returns-clause-ticked g c =
    let old = c.args.token.now in
    let new = c.perform-result.new.share in
    let due = subst (λ (k : CoreValue). HasCome (history_of k.steps) c.args.now) (sym c.self.view_is) c.requires.due in
    subst (λ (r : Result (Unit {0}) Refusal). MatchResult r (λ _. Ticks old new c.args.now) (TickRefused old new c.args.now)) (sym c.reply_done.ensures)
    (tick_done c.self.inside.core c.perform-result.new.self old new c.args.now c.perform-result.result due c.perform-result.ensures.steps c.perform-result.ensures.answer)

pub returns-clause-passed : goal.returns-clause-passed
returns-clause-passed g c =
    let final = c.catch_up.new.core in
    let new = c.perform-result.new.share in
    subst (λ (r : Result (Unit {0}) Refusal). IfOk r (λ _. (final.steps ≡ new.seen) × (HasCome (history_of final.steps) c.args.now → ⊥))) (sym c.reply_done.ensures)
    (tick_passed c.self.inside.core c.perform-result.new.self final c.args.token.now new c.args.now c.perform-result.result c.catch_up.ensures.core c.perform-result.ensures.steps c.perform-result.ensures.answer)
