-- A realm with no step: its first task is the next, in scope 1, which is not cancelled.
use Rattle.std.proofs.Common.{◌≡◌, ◌+◌, false, List, [], refl, sym, subst}
use Rattle.scope_rules.specs.History.{tasks, opening}
use Rattle.scope_rules.specs.Scopes.{outer}
use Rattle.scope_rules.specs.Search.{earliest}
use Rattle.scope_rules.specs.Chains.{chain_by, first_cancel_by}
use Rattle.scope_rules.specs.Cancels.{is_cancelled, first_cancel, own, own_at}
use Rattle.share_ledger.specs.declared.steps.RealmStep.{RealmStep}
use Rattle.share_ledger.specs.Steps.{history_of}

pub first_is_next : (xs : List RealmStep) → xs ≡ [] → 1 ≡ tasks (history_of xs) + 1
unfolding history_of
first_is_next xs none = subst (λ (ys : List RealmStep). 1 ≡ tasks (history_of ys) + 1) (sym none) refl

pub first_is_live : (xs : List RealmStep) → xs ≡ [] → is_cancelled (history_of xs) 1 ≡ false
unfolding history_of is_cancelled first_cancel first_cancel_by chain_by own earliest own_at opening outer
first_is_live xs none = subst (λ (ys : List RealmStep). is_cancelled (history_of ys) 1 ≡ false) (sym none) refl
