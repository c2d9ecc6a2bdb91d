-- Main's token has seen nothing, so no scope.
use Rattle.std.proofs.Common.{[], ℕ, ◌∙◌, ◌≡◌, None, ap, refl}
use Rattle.realm_lock.specs.{OwnerValue, history_of, history_seen, innermost, latest}
use Rattle.realm_lock.proofs.realm.Realm.new.Goals as goal

no_scope_yet : (a : ℕ) → innermost (history_of []) a ≡ None
unfolding history_of innermost latest
no_scope_yet a = refl

pub returns-in-Ok-clause-idle : goal.returns-in-Ok-clause-idle
returns-in-Ok-clause-idle c o = ap (λ (v : OwnerValue). innermost (history_seen v) v.actor) o.new-locked.ensures.token ∙ no_scope_yet 0
