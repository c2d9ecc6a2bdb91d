-- Whatever a fork was answered, its job was forked.
use Rattle.std.specs.Prelude.{ℕ, ◌≡◌, Err, Ok, Result}
use Rattle.balkreyn.specs.{ForkRefusal, ForkReply, ForksJob, LabelValue, Name, OwnerValue, Tries, label_of, refusal_of, why_alone, why_of}
use Rattle.balkreyn.proofs.Words.{refl, subst}

tried : {C J : Type 0} {old new : OwnerValue} {scope : ℕ} {name : Name} (result : Result ForkReply (ForkRefusal C J)) → ForksJob old new scope (label_of name) (why_alone result) → Tries old new scope name
tried (Ok reply) forks = record { reply = Ok reply; forks = forks }
tried (Err refused) forks = record { reply = Err (refusal_of (why_of refused)); forks = record { why = why_of refused; forks = forks; numbered = refl } }

pub tries : {C J : Type 0} {old new : OwnerValue} {scope : ℕ} {name : Name} {label : LabelValue} (result : Result ForkReply (ForkRefusal C J)) → label ≡ label_of name → ForksJob old new scope label (why_alone result) → Tries old new scope name
tries {old = old} {new = new} {scope = scope} result same forks = tried result (subst (λ l. ForksJob old new scope l (why_alone result)) same forks)
