-- A reject between two looks of a token is the last step of what the token has seen.
use Rattle.std.proofs.Common.{[], ◌++◌, ◌∙◌, ◌∷◌, ◌≡◌, ap, subst}
use Rattle.realm_lock.specs.{Added, IsLegal, Looked, OwnerValue, RealmStep, SeesMore}
use Rattle.realm_lock.proofs.Words.{last_passes}

pub seen_added : (old mid new : OwnerValue) (x : RealmStep) → Looked old mid → Looked mid new → new.seen ≡ mid.seen ++ x ∷ [] → SeesMore old new × Added old new x
seen_added old mid new x first second is =
    let limits = ap (λ (t : OwnerValue). t.limits) first.0 in
    let lawful = subst (λ L. IsLegal L new.seen) limits second.1.legal in (
      second.0 ∙ ap (λ (t : OwnerValue). record t { seen = new.seen }) first.0,
      record {
        there = mid.seen;
        agrees = first.1.agrees;
        is = is;
        accepted = last_passes old.limits mid.seen x (subst (IsLegal old.limits) is lawful);
        legal = lawful;
      },
    )
