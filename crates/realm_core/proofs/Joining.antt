-- How what calls did is put together, if one follows another.
use Rattle.std.proofs.Common.{[], ℕ, ◌++◌, ◌∙◌, ◌∷◌, ◌≡◌, Err, List, Ok, Result, ap, inl, inr, refl, subst}
use Rattle.realm_core.specs.{Adds, Agrees, BareOutcome, Happened, Holder, Join, Joined, Joins, JoinsBare, Limits, Looks, OwnerValue, RealmStep, Refusal, SeesMore, TokenOf, is_own, list_any}
use Rattle.realm_core.proofs.Words.{append_assoc, list_any-append, or_from}

nothing_more : {A : Type 0} (xs : List A) → xs ≡ xs ++ []
nothing_more [] = refl
nothing_more (x ∷ xs) = ap (λ ys. x ∷ ys) (nothing_more xs)

pub agrees_same : (who : Holder) (seen : List RealmStep) → Agrees who seen seen
agrees_same who seen = record { later = []; is = nothing_more seen; others = refl }

pub agrees_on : (who : Holder) (xs ys zs : List RealmStep) → Agrees who xs ys → Agrees who ys zs → Agrees who xs zs
agrees_on who xs ys zs first second = record {
  later = first.later ++ second.later;
  is = second.is ∙ (ap (λ (l : List RealmStep). l ++ second.later) first.is ∙ append_assoc xs first.later second.later);
  others = list_any-append (is_own who) first.later second.later ∙ or_from (list_any (is_own who) first.later) (list_any (is_own who) second.later) first.others second.others;
}

pub looks_on : (who : Holder) (L : Limits) (xs ys zs : List RealmStep) → Agrees who xs ys → Looks who L ys zs → Looks who L xs zs
looks_on who L xs ys zs first second = record { agrees = agrees_on who xs ys zs first second.agrees; legal = second.legal }

pub adds_on : (who : Holder) (L : Limits) (xs ys zs : List RealmStep) (x : RealmStep) → Agrees who xs ys → Adds who L ys x zs → Adds who L xs x zs
adds_on who L xs ys zs x first second = record {
  there = second.there;
  agrees = agrees_on who xs ys second.there first second.agrees;
  is = second.is;
  accepted = second.accepted;
  legal = second.legal;
}

joins_on : (old new : OwnerValue) (xs : List RealmStep) (s : ℕ) (result : Result Joined Refusal) → Agrees (TokenOf old.actor) old.seen xs → Joins (record old { seen = xs }) new s result → Joins old new s result
joins_on old new xs s (Ok joined) agrees it =
    (it.0, (adds_on (TokenOf old.actor) old.limits old.seen xs new.seen (Happened (Join old.actor s)) agrees it.1.0, it.1.1))
joins_on old new xs s (Err refusal) agrees it = (
  it.0,
  elim it.1 [
    | inl by ↦ inl (record { looks = looks_on (TokenOf old.actor) old.limits old.seen xs new.seen agrees by.looks; by = by.by })
    | inr none ↦ inr (record { looks = looks_on (TokenOf old.actor) old.limits old.seen xs new.seen agrees none.looks; passed = none.passed; memory = none.memory })
  ],
)

-- a join after looks is a join
pub joins_later : (old now new : OwnerValue) (s : ℕ) (result : Result Joined Refusal) → SeesMore old now → Agrees (TokenOf old.actor) old.seen now.seen → Joins now new s result → Joins old new s result
joins_later old now new s result same agrees it = joins_on old new now.seen s result agrees (subst (λ (t : OwnerValue). Joins t new s result) same it)

joins_bare_on : (old new : OwnerValue) (xs : List RealmStep) (s : ℕ) (result : Result BareOutcome Refusal) → Agrees (TokenOf old.actor) old.seen xs → JoinsBare (record old { seen = xs }) new s result → JoinsBare old new s result
joins_bare_on old new xs s (Ok answer) agrees it =
    (it.0, (adds_on (TokenOf old.actor) old.limits old.seen xs new.seen (Happened (Join old.actor s)) agrees it.1.0, it.1.1))
joins_bare_on old new xs s (Err refusal) agrees it =
    (it.0, record { looks = looks_on (TokenOf old.actor) old.limits old.seen xs new.seen agrees it.1.looks; by = it.1.by })

-- the same of a join that tells no lists
pub joins_bare_later : (old now new : OwnerValue) (s : ℕ) (result : Result BareOutcome Refusal) → SeesMore old now → Agrees (TokenOf old.actor) old.seen now.seen → JoinsBare now new s result → JoinsBare old new s result
joins_bare_later old now new s result same agrees it = joins_bare_on old new now.seen s result agrees (subst (λ (t : OwnerValue). JoinsBare t new s result) same it)
