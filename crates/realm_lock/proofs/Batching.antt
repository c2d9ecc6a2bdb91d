-- How a batch of forks goes on in one hold of the lock.
use Rattle.std.proofs.Common.{[], ℕ, ◌++◌, ◌+◌, ◌<◌, ◌∙◌, ◌∷◌, ◌≡◌, Err, List, Ok, ap, drop, false, get_or, length, refl, subst, sym, take, true}
use Rattle.realm_lock.specs.{Accepted, Batches.forking, CoreValue, DoesOrMemory, Fork, Forked, ForksAll, ForksEach, ForksNext, ForksSome, GivesTicket, Happened, LabelValue, Looked, OwnerValue, RealmStep, Refusal, SeesMore}
use Rattle.realm_lock.specs.{Stepped, fork_reply, reply_of}
use Rattle.realm_lock.proofs.Words.{append_assoc, take-append-drop, take_more}

-- one fork more, behind the others
pub forks_more : (old mid : OwnerValue) (s : ℕ) (ls : List LabelValue) (fs : List Forked) (l : LabelValue) (f : Forked) → ForksEach old mid s ls fs → ForksNext mid s l f → ForksEach old (forking mid s l) s (ls ++ l ∷ []) (fs ++ f ∷ [])
forks_more old mid s [] [] l f is next = subst (λ (t : OwnerValue). ForksNext t s l f × (forking mid s l ≡ forking t s l)) is (next, refl)
forks_more old mid s [] (f ∷ fs) _ _ none next = absurd none
forks_more old mid s (l ∷ ls) [] _ _ none next = absurd none
forks_more old mid s (l ∷ ls) (f ∷ fs) last g each next = (each.0, forks_more (forking old s l) mid s ls fs last g each.1 next)

-- the label at an index, between those before it and those after it
pub parted_at : (ls : List LabelValue) (i : ℕ) (d : LabelValue) → i < length ls → ls ≡ take i ls ++ get_or ls i d ∷ drop (i + 1) ls
parted_at ls i d within =
    sym (take-append-drop (i + 1) ls) ∙ (ap (λ (xs : List LabelValue). xs ++ drop (i + 1) ls) (take_more ls i d within) ∙ append_assoc (take i ls) (get_or ls i d ∷ []) (drop (i + 1) ls))

-- the labels so far were forked, and what lies under the lock is what the token has seen
pub record IsForking (old now : OwnerValue) (core : CoreValue) (s : ℕ) (first : List LabelValue) (forked : List Forked) : Type 0 where
  pub sees : SeesMore old now
  pub all : ForksAll old now s first forked
  pub here : core.steps ≡ now.seen

-- before the first it has looked
pub forks_begin : (old now : OwnerValue) (core : CoreValue) (s : ℕ) (first : List LabelValue) (forked : List Forked) → Looked old now → core.steps ≡ now.seen → first ≡ [] → forked ≡ [] → IsForking old now core s first forked
forks_begin old now core s first forked looked here none empty = record {
  sees = looked.0;
  all = record { there = now; looked = looked; each = rw (none, empty) refl };
  here = here;
}

module _ (old now new : OwnerValue) (core after : CoreValue) (s : ℕ) (first : List LabelValue) (forked : List Forked) (label : LabelValue) (so_far : IsForking old now core s first forked) where
  -- the next one is accepted
  pub forks_on : (f : Forked) → Stepped core after new (Happened (Fork now.actor s label)) true → DoesOrMemory now new (Happened (Fork now.actor s label)) (λ h. fork_reply h s) (Ok (reply_of f)) → GivesTicket new s label (Ok f) → IsForking old new after s (first ++ label ∷ []) (forked ++ f ∷ [])
  forks_on f stepped does gives =
      let steps : after.steps ≡ new.seen = ap (λ (k : CoreValue). k.steps) stepped.0 in
      let seen : new.seen ≡ now.seen ++ Happened (Fork now.actor s label) ∷ [] = sym steps ∙ (ap (λ (k : CoreValue). k.steps) stepped.1 ∙ ap (λ (xs : List RealmStep). xs ++ Happened (Fork now.actor s label) ∷ []) so_far.here) in
      let is : new ≡ forking now s label = does.0 ∙ ap (λ (xs : List RealmStep). record now { seen = xs }) seen in
      let next : ForksNext now s label f = record {
        accepted = subst (λ (t : OwnerValue). Accepted now t (Happened (Fork now.actor s label)) (λ h. fork_reply h s) (reply_of f)) is does.1;
        gives = subst (λ (t : OwnerValue). GivesTicket t s label (Ok f)) is gives;
      } in
      record {
        sees = does.0 ∙ ap (λ (t : OwnerValue). record t { seen = new.seen }) so_far.sees;
        all = record {
          there = so_far.all.there;
          looked = so_far.all.looked;
          each = subst (λ (t : OwnerValue). ForksEach so_far.all.there t s (first ++ label ∷ []) (forked ++ f ∷ [])) (sym is) (forks_more so_far.all.there now s first forked label f so_far.all.each next);
        };
        here = steps;
      }

  -- or it is refused
  pub forks_stop : (refusal : Refusal) (labels rest : List LabelValue) → labels ≡ first ++ label ∷ rest → Stepped core after new (Happened (Fork now.actor s label)) false → DoesOrMemory now new (Happened (Fork now.actor s label)) (λ h. fork_reply h s) (Err refusal) → (SeesMore old new) × ForksSome old new s labels forked refusal
  forks_stop refusal labels rest are stepped does =
      let seen : new.seen ≡ now.seen = sym (ap (λ (k : CoreValue). k.steps) stepped.0) ∙ (ap (λ (k : CoreValue). k.steps) stepped.1 ∙ so_far.here) in
      let is : new ≡ now = does.0 ∙ ap (λ (xs : List RealmStep). record now { seen = xs }) seen in (
        rw is so_far.sees,
        record {
          first = first;
          next = label;
          rest = rest;
          are = are;
          forks = rw is so_far.all;
          refused = subst (λ (t : OwnerValue). DoesOrMemory t t (Happened (Fork t.actor s label)) (λ h. fork_reply h s) (Err refusal)) (sym is) (subst (λ (t : OwnerValue). DoesOrMemory now t (Happened (Fork now.actor s label)) (λ h. fork_reply h s) (Err refusal)) is does);
        },
      )
