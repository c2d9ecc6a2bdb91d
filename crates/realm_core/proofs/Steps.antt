-- One step of a realm and its keeper, and what a holder that agrees with the keeper's list knows of it.
use Rattle.std.proofs.Common.{[], ◌++◌, ◌∙◌, ◌∷◌, ◌≡◌, List, ap, refl, subst, sym}
use Rattle.realm_core.specs.{Adds, AgreesWith, History, Holder, IsLegal, KeeperValue, Limits, Looks, Passes, Realm, RealmStep, TableId, Tied, advance, history_of, starting, the_start}
use Rattle.realm_core.proofs.Words.{goes_on}

-- the realm with one step more
abbrev pub stepped : Realm → RealmStep → Realm
stepped realm x = record { limits = realm.limits; history = advance realm.history x }

module _ (name : TableId) (realm : Realm) (keeper : KeeperValue) (tied : Tied name realm keeper) where
  -- what the realm accepts, the keeper's list accepts
  pub passes_there : (x : RealmStep) → Passes realm.limits realm.history x → Passes keeper.limits (history_of keeper.steps) x
  passes_there x ok =
      subst (λ (L : Limits). Passes L (history_of keeper.steps) x) (sym tied.limited) (subst (λ (h : History). Passes realm.limits h x) (sym tied.replay) ok)

  -- the realm and the keeper with one step more
  pub tied_next : (x : RealmStep) → Passes realm.limits realm.history x → Tied name (stepped realm x) (record keeper { steps = keeper.steps ++ x ∷ [] })
  tied_next x ok =
      let next = goes_on keeper.limits keeper.steps x tied.lawful (passes_there x ok) in
      record {
        named = tied.named;
        limited = tied.limited;
        replay = next.history ∙ ap (λ (h : History). advance h x) tied.replay;
        lawful = next.legal;
      }

  module _ (who : Holder) (L : Limits) (seen : List RealmStep) (agrees : AgreesWith who L seen keeper) where
    -- the holder's limits are the realm's
    pub same_limits : L ≡ realm.limits
    same_limits = agrees.limited ∙ tied.limited

    -- a holder that is shown the list has looked
    pub looks_now : Looks who L seen keeper.steps
    looks_now = record { agrees = agrees.agrees; legal = rw agrees.limited tied.lawful }

    pub passes_here : (x : RealmStep) → Passes realm.limits realm.history x → Passes L (history_of keeper.steps) x
    passes_here x ok = rw agrees.limited (passes_there x ok)

    -- a holder that is shown the list with the step has added it
    pub adds_now : (x : RealmStep) → Passes realm.limits realm.history x → Adds who L seen x (keeper.steps ++ x ∷ [])
    adds_now x ok = record {
      there = keeper.steps;
      agrees = agrees.agrees;
      is = refl;
      accepted = passes_here x ok;
      legal = rw agrees.limited (goes_on keeper.limits keeper.steps x tied.lawful (passes_there x ok)).legal;
    }

-- a realm that begins
pub tied_at_start : (L : Limits) (keeper : KeeperValue) → keeper.limits ≡ L → keeper.steps ≡ [] → Tied keeper.table (starting L the_start) keeper
unfolding history_of IsLegal
tied_at_start L keeper limited begins = record {
  named = refl;
  limited = limited;
  replay = rw begins refl;
  lawful = rw begins tt;
}
