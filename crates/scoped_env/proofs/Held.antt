-- What environments that agree with a history hold, and of whom.
use Rattle.std.proofs.Common.{ℕ, ◌+◌, ◌<◌, ◌==◌, ◌∙◌, ◌≡◌, Bool, Some, ap, arith, cond, false, get_or, inl, inr, length, refl, subst, sym, true}
use Rattle.scoped_env.specs.{AreEnvsOf, EnvTable.EnvTable, Forking, HasEnv, History, Layers.Layers, Legal, Limits, Name, Words.stack, all_pairs, bindings, bound_to, forking, layers_in, layers_of, no_pairs, place_in}
use Rattle.scoped_env.proofs.Words.{IsActor, eqb-false, eqb-true, forked_after, running_forked, slice_get-get_or}
use Rattle.scoped_env.proofs.Sights.{sees_layers}

-- a task that was forked since the base has an environment
pub has_env_of_task : (h : History) (t : EnvTable) (a : ℕ) (f : Forking) → AreEnvsOf h t → forking h a ≡ Some f → HasEnv t a
has_env_of_task h t a f agrees is =
    let it = forked_after h a f is in
    record {
      since = λ later. omega (arith, agrees.numbered, it.2);
      within = omega (arith, agrees.numbered, agrees.count, it.1, it.2);
    }

-- main has one
pub has_env_of_main : (t : EnvTable) → HasEnv t 0
has_env_of_main t = record { since = λ later. absurd (omega (arith, later)); within = omega arith }

-- who may act has one
pub has_env_of_actor : (h : History) (t : EnvTable) (a : ℕ) → AreEnvsOf h t → IsActor h a → HasEnv t a
has_env_of_actor h t a agrees who =
    elim who [
      | inl main ↦ subst (HasEnv t) (sym main) (has_env_of_main t)
      | inr runs ↦ let it = running_forked h a runs in has_env_of_task h t a it.forked agrees it.is
    ]

-- the pairs of main, or of a task
abbrev layers_by : Bool → EnvTable → ℕ → Layers
layers_by b t a = cond b t.main (get_or t.tasks (place_in t a) no_pairs)

-- they are those of the history
layers_there_by : (h : History) (t : EnvTable) (a : ℕ) (b : Bool) → (a == 0) ≡ b → AreEnvsOf h t → HasEnv t a → layers_by b t a ≡ layers_of h a
layers_there_by h t a true is agrees has = agrees.main ∙ ap (layers_of h) (sym (eqb-true a 0 is))
layers_there_by h t a false is agrees has =
    let other = eqb-false a 0 is in
    let later : 0 < a = omega (arith, other) in
    let since = has.since later in
    let within : place_in t a < length t.tasks = omega (arith, since, has.within) in
    let number : t.before + 1 + place_in t a ≡ a = omega (arith, since) in
    agrees.tasks (place_in t a) _ (slice_get-get_or t.tasks (place_in t a) no_pairs within) ∙ ap (layers_of h) number

-- the pairs of an actor in a table that agrees
pub layers_there : (h : History) (t : EnvTable) (a : ℕ) → AreEnvsOf h t → HasEnv t a → layers_in t a ≡ layers_of h a
layers_there h t a agrees has = layers_there_by h t a (a == 0) refl agrees has

-- what a look-up finds is what the actor's bindings give
pub seen_there : (L : Limits) (h : History) (t : EnvTable) (a : ℕ) (key : Name) → Legal L h → HasEnv t a → AreEnvsOf h t → bound_to key (all_pairs (layers_in t a)) ≡ bound_to key (bindings h a)
seen_there L h t a key legal has agrees =
    ap (λ (e : Layers). bound_to key (all_pairs e)) (layers_there h t a agrees has) ∙ ap (bound_to key) (sym (sees_layers L h a legal))

-- the own pairs that are kept are the actor's
pub stack_there : (h : History) (t : EnvTable) (a : ℕ) → HasEnv t a → AreEnvsOf h t → (layers_in t a).stack ≡ stack h a
stack_there h t a has agrees = ap (λ (e : Layers). e.stack) (layers_there h t a agrees has)
