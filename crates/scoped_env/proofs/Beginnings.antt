-- Which environments a realm begins with, and begins anew with after a retirement.
use Rattle.std.proofs.Common.{[], ℕ, ◌++◌, ◌∙◌, ◌≡◌, ap, refl, subst, sym}
use Rattle.scoped_env.specs.{AreEnvsOf, EnvTable.EnvTable, History, Origin, Words.stack, Words.tasks, all_pairs, base_of, beginning, earliest, forking, layers_of, restarted}
use Rattle.scoped_env.proofs.Sights.{layers_at, main_inherits_none}

-- a realm that begins with the base
abbrev no_events : Origin → History
no_events b = record { base = b; events = [] }

-- main has the pairs of the base there
main_begins : (b : Origin) → layers_at [] b.binds ≡ layers_of (no_events b) 0
unfolding forking earliest stack
main_begins b = refl

-- a realm begins with the pairs of its base
pub begins : (b : Origin) (t : EnvTable) → t ≡ beginning b → AreEnvsOf (no_events b) t
begins b t is =
    subst (AreEnvsOf (no_events b)) (sym is) (record {
      numbered = refl;
      main = main_begins b;
      count = refl;
      tasks = λ i e at. absurd cc;
    })

-- and main has the same before a retirement and after
base_main : (h : History) (b : Origin) → b ≡ base_of h → layers_of h 0 ≡ layers_of (no_events b) 0
unfolding base_of
base_main h b is =
    ap (λ xs. layers_at xs (stack h 0)) (main_inherits_none h)
    ∙ (ap (layers_at []) (sym (ap (λ (x : Origin). x.binds) is)) ∙ main_begins b)

-- a realm that begins anew with what a retirement leaves has main's pairs alone
pub restarts : (h : History) (t u : EnvTable) (n : ℕ) → u ≡ restarted t n → n ≡ tasks h → AreEnvsOf h t → AreEnvsOf (no_events (base_of h)) u
unfolding base_of
restarts h t u n is number agrees =
    subst (AreEnvsOf (no_events (base_of h))) (sym is) (record {
      numbered = number;
      main = agrees.main ∙ base_main h (base_of h) refl;
      count = refl;
      tasks = λ i e at. absurd cc;
    })

-- main inherits nothing, so all its pairs are its own
pub main_pairs : (h : History) (t : EnvTable) → AreEnvsOf h t → all_pairs t.main ≡ stack h 0
main_pairs h t agrees = ap all_pairs agrees.main ∙ ap (λ xs. xs ++ stack h 0) (main_inherits_none h)
