-- A join that tells its outcome without the lists.
use Rattle.std.proofs.Common.{[], ℕ, ◌++◌, ◌∙◌, ◌∷◌, ◌≡◌, Err, Ok, Result, Some, ap, false, option_map, refl, true}
use Rattle.realm_core.specs.{Accepts, Answers, BareOutcome, DidJoinBare, Happened, History, Join, KeeperValue, Limits, OwnerAgrees, OwnerValue, Realm, Refusal, TableId, Tied, TokenOf, bare_of, check_of, checks, followed}
use Rattle.realm_core.specs.{history_of, joined, joins, outcome, outcome_check, row_check, then_check, told}
use Rattle.realm_core.proofs.Words.{IsOpened, checks_at, eq-eqb, history-push, joined_grows, opening_same, or_right, scope_passed, scope_passes}
use Rattle.realm_core.proofs.{Performed.answered, Performed.answers_so, Performed.refused_by, Performed.refuses_now, Steps.adds_now}

-- a join that was accepted passed its check
join_accepted : (L : Limits) (h : History) (a s : ℕ) → Answers (check_of L h (Join a s)) (tt {0}) (Ok tt) → Accepts L h (Join a s)
join_accepted L h a s said = record { passed = (answered _ (tt {0}) (tt {0}) (answers_so _ (tt {0}) (Ok tt) said)).0; recorded = refl }

joins_opened : (L : Limits) (h : History) (a s : ℕ) → check_of L h (Join a s) ≡ Ok tt → IsOpened h s
unfolding row_check
joins_opened L h a s passed = scope_passed h s (checks_at _ 1 _ passed refl)

-- the scope can be asked for its outcome then
pub outcome_passes : (L : Limits) (h : History) (a s : ℕ) → Answers (check_of L h (Join a s)) (tt {0}) (Ok tt) → outcome_check (followed h (Join a s)) s ≡ Ok tt
unfolding outcome_check checks then_check
outcome_passes L h a s said =
    let opened = joins_opened L h a s (join_accepted L h a s said).passed in
    let joined_now : joined (followed h (Join a s)) s ≡ true = joined_grows h (Join a s) s ∙ or_right (joined h s) (joins s (Join a s)) (eq-eqb s s refl) in
    rw (scope_passes (followed h (Join a s)) s opened.opened (opening_same h (Join a s) s refl ∙ opened.is), joined_now) refl

module _ (name : TableId) (realm : Realm) (keeper : KeeperValue) (tied : Tied name realm keeper) (old : OwnerValue) (agrees : OwnerAgrees old keeper) where
  -- what is told then is the outcome with the join
  pub joins_bare_now : (s : ℕ) (answer : BareOutcome) (keeper' : KeeperValue) (new : OwnerValue) → Answers (check_of realm.limits realm.history (Join old.actor s)) (tt {0}) (Ok tt) → option_map bare_of (outcome (followed realm.history (Join old.actor s)) s) ≡ Some answer → keeper' ≡ told keeper (Happened (Join old.actor s)) true → new ≡ record old { seen = keeper'.steps } → DidJoinBare old new s (Ok answer)
  joins_bare_now s answer keeper' new said shown keeper_is new_is =
      let ok = join_accepted realm.limits realm.history old.actor s said in
      let history : history_of (keeper.steps ++ Happened (Join old.actor s) ∷ []) ≡ followed realm.history (Join old.actor s) = history-push keeper.steps (Happened (Join old.actor s)) ∙ ap (λ (h : History). followed h (Join old.actor s)) tied.replay in
      rw (new_is, keeper_is)
      (adds_now name realm keeper tied (TokenOf old.actor) old.limits old.seen agrees (Happened (Join old.actor s)) ok, rw history shown)

  -- and a refusal is the rules' on what the token has seen
  pub refused_bare_now : (s : ℕ) (r : Refusal) (keeper' : KeeperValue) (new : OwnerValue) → Answers (check_of realm.limits realm.history (Join old.actor s)) (tt {0}) (Err r) → keeper' ≡ told keeper (Happened (Join old.actor s)) false → new ≡ record old { seen = keeper'.steps } → DidJoinBare old new s (Err r)
  refused_bare_now s r keeper' new said keeper_is new_is =
      rw (new_is, keeper_is) (refuses_now name realm keeper tied old agrees (Happened (Join old.actor s)) r (refused_by _ (tt {0}) r said))
