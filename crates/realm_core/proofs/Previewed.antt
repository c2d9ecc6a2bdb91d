-- What a join answers, by what was made before it.
use Rattle.std.proofs.Common.{[], ℕ, ◌++◌, ◌∙◌, ◌∷◌, ◌≡◌, ◌⊎◌, Err, None, Ok, Option, Result, Some, ap, inl, inr, is_ok, option_map, refl}
use Rattle.realm_core.specs.{Accepts, Answers, AnswersValue, Checked, DidJoin, Happened, History, Join, KeeperValue, LogValue, Memory, Outcome, OwnerAgrees, OwnerValue, Preview, Realm, Refusal, TableId, Tied, TokenOf, check_of}
use Rattle.realm_core.specs.{followed, history_of, log, option_and_then, outcome, preview, told}
use Rattle.realm_core.proofs.Words.{history-push}
use Rattle.realm_core.proofs.{Steps.adds_now, Taken.accepted_ok}

-- a value was answered: the check passed, and it is the value
pub value_told : {A : Type 0} (check : Checked) (value : Option A) (x : A) → AnswersValue check value (Ok x) → (check ≡ Ok tt) × (value ≡ Some x)
value_told (Ok done) value x said = (refl, said)
value_told (Err r) value x said = absurd cc

-- none was answered: the check refused, or memory was refused
pub value_refused : {A : Type 0} (check : Checked) (value : Option A) (r : Refusal) → AnswersValue check value (Err r) → (check ≡ Err r) ⊎ ((check ≡ Ok tt) × (r ≡ Memory))
value_refused (Ok done) value r said = inr (refl, said)
value_refused (Err q) value r said = let same : q ≡ r = cc in rw same (inl refl)

parts : (o : Option Outcome) (l : Option LogValue) (p : Preview) → option_and_then (λ x. option_map (λ y. record { outcome = x; log = y }) l) o ≡ Some p → (o ≡ Some p.outcome) × (l ≡ Some p.log)
parts None l p is = absurd cc
parts (Some x) None p is = absurd cc
parts (Some x) (Some y) p is = let same : record { outcome = x; log = y } ≡ p = cc in (ap (λ (q : Preview). Some q.outcome) same, ap (λ (q : Preview). Some q.log) same)

-- a preview has the outcome and the log of the history with the join
pub previewed : (h : History) (a s : ℕ) (p : Preview) → preview h a s ≡ Some p → (outcome (followed h (Join a s)) s ≡ Some p.outcome) × (log (followed h (Join a s)) s ≡ Some p.log)
unfolding preview
previewed h a s p is = parts (outcome (followed h (Join a s)) s) (log (followed h (Join a s)) s) p is

module _ (name : TableId) (realm : Realm) (keeper : KeeperValue) (tied : Tied name realm keeper) (old : OwnerValue) (agrees : OwnerAgrees old keeper) where
  -- what was made before the join is what there is with it
  pub joins_now : (s : ℕ) (p : Preview) (result : Result (Unit {0}) Refusal) (keeper' : KeeperValue) (new : OwnerValue) → AnswersValue (check_of realm.limits realm.history (Join old.actor s)) (preview realm.history old.actor s) (Ok p) → Answers (check_of realm.limits realm.history (Join old.actor s)) tt result → keeper' ≡ told keeper (Happened (Join old.actor s)) (is_ok result) → new ≡ record old { seen = keeper'.steps } → DidJoin old new s (Ok (record { outcome = p.outcome; log = p.log }))
  joins_now s p result keeper' new made said keeper_is new_is =
      let it = value_told _ _ p made in
      let shown = previewed realm.history old.actor s p it.1 in
      let accepted = accepted_ok realm.limits realm.history (Join old.actor s) tt result it.0 said in
      let ok : Accepts realm.limits realm.history (Join old.actor s) = record { passed = it.0; recorded = refl } in
      let history : history_of (keeper.steps ++ Happened (Join old.actor s) ∷ []) ≡ followed realm.history (Join old.actor s) = history-push keeper.steps (Happened (Join old.actor s)) ∙ ap (λ (h : History). followed h (Join old.actor s)) tied.replay in
      rw (new_is, keeper_is, accepted)
      (adds_now name realm keeper tied (TokenOf old.actor) old.limits old.seen agrees (Happened (Join old.actor s)) ok, record { logged = rw history shown.1; decided = rw history shown.0 })
