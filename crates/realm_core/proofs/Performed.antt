-- What a command of the realm, and the keeper's step after it, come to.
use Rattle.std.proofs.Common.{[], ℕ, ◌++◌, ◌∙◌, ◌∷◌, ◌≡◌, ◌⊎◌, Bool, Err, IfOk, Ok, Result, ap, false, if◌then◌else◌, inl, inr, is_ok, refl, subst, sym, true}
use Rattle.realm_core.specs.{Accepted, Accepts, Answers, AnswersOrMemory, BeginClose, Cancel, Checked, DidOrMemory, DidPerform, EndClose, EndValue, Event, EventReply, Finish, FitsEvent, Fork, ForkReply, FoundSo, Happened, History}
use Rattle.realm_core.specs.{KeeperValue, LabelValue, Limits, Memory, Move, Origin, OutOfMemory, OwnerAgrees, OwnerValue, Passes, Performs, Realm, RealmStep, Refusal, Refused, Retirement, TableId, Tick, Tied, TokenOf, Verdict}
use Rattle.realm_core.specs.{Words.noted, advance, after_telling, base_of, check_of, event_reply_of, followed, fork_reply, history_of, history_seen, is_already, is_recorded_by, records, retire_check, step_by, step_check, verdict}
use Rattle.realm_core.specs.{wants_memory, with_event}
use Rattle.realm_core.proofs.Words.{cases_Bool, checks_at, eqb-true, history-push, not_not, not_refused}
use Rattle.realm_core.proofs.Steps.{adds_now, looks_now, passes_here, same_limits, stepped, tied_next}
use Rattle.scope_checks.specs.declared.event_replies.EventReply.TheVariants as told
use Rattle.realm_core.specs.Telling.{told as told_of_keeper}

-- an accepted command passed its check, and answers its value
pub answered : {A : Type 0} (check : Checked) (value answer : A) → AnswersOrMemory check value (Ok answer) → (check ≡ Ok tt) × (answer ≡ value)
answered (Ok done) value answer said = elim said [ inl is ↦ (refl, cc) | inr other ↦ absurd cc ]
answered (Err r) value answer said = absurd cc

-- a refused one was refused by its check, or memory once that passed
pub refused : {A : Type 0} (check : Checked) (value : A) (r : Refusal) → AnswersOrMemory check value (Err r) → (check ≡ Err r) ⊎ ((check ≡ Ok tt) × (r ≡ Memory))
refused (Ok done) value r said = elim said [ inl other ↦ absurd cc | inr is ↦ inr (refl, cc) ]
refused (Err q) value r said = let same : q ≡ r = cc in rw same (inl refl)

-- one that takes no memory is one that may take it
pub answers_so : {A : Type 0} (check : Checked) (value : A) (result : Result A Refusal) → Answers check value result → AnswersOrMemory check value result
answers_so (Ok done) value result said = inl said
answers_so (Err r) value result said = said

-- and is never refused memory, which no check is
pub refused_by : {A : Type 0} (check : Checked) (value : A) (r : Refusal) → Answers check value (Err r) → check ≡ Err r
refused_by (Ok done) value r said = absurd cc
refused_by (Err q) value r said = cc

-- who may retire is main
pub retires_main : (h : History) (a : ℕ) → retire_check h a ≡ Ok tt → a ≡ 0
unfolding retire_check
retires_main h a passed = eqb-true a 0 (not_not _ (not_refused _ _ (checks_at _ 1 _ passed refl)))

pub retired_main : {A : Type 0} (h : History) (a : ℕ) (value : A) (result : Result A Refusal) → AnswersOrMemory (retire_check h a) value result → is_ok result ≡ true → a ≡ 0
retired_main h a value (Ok answer) said so = retires_main h a (answered _ value answer said).0
retired_main h a value (Err r) said so = absurd cc

pub retire_passing : (L : Limits) (a : ℕ) (h : History) → retire_check h a ≡ Ok tt → retire_check h 0 ≡ Ok tt
retire_passing L a h passed = subst (λ (n : ℕ). retire_check h n ≡ Ok tt) (retires_main h a passed) passed

-- a history that begins with the base
abbrev the_base : Origin → History
the_base b = record { base = b; events = [] }

-- what may be said of the step before it is known to be accepted: whoever passes its check may take it
abbrev pub Passing : ℕ → RealmStep → Type 0
Passing a x = (L : Limits) (h : History) → step_check L a x h ≡ Ok tt → Passes L h x

-- the step by which an event is recorded passes if the event is accepted, leaves what the event leaves,
-- and is refused what that is
pub step_passes : (L : Limits) (h : History) (a : ℕ) (e : Event) → Accepts L h e → Passes L h (step_by a e)
step_passes L h a (Cancel scope) ok = ok
step_passes L h a (Move scope deadline) ok = ok
step_passes L h a (Tick now) ok = ok
step_passes L h a _ ok = ok

step_advances : (h : History) (a : ℕ) (e : Event) → advance h (step_by a e) ≡ followed h e
step_advances h a (Cancel scope) = refl
step_advances h a (Move scope deadline) = refl
step_advances h a (Tick now) = refl
step_advances h a _ = refl

pub step_checks : (L : Limits) (a b : ℕ) (e : Event) (h : History) → step_check L a (step_by b e) h ≡ check_of L h e
step_checks L a b (Cancel scope) h = refl
step_checks L a b (Move scope deadline) h = refl
step_checks L a b (Tick now) h = refl
step_checks L a b _ h = refl

noted_new : (already : Bool) (t : EventReply) → t ≡ noted already → records (Ok t) ≡ true → already ≡ false
noted_new true t is so = absurd (cc (rw is at so))
noted_new false t is so = refl

-- what is recorded is not so already
told_new : (h : History) (e : Event) (t : EventReply) → t ≡ event_reply_of h e → records (Ok t) ≡ true → is_already h e ≡ false
told_new h (Cancel scope) t is so = noted_new (is_already h (Cancel scope)) t is so
told_new h (BeginClose actor scope) t is so = noted_new (is_already h (BeginClose actor scope)) t is so
told_new h _ t is so = refl

-- and what is not so already is recorded
pub told_records : (h : History) (e : Event) (t : EventReply) → is_already h e ≡ false → t ≡ event_reply_of h e → records (Ok t) ≡ true
told_records h (Cancel scope) t new is = rw (is, new) refl
told_records h (BeginClose actor scope) t new is = rw (is, new) refl
told_records h _ t new is = rw is refl

noted_already : (already : Bool) → told.Already ≡ noted already → already ≡ true
noted_already true is = refl
noted_already false is = absurd cc

-- and what is said to be so already, is
told_already : (h : History) (e : Event) → told.Already ≡ event_reply_of h e → is_already h e ≡ true
told_already h (Cancel scope) is = noted_already (is_already h (Cancel scope)) is
told_already h (BeginClose actor scope) is = noted_already (is_already h (BeginClose actor scope)) is
told_already h _ is = absurd cc

-- what is recorded with a token is no end of a task
pub recorded_fits : (fits : LabelValue → EndValue → Type 0) (h : History) (a : ℕ) (e : Event) → is_recorded_by a e ≡ true → FitsEvent fits h e
recorded_fits fits h a (Finish task end) so = absurd cc
recorded_fits fits h a _ so = tt

-- if a command recorded its event, the event is accepted
pub accepted_by : (L : Limits) (h : History) (e : Event) (result : Result EventReply Refusal) → Performs L h e result → records result ≡ true → Accepts L h e
accepted_by L h e (Ok t) said so = record { passed = said.0; recorded = told_new h e t said.1 so }
accepted_by L h e (Err r) said so = absurd cc

module _ (name : TableId) (realm : Realm) (keeper : KeeperValue) (tied : Tied name realm keeper) where
  -- what a retirement makes of the realm, with what the keeper is told, is tied again
  pub tied_after : {A : Type 0} (a : ℕ) (x : RealmStep) (value : A) (result : Result A Refusal) (realm' : Realm) (keeper' : KeeperValue) → Passing a x → AnswersOrMemory (step_check realm.limits a x realm.history) value result → realm' ≡ (if is_ok result then stepped realm x else realm) → keeper' ≡ told_of_keeper keeper x (is_ok result) → Tied name realm' keeper'
  tied_after a x value (Ok answer) realm' keeper' passing said realm_is keeper_is =
      let passed = (answered _ value answer said).0 in
      rw (realm_is, keeper_is) (tied_next name realm keeper tied x (passing realm.limits realm.history passed))
  tied_after a x value (Err r) realm' keeper' passing said realm_is keeper_is = rw (realm_is, keeper_is) tied

  -- and so is what an accepted event makes of them
  pub tied_with : (a : ℕ) (e : Event) → Accepts realm.limits realm.history e → Tied name (with_event realm e) (record keeper { steps = keeper.steps ++ step_by a e ∷ [] })
  tied_with a e ok =
      let P : History → Type 0 = λ h. Tied name (record { limits = realm.limits; history = h }) (record keeper { steps = keeper.steps ++ step_by a e ∷ [] }) in
      subst P (step_advances realm.history a e) (tied_next name realm keeper tied (step_by a e) (step_passes realm.limits realm.history a e ok))

  -- and what a command does, whether it records its event or not
  pub tied_performed : (a : ℕ) (e : Event) (result : Result EventReply Refusal) (realm' : Realm) (keeper' : KeeperValue) → Performs realm.limits realm.history e result → realm' ≡ after_telling realm e result → keeper' ≡ told_of_keeper keeper (step_by a e) (records result) → Tied name realm' keeper'
  tied_performed a e result realm' keeper' said realm_is keeper_is =
      elim (cases_Bool (records result)) [
        | inl so ↦ rw (realm_is, keeper_is, so) (tied_with a e (accepted_by realm.limits realm.history e result said so))
        | inr none ↦ rw (realm_is, keeper_is, none) tied
      ]

  module _ (old : OwnerValue) (agrees : OwnerAgrees old keeper) where
    -- what the realm's check of the step is, is what the token's is
    pub check_here : (x : RealmStep) → step_check old.limits old.actor x (history_of keeper.steps) ≡ step_check realm.limits old.actor x realm.history
    check_here x = rw (same_limits name realm keeper tied (TokenOf old.actor) old.limits old.seen agrees, tied.replay) refl

    pub refuses_now : (x : RealmStep) (r : Refusal) → step_check realm.limits old.actor x realm.history ≡ Err r → Refused old (record old { seen = keeper.steps }) x r
    refuses_now x r is = record { looks = looks_now name realm keeper tied (TokenOf old.actor) old.limits old.seen agrees; by = check_here x ∙ is }

    pub no_memory_now : (x : RealmStep) (r : Refusal) → step_check realm.limits old.actor x realm.history ≡ Ok tt → r ≡ Memory → OutOfMemory old (record old { seen = keeper.steps }) x r
    no_memory_now x r passed is = record { looks = looks_now name realm keeper tied (TokenOf old.actor) old.limits old.seen agrees; passed = check_here x ∙ passed; memory = is }

    -- what the token was shown is what the command did
    pub does_now : {A : Type 0} (x : RealmStep) (reply : History → A) (result : Result A Refusal) (keeper' : KeeperValue) (new : OwnerValue) → Passing old.actor x → AnswersOrMemory (step_check realm.limits old.actor x realm.history) (reply realm.history) result → keeper' ≡ told_of_keeper keeper x (is_ok result) → new ≡ record old { seen = keeper'.steps } → DidOrMemory old new x reply result
    does_now x reply (Ok answer) keeper' new passing said keeper_is new_is =
        let it = answered _ (reply realm.history) answer said in
        let added = adds_now name realm keeper tied (TokenOf old.actor) old.limits old.seen agrees x (passing realm.limits realm.history it.0) in
        rw (new_is, keeper_is) (record {
          adds = record { there = keeper.steps; agrees = agrees.agrees; is = refl; accepted = passes_here name realm keeper tied (TokenOf old.actor) old.limits old.seen agrees x (passing realm.limits realm.history it.0); legal = added.legal };
          replied = it.1 ∙ ap reply (sym tied.replay);
        })
    does_now x reply (Err r) keeper' new passing said keeper_is new_is =
        rw (new_is, keeper_is)
        (elim (refused _ (reply realm.history) r said) [
          | inl by ↦ inl (refuses_now x r by)
          | inr memory ↦ inr (no_memory_now x r memory.0 memory.1)
        ])

    -- the command of an event that may find all so already
    found_now : (e : Event) → check_of realm.limits realm.history e ≡ Ok tt → is_already realm.history e ≡ true → FoundSo old (record old { seen = keeper.steps }) e
    found_now e passed already = record {
      looks = looks_now name realm keeper tied (TokenOf old.actor) old.limits old.seen agrees;
      passed = sym (step_checks old.limits old.actor old.actor e (history_of keeper.steps)) ∙ (check_here (step_by old.actor e) ∙ (step_checks realm.limits old.actor old.actor e realm.history ∙ passed));
      already = rw tied.replay already;
    }

    told_now : (e : Event) (t : EventReply) → Accepts realm.limits realm.history e → t ≡ event_reply_of realm.history e → Accepted old (record old { seen = keeper.steps ++ step_by old.actor e ∷ [] }) (step_by old.actor e) (λ h. event_reply_of h e) t
    told_now e t ok is =
        let x = step_by old.actor e in
        let passes = step_passes realm.limits realm.history old.actor e ok in
        let added = adds_now name realm keeper tied (TokenOf old.actor) old.limits old.seen agrees x passes in
        record {
          adds = record { there = keeper.steps; agrees = agrees.agrees; is = refl; accepted = passes_here name realm keeper tied (TokenOf old.actor) old.limits old.seen agrees x passes; legal = added.legal };
          replied = is ∙ ap (λ (h : History). event_reply_of h e) (sym tied.replay);
        }

    -- what the command of an event did with the token
    pub performed_now : (e : Event) (result : Result EventReply Refusal) (keeper' : KeeperValue) (new : OwnerValue) → Performs realm.limits realm.history e result → keeper' ≡ told_of_keeper keeper (step_by old.actor e) (records result) → new ≡ record old { seen = keeper'.steps } → DidPerform old new e result
    performed_now e (Ok told.Already) keeper' new said keeper_is new_is = rw (new_is, keeper_is) (found_now e said.0 (told_already realm.history e said.1))
    performed_now e (Ok answer) keeper' new said keeper_is new_is =
        rw (new_is, keeper_is) (told_now e answer (record { passed = said.0; recorded = told_new realm.history e answer said.1 refl }) said.1)
    performed_now e (Err r) keeper' new said keeper_is new_is =
        let x = step_by old.actor e in
        let checks = step_checks realm.limits old.actor old.actor e realm.history in
        rw (new_is, keeper_is)
        (elim said [
          | inl by ↦ inl (refuses_now x r (checks ∙ by))
          | inr memory ↦ inr (no_memory_now x r (checks ∙ memory.0) memory.1, rw tied.replay memory.2)
        ])

    -- what a retirement answered is the base of the history that the token sees
    pub base_seen : (result : Result Origin Refusal) (keeper' : KeeperValue) (new : OwnerValue) → AnswersOrMemory (retire_check realm.history old.actor) (base_of realm.history) result → keeper' ≡ told_of_keeper keeper Retirement (is_ok result) → new ≡ record old { seen = keeper'.steps } → IfOk result (λ base. history_seen new ≡ record { base = base; events = [] })
    base_seen (Ok base) keeper' new said keeper_is new_is =
        let it = answered _ (base_of realm.history) base said in
        rw (new_is, keeper_is) (history-push keeper.steps Retirement ∙ ap (λ (b : Origin). the_base b) (ap base_of tied.replay ∙ sym it.1))
    base_seen (Err r) keeper' new said keeper_is new_is = tt

-- a command that wants no memory is never refused any
pub refused_surely : (old new : OwnerValue) (e : Event) (r : Refusal) → wants_memory (history_seen new) e ≡ false → DidPerform old new e (Err r) → Refused old new (step_by old.actor e) r
refused_surely old new e r none (inl by) = by
refused_surely old new e r none (inr memory) = absurd (cc (memory.1, none))

-- what a fork is told is the task
pub fork_told : (old new : OwnerValue) (a s : ℕ) (label : LabelValue) (x : RealmStep) (reply : ForkReply) → Accepted old new x (λ h. event_reply_of h (Fork a s label)) (told.Task reply) → Accepted old new x (λ h. fork_reply h s) reply
fork_told old new a s label x reply did = record { adds = did.adds; replied = the_same reply (fork_reply (history_of did.adds.there) s) did.replied }
  where
    the_same : (r q : ForkReply) → told.Task r ≡ told.Task q → r ≡ q
    the_same r q is = cc

-- what the end of a close is told is the verdict
pub closed_told : (old new : OwnerValue) (a s : ℕ) (v : Verdict) → DidPerform old new (EndClose a s) (Ok (told.Closed v)) → Accepted old new (Happened (EndClose a s)) (λ h. verdict h s) v
closed_told old new a s v did = record { adds = did.adds; replied = the_same v (verdict (history_of did.adds.there) s) did.replied }
  where
    the_same : (v w : Verdict) → told.Closed v ≡ told.Closed w → v ≡ w
    the_same v w is = cc
