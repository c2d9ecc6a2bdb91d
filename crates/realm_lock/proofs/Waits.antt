-- What waits by a clock do, put together turn by turn.
use Rattle.std.proofs.Common.{[], ℕ, ◌++◌, ◌∙◌, ◌∷◌, ◌≡◌, ◌⊎◌, Bool, Err, IfErr, IfOk, List, MatchOption, MatchResult, None, Ok, Option, Result, Some, ap, arith, false, inl, inr, nat_lt, refl, subst, sym, true}
use Rattle.scope_rules.specs.declared.types.events.Event.TheVariants.{Tick}
use Rattle.share_ledger.specs.Holders.{Agrees}
use Rattle.realm_lock.specs.{Asked, Begins, Cancelling, ClosesAfter, CoreValue, EventReply, HasCome, HasLooked, History, IsBegun, Joins, JoinsBy, JoinsInTime, Limits, Looked, Memory, NotReady, OwnerValue, Performed}
use Rattle.realm_lock.specs.{ReadsAs, RealmStep, Refusal, STEP_LOAD, SeesMore, StaysUnclosed, Stepped, Stopped, StopsClosing, TickRefused, Ticks, TokenOf, TooMany, TakesTurn, TurnRefused, Turned, Waited, WaitsToClose}
use Rattle.realm_lock.specs.{began, check_of, checks, done, history_of, history_seen, looked, looks, moment, over_load, passes, read, records, row_check, stays, then_check, ticked}
use Rattle.realm_lock.proofs.Words.{agrees_on, agrees_same, begun_asked, begun_looked, le-ltb, same_from_push}
use Rattle.share_ledger.specs.declared.steps.Ask.TheVariants as ask
use Rattle.scope_checks.specs.declared.event_replies.EventReply.TheVariants as told

-- a tick that is due is refused by the rules for the load alone
full : (L : Limits) (h : History) (now : ℕ) (r : Refusal) → HasCome h now → check_of L h (Tick now) ≡ Err r → r ≡ TooMany
unfolding row_check checks then_check
full L h now r due is = by (over_load L h STEP_LOAD) refl
  where
    forward : nat_lt now (moment h) ≡ false
    forward = le-ltb now (moment h) (omega (arith, due.next.comes.coming, due.come))

    by : (b : Bool) → over_load L h STEP_LOAD ≡ b → r ≡ TooMany
    by true over = let said = rw (forward, over) at is in cc
    by false fits = let said = rw (forward, fits) at is in absurd cc

-- what the command of a tick did that is due
pub tick_done : (core after : CoreValue) (old new : OwnerValue) (now : ℕ) (result : Result EventReply Refusal) → HasCome (history_of core.steps) now → Stepped core after new (Asked old.actor (ask.Tick now)) (records result) → Performed old new (Tick now) result → MatchResult (done result) (λ _. Ticks old new now) (TickRefused old new now)
tick_done core after old new now (Ok told.Already) due stepped did = absurd (both did.1.already)
  where
    both : false ≡ true → ⊥
    both is = cc
tick_done core after old new now (Ok answer) due stepped did =
    let x = Asked old.actor (ask.Tick now) in
    let steps : new.seen ≡ core.steps ++ x ∷ [] = ap (λ (k : CoreValue). k.steps) (sym stepped.0 ∙ stepped.1) in
    let there : did.1.adds.there ≡ core.steps = (same_from_push did.1.adds.there core.steps x x (sym did.1.adds.is ∙ steps)).0 in
    record { same = did.0; adds = did.1.adds; due = subst (λ (l : List RealmStep). HasCome (history_of l) now) (sym there) due }
tick_done core after old new now (Err r) due stepped did =
    let steps : new.seen ≡ core.steps = ap (λ (k : CoreValue). k.steps) (sym stepped.0 ∙ stepped.1) in
    let here : HasCome (history_of new.seen) now = subst (λ (l : List RealmStep). HasCome (history_of l) now) (sym steps) due in
    elim did.1 [
      | inl by ↦ record { same = did.0; due = here; refused = inl by; why = inl (full old.limits (history_of new.seen) now r here by.by) }
      | inr none ↦ record { same = did.0; due = here; refused = inr none.0; why = inr none.0.memory }
    ]

-- ---- a close that goes on

of_mid : (old mid : OwnerValue) (h : History) (s : ℕ) → SeesMore old mid → IsBegun h old.actor s → IsBegun h mid.actor s
of_mid old mid h s same it = subst (λ (a : ℕ). IsBegun h a s) (sym (ap (λ (t : OwnerValue). t.actor) same)) it

pub of_first : (old mid : OwnerValue) (h : History) (s : ℕ) → SeesMore old mid → IsBegun h mid.actor s → IsBegun h old.actor s
of_first old mid h s same it = subst (λ (a : ℕ). IsBegun h a s) (ap (λ (t : OwnerValue). t.actor) same) it

-- it goes on over a look, and over a tick
pub begun_turned : (old mid new : OwnerValue) (s now : ℕ) → SeesMore old mid → IsBegun (history_seen mid) old.actor s → Looked mid new ⊎ Ticks mid new now → IsBegun (history_seen new) old.actor s
begun_turned old mid new s now same it (inl look) = of_first old mid (history_seen new) s same (begun_looked mid.limits mid.actor s mid.seen new.seen look.1 (of_mid old mid (history_seen mid) s same it))
begun_turned old mid new s now same it (inr tick) = of_first old mid (history_seen new) s same (begun_asked mid new s (ask.Tick now) tick.adds (of_mid old mid (history_seen mid) s same it))

-- and if the tick is refused
pub begun_refused : (old mid new : OwnerValue) (s now : ℕ) (r : Refusal) → SeesMore old mid → IsBegun (history_seen mid) old.actor s → TickRefused mid new now r → IsBegun (history_seen new) old.actor s
begun_refused old mid new s now r same it tick =
    let looks : HasLooked mid new = elim tick.refused [ inl by ↦ by.looks | inr none ↦ none.looks ] in
    begun_turned old mid new s now same it (inl (tick.same, looks))

-- over a look and a tick, for the token as it is then
pub begun_ticked : (old mid new : OwnerValue) (s now : ℕ) → Looked old mid → IsBegun (history_seen mid) old.actor s → Ticks mid new now → IsBegun (history_seen new) new.actor s
begun_ticked old mid new s now look it tick = subst (λ (a : ℕ). IsBegun (history_seen new) a s) (sym (ap (λ (t : OwnerValue). t.actor) (tick.same ∙ ap (λ (t : OwnerValue). record t { seen = new.seen }) look.0))) (begun_turned old mid new s now look.0 it (inr tick))

-- what is so if there is none
pub none_of : {A : Type 0} (o : Option A) (P : Type 0) (Q : A → Type 0) → o ≡ None → MatchOption o P Q → P
none_of None P Q is it = it
none_of (Some a) P Q is it = absurd cc

module _ {K : Type 0} (reads : K → K → ℕ → Type 0) (old : OwnerValue) where
  -- a close that began stops at a tick that was refused
  pub stops : (begun new : OwnerValue) (from last : K) (s : ℕ) (how : Cancelling) (result : Result (Unit {0}) Refusal) → SeesMore old begun → Begins old begun s (Ok how) → IsBegun (history_seen new) begun.actor s → MatchResult result (λ _. Waited reads begun from new last) (Stopped reads begun new from last) → IfErr result (StopsClosing reads old new from last s)
  stops begun new from last s how (Ok done) same begins still it = tt
  stops begun new from last s how (Err refusal) same begins still it = record {
    begun = begun;
    how = how;
    same = same;
    begins = begins;
    stopped = it;
    still = subst (λ (a : ℕ). IsBegun (history_seen new) a s) (ap (λ (t : OwnerValue). t.actor) same) still;
  }

  -- or has waited
  pub waits : (begun new : OwnerValue) (from last : K) (s : ℕ) (how : Cancelling) (result : Result (Unit {0}) Refusal) → SeesMore old begun → Begins old begun s (Ok how) → IsBegun (history_seen new) begun.actor s → MatchResult result (λ _. Waited reads begun from new last) (Stopped reads begun new from last) → MatchResult result (λ _. WaitsToClose reads old new from last s) (StaysUnclosed reads old new from last s)
  waits begun new from last s how (Ok done) same begins still it = record { begun = begun; how = how; same = same; begins = begins; waited = it }
  waits begun new from last s how (Err refusal) same begins still it = inr (stops begun new from last s how (Err refusal) same begins still it)

-- a refused join looked
pub join_looked : (old new : OwnerValue) (s : ℕ) (r : Refusal) → Joins old new s (Err r) → Looked old new
join_looked old new s r it = (it.0, elim it.1 [ inl by ↦ by.looks | inr none ↦ none.looks ])

-- a join in a hold that took a turn before
pub in_time : {A : Type 0} (Did : OwnerValue → OwnerValue → ℕ → Result A Refusal → Type 0) (now : Option ℕ) (old there new : OwnerValue) (s : ℕ) (result : Result A Refusal) → TakesTurn now old there → Did there new s result → JoinsInTime Did now old new s result
in_time Did now old there new s (Ok joined) turns it = record { there = there; turns = turns; joins = it }
in_time Did now old there new s (Err refusal) turns it = inl (record { there = there; turns = turns; joins = it })

-- a reading of that moment
read_so : {K : Type 0} (reads : K → K → ℕ → Type 0) (clock next : K) (now : Option ℕ) (m : ℕ) → now ≡ Some m → ReadsAs reads clock next now → reads clock next m
read_so reads clock next now m is reading = subst (ReadsAs reads clock next) is reading

module _ {K : Type 0} {reads : K → K → ℕ → Type 0} {old : OwnerValue} {start : K} where
  has_read : (there : OwnerValue) (clock next : K) (now : Option ℕ) → Waited reads old start there clock → ReadsAs reads clock next now → Waited reads old start there next
  has_read there clock next None so_far same = subst (Waited reads old start there) (sym same) so_far
  has_read there clock next (Some m) so_far reading = read so_far reading

  -- a hold behind a reading: that is still to come, if it didn't tick; and it has come
  turned_in : (now : Option ℕ) (there new : OwnerValue) (clock next : K) (ticks : Bool) → Waited reads old start there clock → ReadsAs reads clock next now → Turned now there new ticks → (ticks ≡ false → Waited reads old start new clock) × Waited reads old start new next
  turned_in now there new clock next ticks so_far reading stays = (λ none. so_far, has_read there clock next now so_far reading)
  turned_in now there new clock next ticks so_far reading (looks turned look) =
      let it = turned_in now there _ clock next ticks so_far reading turned in
      (λ none. looked (it.0 none) look, looked it.1 look)
  turned_in now there new clock next ticks so_far reading (passes {moment = m} turned is tick) =
      let it = turned_in now there _ clock next false so_far reading turned in
      (λ none. absurd cc, ticked (it.0 refl) (read_so reads clock next now m is reading) tick)

  -- the same, if it is not said whether it ticked
  pub turns_in : (now : Option ℕ) (there new : OwnerValue) (clock next : K) → Waited reads old start there clock → ReadsAs reads clock next now → TakesTurn now there new → Waited reads old start new next
  turns_in now there new clock next so_far reading turns = (turned_in now there new clock next turns.0 so_far reading turns.1).1

  -- the tick was refused
  pub stopped_in : (now : Option ℕ) (there new : OwnerValue) (clock next : K) (refusal : Refusal) → Waited reads old start there clock → ReadsAs reads clock next now → TurnRefused now there new refusal → Stopped reads old new start next refusal
  stopped_in now there new clock next refusal so_far reading it = record {
    there = it.there;
    clock = clock;
    waited = (turned_in now there it.there clock next false so_far reading it.turned).0 refl;
    now = it.moment;
    read = read_so reads clock next now it.moment it.read reading;
    refused = it.refused;
  }

  module _ {A : Type 0} (Did : OwnerValue → OwnerValue → ℕ → Result A Refusal → Type 0) (there new : OwnerValue) (clock next : K) (s : ℕ) (now : Option ℕ) (so_far : Waited reads old start there clock) (reading : ReadsAs reads clock next now) where
    -- a join that was answered
    pub joined_in : (result : Result A Refusal) → JoinsInTime Did now there new s result → JoinsBy reads Did old new start next s result
    joined_in (Ok joined) it = record { there = it.there; waited = turns_in now there it.there clock next so_far reading it.turns; joins = it.joins }
    joined_in (Err refusal) (inl it) = inl (record { there = it.there; waited = turns_in now there it.there clock next so_far reading it.turns; joins = it.joins })
    joined_in (Err refusal) (inr it) = inr (stopped_in now there new clock next refusal so_far reading it)

    -- and one that is not ready
    pub unready_in : (r : Refusal) → r ≡ NotReady → ((mid : OwnerValue) → Did mid new s (Err r) → Joins mid new s (Err r)) → JoinsInTime Did now there new s (Err r) → Waited reads old start new next
    unready_in r is refused (inl it) = looked (turns_in now there it.there clock next so_far reading it.turns) (join_looked it.there new s r (refused it.there it.joins))
    unready_in r is refused (inr it) =
        absurd (elim it.refused.why [
          | inl full ↦ let both : TooMany ≡ NotReady = sym full ∙ is in absurd cc
          | inr none ↦ let both : Memory ≡ NotReady = sym none ∙ is in absurd cc
        ])

  -- what the close did, or was refused for, that came then
  pub ok_after : {A E : Type 0} (P : A → OwnerValue → Type 0) (there : OwnerValue) (last : K) (s : ℕ) (result : Result A E) → WaitsToClose reads old there start last s → IfOk result (λ a. P a there) → IfOk result (λ a. ClosesAfter reads old start last s (P a))
  ok_after P there last s (Ok a) waited it = record { there = there; waits = waited; then = it }
  ok_after P there last s (Err e) waited it = tt

  pub err_after : {A E : Type 0} (P : E → OwnerValue → Type 0) (Other : E → Type 0) (there : OwnerValue) (last : K) (s : ℕ) (result : Result A E) → WaitsToClose reads old there start last s → IfErr result (λ e. P e there) → IfErr result (λ e. Other e ⊎ ClosesAfter reads old start last s (P e))
  err_after P Other there last s (Ok a) waited it = tt
  err_after P Other there last s (Err e) waited it = inr (record { there = there; waits = waited; then = it })

  -- nothing else of the token changes while it waits
  pub waited_sees : (there : OwnerValue) (clock : K) → Waited reads old start there clock → SeesMore old there
  waited_sees there clock began = refl
  waited_sees there clock (looked so_far look) = look.0 ∙ ap (λ (t : OwnerValue). record t { seen = there.seen }) (waited_sees _ _ so_far)
  waited_sees there clock (read so_far reading) = waited_sees _ _ so_far
  waited_sees there clock (ticked so_far reading tick) = tick.same ∙ ap (λ (t : OwnerValue). record t { seen = there.seen }) (waited_sees _ _ so_far)

-- ---- waits that read nothing

-- it looked, and that is all
waited_never : {K : Type 0} (reads : K → K → ℕ → Type 0) (old : OwnerValue) (start : K) (none : (a b : K) (n : ℕ) → reads a b n → ⊥) (there : OwnerValue) (clock : K) → Waited reads old start there clock → Agrees (TokenOf old.actor) old.seen there.seen
waited_never reads old start none there clock began = agrees_same (TokenOf old.actor) old.seen
waited_never reads old start none there clock (looked {there = mid} so_far look) =
    let same = ap (λ (t : OwnerValue). t.actor) (waited_sees mid clock so_far) in
    agrees_on (TokenOf old.actor) old.seen mid.seen there.seen (waited_never reads old start none mid clock so_far) (subst (λ (a : ℕ). Agrees (TokenOf a) mid.seen there.seen) same look.1.agrees)
waited_never reads old start none there clock (read so_far reading) = absurd (none _ _ _ reading)
waited_never reads old start none there clock (ticked so_far reading tick) = absurd (none _ _ _ reading)

-- so a join by no clock is one
pub joins_never : {K A : Type 0} (reads : K → K → ℕ → Type 0) (none : (a b : K) (n : ℕ) → reads a b n → ⊥) (Did : OwnerValue → OwnerValue → ℕ → Result A Refusal → Type 0) (old new : OwnerValue) (start last : K) (s : ℕ) (result : Result A Refusal)
    → ((now : OwnerValue) → SeesMore old now → Agrees (TokenOf old.actor) old.seen now.seen → Did now new s result → Did old new s result) → JoinsBy reads Did old new start last s result → Did old new s result
joins_never reads none Did old new start last s (Ok joined) later it = later it.there (waited_sees it.there last it.waited) (waited_never reads old start none it.there last it.waited) it.joins
joins_never reads none Did old new start last s (Err refusal) later (inl it) = later it.there (waited_sees it.there last it.waited) (waited_never reads old start none it.there last it.waited) it.joins
joins_never reads none Did old new start last s (Err refusal) later (inr it) = absurd (none _ _ _ it.read)
