-- Why who sleeps waits: what it waits for is not there yet, and no deadline has come.
use Rattle.std.proofs.Common.{[], ℕ, ◌&&◌, ◌++◌, ◌<◌, ◌==◌, ◌||◌, ◌∙◌, ◌∷◌, ◌≡◌, Bool, Err, IfOk, List, None, Ok, Option, Result, Some, ap, arith, false, if◌then◌else◌, inl, inr, is_ok, is_some, nat_le, nat_lt, not, refl, subst}
use Rattle.std.proofs.Common.{sym, true}
use Rattle.scope_rules.specs.declared.types.events.Event.TheVariants.{Tick}
use Rattle.realm_lock.specs.{AlreadyJoined, Asked, Checked, Closed, CoreValue, EventReply, FoundUnsettled, Happened, HasCome, History, HoldsUp, IsBegun, IsHeldUp, Join, Joins, Limits, Memory}
use Rattle.realm_lock.specs.{NoScope, NoTask, NotOwner, NotReady, OwnerValue, Performed, Realm, RealmStep, Refusal, Refused, Retired, Stepped, Words.forking, WrongStage, actor_check, check_of, checks, closing, done, history_of}
use Rattle.realm_lock.specs.{history_seen, is_cancelled, is_running, joined, known_actor, known_scope, known_task, moment, opening, owns, ready, records, refuse_if, row_check, scope_check, settled, stage, task_check, then_check}
use Rattle.realm_lock.proofs.Words.{history-push, moment_grows}
use Rattle.share_ledger.specs.declared.steps.Ask.TheVariants as ask
use Rattle.scope_checks.specs.declared.event_replies.EventReply.TheVariants as told

-- ---- a join that is not ready

otherwise : (b : Bool) (x : Refusal) → (x ≡ NotReady → ⊥) → refuse_if b x ≡ Err NotReady → ⊥
otherwise true x apart is = let same : x ≡ NotReady = cc in apart same
otherwise false x apart is = absurd cc

-- the check before isn't refused so, so one behind it is
behind_check : (c : Checked) (cs : List Checked) → (c ≡ Err NotReady → ⊥) → checks (c ∷ cs) ≡ Err NotReady → checks cs ≡ Err NotReady
unfolding checks then_check
behind_check (Ok tt) cs apart is = is
behind_check (Err r) cs apart is = let same : r ≡ NotReady = cc in absurd (apart (ap Err same))

numbered : (b c : Bool) (x : Refusal) → (x ≡ NotReady → ⊥) → (if b then Err Retired else refuse_if c x) ≡ Err NotReady → ⊥
numbered true c x apart is = absurd cc
numbered false c x apart is = otherwise c x apart is

alone : (c : Checked) → (c ≡ Err NotReady → ⊥) → checks (c ∷ []) ≡ Err NotReady → ⊥
unfolding checks
alone c apart it = let none : checks [] ≡ Err NotReady = behind_check c [] apart it in absurd cc

task_passes : (h : History) (a : ℕ) → task_check h a ≡ Err NotReady → ⊥
unfolding known_task
task_passes h a it = numbered (nat_lt 0 a && nat_le a h.base.tasks) (not (is_some (forking h a))) NoTask (λ same. absurd cc) it

runs : (h : History) (a : ℕ) → checks (task_check h a ∷ refuse_if (not (is_running (stage h a))) WrongStage ∷ []) ≡ Err NotReady → ⊥
runs h a refused =
    let last = behind_check (task_check h a) (refuse_if (not (is_running (stage h a))) WrongStage ∷ []) (task_passes h a) refused in
    alone (refuse_if (not (is_running (stage h a))) WrongStage) (otherwise (not (is_running (stage h a))) WrongStage (λ same. absurd cc)) last

acts_by : (b : Bool) (c : Checked) → (c ≡ Err NotReady → ⊥) → (if b then Ok tt else c) ≡ Err NotReady → ⊥
acts_by true c apart it = absurd cc
acts_by false c apart it = apart it

acts : (h : History) (a : ℕ) → actor_check h a ≡ Err NotReady → ⊥
unfolding known_actor
acts h a is = acts_by (a == 0) (checks (task_check h a ∷ refuse_if (not (is_running (stage h a))) WrongStage ∷ [])) (runs h a) is

last_check : (b : Bool) → checks (refuse_if b NotReady ∷ []) ≡ Err NotReady → b ≡ true
unfolding checks then_check
last_check true is = refl
last_check false is = absurd cc

-- if a join is not ready, a task of the scope waits or runs
pub unready : (L : Limits) (h : History) (a s : ℕ) → check_of L h (Join a s) ≡ Err NotReady → settled h s ≡ false
unfolding row_check known_scope ready
unready L h a s is =
    let one = behind_check (actor_check h a) _ (acts h a) is in
    let two = behind_check (scope_check h s) _ (λ it. numbered (nat_lt 0 s && nat_le s h.base.scopes) (not (is_some (opening h s))) NoScope (λ same. absurd cc) it) one in
    let three = behind_check (refuse_if (not (owns h a s)) NotOwner) _ (otherwise _ NotOwner (λ same. absurd cc)) two in
    let four = behind_check (refuse_if (closing h s) Closed) _ (otherwise _ Closed (λ same. absurd cc)) three in
    let five = behind_check (refuse_if (joined h s) AlreadyJoined) _ (otherwise _ AlreadyJoined (λ same. absurd cc)) four in
    by (is_cancelled h s) (settled h s) (last_check (not (ready h s)) five)
  where
    by : (c b : Bool) → not (c || b) ≡ true → b ≡ false
    by true b it = absurd cc
    by false true it = absurd cc
    by false false it = refl

module _ (core after final : CoreValue) (old new : OwnerValue) (s : ℕ) (same : final ≡ after) where
  seen_there : Stepped core after new (Happened (Join old.actor s)) false → history_of new.seen ≡ history_of final.steps
  seen_there stepped = sym (ap (λ (k : CoreValue). history_of k.steps) (same ∙ stepped.0))

  busy_by : (r : Refusal) → r ≡ NotReady → Stepped core after new (Happened (Join old.actor s)) false → Refused old new (Happened (Join old.actor s)) r → settled (history_of final.steps) s ≡ false
  busy_by r is stepped by = subst (λ (h : History). settled h s ≡ false) (seen_there stepped) (unready old.limits (history_of new.seen) old.actor s (by.by ∙ ap Err is))

  -- what a join leaves that is not ready
  pub join_busy : {A : Type 0} (Did : OwnerValue → OwnerValue → ℕ → Result A Refusal → Type 0) (result : Result A Refusal) → ((r : Refusal) → Did old new s (Err r) → Joins old new s (Err r)) → Stepped core after new (Happened (Join old.actor s)) (is_ok result) → Did old new s result → result ≡ Err NotReady → settled (history_of final.steps) s ≡ false
  join_busy Did (Ok joined) refused stepped did is = absurd cc
  join_busy Did (Err r) refused stepped did is =
      let named : r ≡ NotReady = cc in
      elim (refused r did).1 [
        | inl by ↦ busy_by r named stepped by
        | inr none ↦ let both : Memory ≡ NotReady = sym none.memory ∙ named in absurd cc
      ]

-- ---- a close that is held up

pub held_up : (h : History) (a s : ℕ) (t : ℕ) → IsBegun h a s → FoundUnsettled h s (Some t) → IsHeldUp h s
held_up h a s t begun found = record { actor = a; opens = begun.of; by = t; holds = subst (λ (b : ℕ). HoldsUp h b s t) begun.of.by (found begun.of.opened begun.of.is begun.of.unclosed) }

-- by what a look found
pub held_at : (core : CoreValue) (realm : Realm) (token : OwnerValue) (a s : ℕ) (found : Option ℕ) (none : Bool) → realm ≡ record { limits = core.limits; history = history_of core.steps } → core.steps ≡ token.seen → IsBegun (history_seen token) a s → FoundUnsettled realm.history s found → is_some found ≡ not none → none ≡ false → IsHeldUp (history_of core.steps) s
held_at core realm token a s (Some t) none lent all begun finds is not_none =
    let here : FoundUnsettled (history_of core.steps) s (Some t) = subst (λ (r : Realm). FoundUnsettled r.history s (Some t)) lent finds in
    held_up (history_of core.steps) a s t (subst (λ (l : List RealmStep). IsBegun (history_of l) a s) (sym all) begun) here
held_at core realm token a s None none lent all begun finds is not_none =
    let both : false ≡ not false = is ∙ ap not not_none in
    absurd cc

-- and what is found then
pub busy_at : (core there : CoreValue) (realm : Realm) (s t : ℕ) → there ≡ core → realm ≡ record { limits = there.limits; history = history_of there.steps } → IsHeldUp (history_of core.steps) s → FoundUnsettled realm.history s (Some t) → settled (history_of core.steps) t ≡ false
busy_at core there realm s t same lent held finds =
    let here : FoundUnsettled (history_of core.steps) s (Some t) = subst (λ (k : CoreValue). FoundUnsettled (history_of k.steps) s (Some t)) same (subst (λ (r : Realm). FoundUnsettled r.history s (Some t)) lent finds) in
    (here held.opens.opened held.opens.is held.opens.unclosed).busy

-- if nothing is found, nothing holds it up
pub none_busy : (core there : CoreValue) (realm : Realm) (s : ℕ) → there ≡ core → realm ≡ record { limits = there.limits; history = history_of there.steps } → IsHeldUp (history_of core.steps) s → FoundUnsettled realm.history s None → ⊥
none_busy core there realm s same lent held finds =
    let here : FoundUnsettled (history_of core.steps) s None = subst (λ (k : CoreValue). FoundUnsettled (history_of k.steps) s None) same (subst (λ (r : Realm). FoundUnsettled r.history s None) lent finds) in
    let it = held.holds in
    let owner : it.of.opened.actor ≡ held.opens.opened.actor = it.of.by ∙ sym held.opens.by in
    let quiet : settled (history_of core.steps) held.by ≡ true = here held.opens.opened held.opens.is held.opens.unclosed held.by it.of.opened it.of.is owner it.from it.of.unclosed in
    let both : true ≡ false = sym quiet ∙ it.busy in
    absurd cc

-- ---- a tick leaves no deadline that has come

pub none_after : (there : List RealmStep) (a now : ℕ) → HasCome (history_of (there ++ Asked a (ask.Tick now) ∷ [])) now → ⊥
none_after there a now due = omega (arith, at, due.come, late)
  where
    at : moment (history_of (there ++ Asked a (ask.Tick now) ∷ [])) ≡ now
    at = ap moment (history-push there (Asked a (ask.Tick now))) ∙ moment_grows (history_of there) (Tick now)

    late : moment (history_of (there ++ Asked a (ask.Tick now) ∷ [])) < due.deadline
    late = due.next.comes.coming

-- what the command of a tick leaves that was accepted
pub tick_passed : (core after final : CoreValue) (old new : OwnerValue) (now : ℕ) (result : Result EventReply Refusal) → final ≡ after → Stepped core after new (Asked old.actor (ask.Tick now)) (records result) → Performed old new (Tick now) result → IfOk (done result) (λ _. (final.steps ≡ new.seen) × (HasCome (history_of final.steps) now → ⊥))
tick_passed core after final old new now (Ok told.Already) same stepped did = absurd (both did.1.already)
  where
    both : false ≡ true → ⊥
    both is = absurd cc
tick_passed core after final old new now (Ok answer) same stepped did =
    let x = Asked old.actor (ask.Tick now) in
    let steps : final.steps ≡ core.steps ++ x ∷ [] = ap (λ (k : CoreValue). k.steps) (same ∙ stepped.1) in (
      ap (λ (k : CoreValue). k.steps) (same ∙ stepped.0),
      λ due. none_after core.steps old.actor now (subst (λ (l : List RealmStep). HasCome (history_of l) now) steps due),
    )
tick_passed core after final old new now (Err r) same stepped did = tt
