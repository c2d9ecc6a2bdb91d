-- How the scope of a request is opened, and how its tasks are forked one after the other.
use Rattle.std.specs.Prelude.{◌++◌, ◌+◌, ◌==◌, ◌||◌, ◌∷◌, ◌≡◌, ◌≤◌}
use Rattle.quote_gateway.specs.{[], ℕ, Accepts, Added, Agrees, Asked, Bool, Event, Fork, ForkReply, ForkedAs, Forking, GoesOn, Happened, HasForked, History, IsLegal}
use Rattle.quote_gateway.specs.{IsOpenHere, IsOpenOf, KeepsScopes, KeepsTasks, LabelValue, Legal, Limits, List, Mode, Open, Opening, Opens, Options, OwnerValue, Policy, RealmStep, Reject, Retirement}
use Rattle.quote_gateway.specs.{SeesMore, Some, TokenOf, advance, advanced, asked, base_of, false, filter, followed, fork_reply, fresh, history_of, history_seen, is_cancelled, is_task_of, label, map}
use Rattle.quote_gateway.specs.{nests, opening, policy_of, rejected, scopes, shapes, task_in, task_numbers, tasks, tasks_of, true}
use Rattle.quote_gateway.proofs.Words.{◌∙◌, HasNoTask, advanced-append, ap, append-nil, arith, both_ways, cond, eq-eqb, eqb-true, false_from_ne_true, fork_passed, forked_opened, forks_for}
use Rattle.quote_gateway.proofs.Words.{if_one, innermost_opened, innermost_unclosed, legal_history, map-append, next_forking, no_task_of, numbers_grow, opened_after, option_map, refl, rejected_grows}
use Rattle.quote_gateway.proofs.Words.{subst, sym, tasks_forked, tasks_kept}
use Rattle.quote_gateway.proofs.Following.{labels_stay, task_is}
use Rattle.quote_gateway.proofs.Going.{FindsEnds, agreed, history_added, legal_there, nests_find, open_followed, open_going, same_actor, same_limits, shapes_find, walked}

-- ---- what stays

-- the scope's tasks are these, with these labels
abbrev pub AreAsked : ℕ → List LabelValue → List ℕ → History → Type 0
AreAsked s ls ks h = (tasks_of h s ≡ ks) × (map (label h) ks ≡ map Some ls)

-- nobody but its owner forks in the scope
unforked : (L : Limits) (h : History) (a s : ℕ) (e : Event) → IsOpenOf h a s → Accepts L h e → shapes a e ≡ false → forks_for s e ≡ false
unforked L h a s (Fork b n its) it ok none =
    false_from_ne_true (n == s) (λ same.
    let owner = (fork_passed L h b n its ok).owner in
    let here : opening h s ≡ Some owner.opened = ap (opening h) (sym (eqb-true n s same)) ∙ owner.is in
    let both : Some it.opened ≡ Some owner.opened = sym it.is ∙ here in
    let opened : it.opened ≡ owner.opened = cc in
    let actor : b ≡ a = sym owner.by ∙ (ap (λ (o : Opening). o.actor) (sym opened) ∙ it.by) in
    both_ways (b == a) none (eq-eqb b a actor))
unforked L h a s e it ok none = refl

-- an event that forks no task in the scope leaves its tasks
tasks_unforked : (h : History) (e : Event) (s : ℕ) → forks_for s e ≡ false → tasks_of (followed h e) s ≡ tasks_of h s
tasks_unforked h (Fork b n its) s none = tasks_forked h b n s its ∙ (ap (λ t. tasks_of h s ++ if_one t (tasks h + 1)) none ∙ append-nil (tasks_of h s))
tasks_unforked h e s none = tasks_kept h e s refl

asked_stays : (h : History) (e : Event) (s : ℕ) (ls : List LabelValue) (ks : List ℕ) → forks_for s e ≡ false → AreAsked s ls ks h → AreAsked s ls ks (followed h e)
asked_stays h e s ls ks none it = (tasks_unforked h e s none ∙ it.0, labels_stay h e ks ls it.1)

-- what stays open and is not forked in keeps its tasks
pub asked_going : (L : Limits) (a s : ℕ) (ls : List LabelValue) (ks : List ℕ) (old new : List RealmStep) → GoesOn L (shapes a) old new → IsOpenOf (history_of old) a s → AreAsked s ls ks (history_of old) → IsOpenOf (history_of new) a s × AreAsked s ls ks (history_of new)
asked_going L a s ls ks old new on it so =
    walked L a s (shapes a) (shapes_find a) (AreAsked s ls ks) (λ h e legal was ok none are. asked_stays h e s ls ks (unforked L h a s e was ok none) are) old new on it so

-- ---- by tokens

-- the scope is open by a later token
pub here_on : (old new : OwnerValue) (s : ℕ) (tests : ℕ → Event → Bool) → ((a : ℕ) → FindsEnds a (tests a)) → SeesMore old new → GoesOn old.limits (tests old.actor) old.seen new.seen → IsOpenHere old s → IsOpenHere new s
here_on old new s tests finds same on it = record {
  legal = subst (λ (L : Limits). IsLegal L new.seen) (sym (same_limits old new same)) on.legal;
  of = subst (λ (a : ℕ). IsOpenOf (history_seen new) a s) (sym (same_actor old new same)) (open_going old.limits old.actor s (tests old.actor) old.seen new.seen (finds old.actor) on it.of);
}

pub here_inside : (old new : OwnerValue) (s : ℕ) → SeesMore old new → KeepsScopes old new → IsOpenHere old s → IsOpenHere new s
here_inside old new s same on it = here_on old new s nests nests_find same on it

pub here_still : (old new : OwnerValue) (s : ℕ) → SeesMore old new → KeepsTasks old new → IsOpenHere old s → IsOpenHere new s
here_still old new s same on it = here_on old new s shapes shapes_find same on it

-- and it has the same tasks
pub forked_still : (old new : OwnerValue) (s : ℕ) (ls : List LabelValue) (ks : List ℕ) → SeesMore old new → KeepsTasks old new → HasForked old s ls ks → HasForked new s ls ks
forked_still old new s ls ks same on it =
    let there = asked_going old.limits old.actor s ls ks old.seen new.seen on it.here.of (it.are, it.labelled) in
    record { here = here_still old new s same on it.here; are = there.1.0; labelled = there.1.1 }

-- ---- an open

none_pass : (p : ℕ → Bool) (ns : List ℕ) → ((n : ℕ) → p n ≡ false) → filter p ns ≡ []
none_pass p [] none = refl
none_pass p (n ∷ ns) none = rw (none n) (none_pass p ns none)

-- no task was forked in a scope that is not opened yet
next_untasked : (L : Limits) (h : History) → Legal L h → HasNoTask h (scopes h + 1)
next_untasked L h legal k f is same =
    let it = forked_opened L h k f legal is in
    let number = opened_after h f.scope it.opened it.is in
    omega (arith, number.1, number.2, same)

next_tasks : (L : Limits) (h : History) → Legal L h → tasks_of h (scopes h + 1) ≡ []
unfolding tasks_of
next_tasks L h legal = none_pass (is_task_of h (scopes h + 1)) (task_numbers h) (λ k. no_task_of h (scopes h + 1) k (next_untasked L h legal))

scopes_step : (h : History) (x : RealmStep) → scopes h ≤ scopes (advance h x)
unfolding base_of
scopes_step h (Happened e) = (numbers_grow h e).0
scopes_step h (Asked a q) = (numbers_grow h (asked q)).0
scopes_step h Retirement = omega arith

scopes_grow : (h : History) (xs : List RealmStep) → scopes h ≤ scopes (advanced h xs)
scopes_grow h [] = omega arith
scopes_grow h (x ∷ xs) = omega (arith, scopes_step h x, scopes_grow (advance h x) xs)

-- numbers of scopes never fall
pub scopes_later : (a : ℕ) (old new : List RealmStep) → Agrees (TokenOf a) old new → scopes (history_of old) ≤ scopes (history_of new)
unfolding history_of
scopes_later a old new it =
    let there : history_of new ≡ advanced (history_of old) it.later = ap history_of it.is ∙ advanced-append fresh old it.later in
    omega (arith, scopes_grow (history_of old) it.later, ap scopes there)

-- a scope that was opened is open, and has no task
pub opened_empty : (L : Limits) (h : History) (a : ℕ) (policy : Policy) (options : Options) → Legal L h → IsOpenOf (followed h (Open a policy options)) a (scopes h + 1) × AreAsked (scopes h + 1) [] [] (followed h (Open a policy options))
opened_empty L h a policy options legal =
    let e = Open a policy options in
    let own = innermost_unclosed (followed h e) a (scopes h + 1) (innermost_opened L h a policy options legal) in (
      record { opened = own.opened; is = own.is; by = own.by; unclosed = own.unclosed },
      (tasks_kept h e (scopes h + 1) refl ∙ next_tasks L h legal, refl),
    )

-- as it was asked to be
pub opened_for : (old new : OwnerValue) (s : ℕ) {m mode : Mode} {o options : Options} → m ≡ mode → o ≡ options → Opens old new (policy_of m) o s → Opens old new (policy_of mode) options s
opened_for old new s {m} {mode} {o} {options} of_mode of_options opens =
    subst (λ (told : Options). Opens old new (policy_of mode) told s) of_options (subst (λ (asked : Mode). Opens old new (policy_of asked) o s) of_mode opens)

pub opened_here : (old new : OwnerValue) (policy : Policy) (options : Options) (s : ℕ) → SeesMore old new → Opens old new policy options s → HasForked new s [] []
opened_here old new policy options s same it =
    let x = Happened (Open old.actor policy options) in
    let h = history_of it.adds.there in
    let legal = legal_history old.limits it.adds.there (legal_there old.limits old.actor old.seen new.seen x it.adds) in
    let next = history_added old.limits old.actor old.seen new.seen x it.adds in
    let empty = opened_empty old.limits h old.actor policy options legal in
    let number : s ≡ scopes h + 1 = it.replied in
    let of : IsOpenOf (history_seen new) old.actor s = subst (λ (k : History). IsOpenOf k old.actor s) (sym next) (subst (λ (n : ℕ). IsOpenOf (followed h (Open old.actor policy options)) old.actor n) (sym number) empty.0) in
    let are : AreAsked s [] [] (history_seen new) = subst (AreAsked s [] []) (sym next) (subst (λ (n : ℕ). AreAsked n [] [] (followed h (Open old.actor policy options))) (sym number) empty.1) in
    record {
      here = record {
        legal = subst (λ (L : Limits). IsLegal L new.seen) (sym (same_limits old new same)) it.adds.legal;
        of = subst (λ (a : ℕ). IsOpenOf (history_seen new) a s) (sym (same_actor old new same)) of;
      };
      are = are.0;
      labelled = are.1;
    }

-- ---- a fork

next_label : (h : History) (a s : ℕ) (its : LabelValue) → label (followed h (Fork a s its)) (tasks h + 1) ≡ Some its
unfolding label
next_label h a s its = ap (option_map (λ (f : Forking). f.label)) (next_forking h a s its)

asked_next : (h : History) (a s : ℕ) (its : LabelValue) (ls : List LabelValue) (ks : List ℕ) → AreAsked s ls ks h → AreAsked s (ls ++ its ∷ []) (ks ++ (tasks h + 1) ∷ []) (followed h (Fork a s its))
asked_next h a s its ls ks it =
    let e = Fork a s its in
    let n = tasks h + 1 in (
      tasks_forked h a s s its ∙ (ap (λ b. tasks_of h s ++ if_one b n) (eq-eqb s s refl) ∙ ap (λ (ms : List ℕ). ms ++ n ∷ []) it.0),
      map-append (label (followed h e)) ks (n ∷ [])
          ∙ (ap (λ ms. ms ++ label (followed h e) n ∷ []) (labels_stay h e ks ls it.1)
          ∙ (ap (λ m. map Some ls ++ m ∷ []) (next_label h a s its) ∙ sym (map-append Some ls (its ∷ [])))),
    )

numbered : (b : Bool) (n : ℕ) (reply never thread : ForkReply) → reply ≡ cond b never thread → task_in never ≡ n → task_in thread ≡ n → task_in reply ≡ n
numbered true n reply never thread is one other = ap task_in is ∙ one
numbered false n reply never thread is one other = ap task_in is ∙ other

fork_number : (h : History) (s : ℕ) (reply : ForkReply) → reply ≡ fork_reply h s → task_in reply ≡ tasks h + 1
fork_number h s reply is = numbered (is_cancelled h s) (tasks h + 1) reply _ _ is refl refl

module _ (old new : OwnerValue) (s : ℕ) (its : LabelValue) (task : ℕ) (same : SeesMore old new) (it : ForkedAs old new s its task) where
  number_is : task ≡ tasks (history_of it.accepted.adds.there) + 1
  number_is = it.number ∙ fork_number (history_of it.accepted.adds.there) s it.reply it.accepted.replied

  -- with one fork more the scope has one task more
  pub forked_next : (ls : List LabelValue) (ks : List ℕ) → HasForked old s ls ks → HasForked new s (ls ++ its ∷ []) (ks ++ task ∷ [])
  forked_next ls ks was =
      let adds = it.accepted.adds in
      let x = Happened (Fork old.actor s its) in
      let h = history_of adds.there in
      let next = history_added old.limits old.actor old.seen new.seen x adds in
      let on = agreed old.limits old.actor old.seen adds.there adds.agrees (legal_there old.limits old.actor old.seen new.seen x adds) in
      let there = asked_going old.limits old.actor s ls ks old.seen adds.there on was.here.of (was.are, was.labelled) in
      let of : IsOpenOf (history_seen new) old.actor s = subst (λ (k : History). IsOpenOf k old.actor s) (sym next) (open_followed h old.actor s (Fork old.actor s its) there.0 refl) in
      let more = asked_next h old.actor s its ls ks there.1 in
      let are : AreAsked s (ls ++ its ∷ []) (ks ++ task ∷ []) (history_seen new) =
      subst (AreAsked s (ls ++ its ∷ []) (ks ++ task ∷ [])) (sym next) (subst (λ (n : ℕ). AreAsked s (ls ++ its ∷ []) (ks ++ n ∷ []) (followed h (Fork old.actor s its))) (sym number_is) more) in
      record {
        here = record {
          legal = subst (λ (L : Limits). IsLegal L new.seen) (sym (same_limits old new same)) adds.legal;
          of = subst (λ (a : ℕ). IsOpenOf (history_seen new) a s) (sym (same_actor old new same)) of;
        };
        are = are.0;
        labelled = are.1;
      }

  -- the task is one of the scope, and has its label
  pub forked_task : (is_task_of (history_seen new) s task ≡ true) × (label (history_seen new) task ≡ Some its)
  forked_task =
      let adds = it.accepted.adds in
      let h = history_of adds.there in
      let e = Fork old.actor s its in
      let next = history_added old.limits old.actor old.seen new.seen (Happened e) adds in
      let of = task_is (followed h e) s (tasks h + 1) _ (next_forking h old.actor s its) refl in
      let named = next_label h old.actor s its in
      subst (λ (k : History). (is_task_of k s task ≡ true) × (label k task ≡ Some its)) (sym next) (subst (λ (n : ℕ). (is_task_of (followed h e) s n ≡ true) × (label (followed h e) n ≡ Some its)) (sym number_is) (of, named))

-- what was rejected last is rejected
or_last : (b c : Bool) → c ≡ true → (b || c) ≡ true
or_last true c so = refl
or_last false c so = so

pub rejected_last : (old new : OwnerValue) (task : ℕ) → Added old new (Happened (Reject task)) → rejected (history_seen new) task ≡ true
rejected_last old new task it =
    let h = history_of it.there in
    let next = history_added old.limits old.actor old.seen new.seen (Happened (Reject task)) it in
    ap (λ (k : History). rejected k task) next ∙ (rejected_grows h (Reject task) task ∙ or_last (rejected h task) (task == task) (eq-eqb task task refl))
