-- What is read of tasks and of bindings stays, but for the numbers, if so many others were numbered before.
use Rattle.std.proofs.Common.{ℕ, ◌+◌, ◌∙◌, ◌≡◌, List, ap, arith, false, not, refl, suc}
use Rattle.script_journal.specs.{Bind, Binding, Event, Finish, Forking, History, Legal, Limits, Never, Opening, Reject, Start, Unbind, before, bound_as_opened, finished, finishes, first_stack, forked_count, forking, holds_last}
use Rattle.script_journal.specs.{is_unsettled, list_any, opened_above, opened_count, opening, ready, rejected, rejects, settled, stack, stacked, stage, stage_of, started, starts, task_numbers}
use Rattle.script_journal.proofs.Lemmas.{map_or_mapped}
use Rattle.script_journal.proofs.{RaisedCancels.raised_cancelled, RaisedCancels.raised_cancelled_before, RaisedCancels.raised_is_task_of, RaisedEvents.raise, RaisedEvents.raised_before, RaisedEvents.raised_forked}
use Rattle.script_journal.proofs.{RaisedEvents.raised_forking, RaisedEvents.raised_opened, RaisedEvents.raised_opening, RaisedScopes.raised_closed, Raising.any_numbered, Raising.any_raised, Raising.fold_raised, Raising.raised}
use Rattle.script_journal.proofs.{Raising.up, Raising.up_forking, Raising.up_main, Raising.up_opening, Raising.up_same}

module _ (S K : ℕ) where
  -- ---- stages

  rejects_raised : (k : ℕ) (e : Event) → rejects (up K k) (raised S K e) ≡ rejects k e
  rejects_raised k (Reject task) = up_same K task k
  rejects_raised k _ = refl

  raised_rejected : (h : History) (k : ℕ) → rejected (raise S K h) (up K k) ≡ rejected h k
  unfolding rejected
  raised_rejected h k = any_raised (raised S K) (rejects (up K k)) (rejects k) (rejects_raised k) h.events

  starts_raised : (k : ℕ) (e : Event) → starts (up K k) (raised S K e) ≡ starts k e
  starts_raised k (Start task) = up_same K task k
  starts_raised k _ = refl

  raised_started : (h : History) (k : ℕ) → started (raise S K h) (up K k) ≡ started h k
  unfolding started
  raised_started h k = any_raised (raised S K) (starts (up K k)) (starts k) (starts_raised k) h.events

  finishes_raised : (k : ℕ) (e : Event) → finishes (up K k) (raised S K e) ≡ finishes k e
  finishes_raised k (Finish task end) = up_same K task k
  finishes_raised k _ = refl

  raised_finished : (h : History) (k : ℕ) → finished (raise S K h) (up K k) ≡ finished h k
  unfolding finished
  raised_finished h k = any_raised (raised S K) (finishes (up K k)) (finishes k) (finishes_raised k) h.events

  module _ (L : Limits) (h : History) (legal : Legal L h) (later : Legal L (raise S K h)) where
    stage_raised : (k : ℕ) (f : Forking) → stage_of (raise S K h) (up K k) (up_forking S K f) ≡ stage_of h k f
    unfolding stage_of
    stage_raised k f = rw (raised_cancelled_before S K L h legal later f.scope f.place, raised_rejected h k, raised_finished h k, raised_started h k) refl

    pub raised_stage : (k : ℕ) → stage (raise S K h) (up K k) ≡ stage h k
    unfolding stage
    raised_stage k = rw (raised_forking S K h k) (map_or_mapped (up_forking S K) (stage_of (raise S K h) (up K k)) (stage_of h k) (stage_raised k) Never (forking h k))

    unsettled_raised : (s k : ℕ) → is_unsettled (raise S K h) (S + s) (up K k) ≡ is_unsettled h s k
    unsettled_raised s k = rw (raised_is_task_of S K h s k, raised_stage k) refl

    unsettled_task : (s k : ℕ) → is_unsettled (raise S K h) (S + s) (K + suc k) ≡ is_unsettled h s (suc k)
    unfolding up
    unsettled_task s k = unsettled_raised s (suc k)

    any_unsettled : (s : ℕ) → list_any (is_unsettled (raise S K h) (S + s)) (task_numbers (raise S K h)) ≡ list_any (is_unsettled h s) (task_numbers h)
    any_unsettled s =
        let first : K + h.base.tasks + 1 ≡ K + suc h.base.tasks = omega arith in
        let own : h.base.tasks + 1 ≡ suc h.base.tasks = omega arith in
        rw (raised_forked S K h, first, own) (any_numbered K (is_unsettled (raise S K h) (S + s)) (is_unsettled h s) (unsettled_task s) h.base.tasks (forked_count h))

    pub raised_settled : (s : ℕ) → settled (raise S K h) (S + s) ≡ settled h s
    unfolding settled
    raised_settled s = ap not (any_unsettled s)

    pub raised_ready : (s : ℕ) → ready (raise S K h) (S + s) ≡ ready h s
    unfolding ready
    raised_ready s = rw (raised_cancelled S K L h legal later s, raised_settled s) refl

  -- ---- bindings

  stacked_raised : (a : ℕ) (bs : List Binding) (e : Event) → stacked (up K a) bs (raised S K e) ≡ stacked a bs e
  stacked_raised a bs (Bind by pair) = rw (up_same K by a) refl
  stacked_raised a bs (Unbind by) = rw (up_same K by a) refl
  stacked_raised a bs _ = refl

  first_raised : (h : History) (a : ℕ) → first_stack (raise S K h) (up K a) ≡ first_stack h a
  first_raised h a = rw (up_main K a) refl

  pub raised_stack : (h : History) (a : ℕ) → stack (raise S K h) (up K a) ≡ stack h a
  unfolding stack
  raised_stack h a = rw (first_raised h a) (fold_raised (raised S K) (stacked (up K a)) (stacked a) (stacked_raised a) (first_stack h a) h.events)

  stack_before : (h : History) (a i : ℕ) → stack (before (raise S K h) i) (up K a) ≡ stack (before h i) a
  stack_before h a i = ap (λ (g : History). stack g (up K a)) (raised_before S K h i) ∙ raised_stack (before h i) a

  pub raised_bound_as_opened : (h : History) (a s : ℕ) → bound_as_opened (raise S K h) (up K a) (S + s) ≡ bound_as_opened h a s
  unfolding bound_as_opened
  raised_bound_as_opened h a s =
      rw (raised_opening S K h s)
      (map_or_mapped (up_opening K) _ _ (λ (o : Opening). rw (raised_stack h a, stack_before h a o.place) refl) false (opening h s))

  raised_above : (h : History) (a s : ℕ) → opened_above (raise S K h) (up K a) (S + s) ≡ opened_above h a s
  raised_above h a s =
      rw (raised_opening S K h s)
      (map_or_mapped (up_opening K) _ _ (λ (o : Opening). rw (up_same K o.actor a, raised_closed S K h s, raised_stack h a, stack_before h a o.place) refl) false (opening h s))

  pub raised_holds_last : (h : History) (a : ℕ) → holds_last (raise S K h) (up K a) ≡ holds_last h a
  unfolding holds_last
  raised_holds_last h a =
      let first : S + h.base.scopes + 1 ≡ S + suc h.base.scopes = omega arith in
      let own : h.base.scopes + 1 ≡ suc h.base.scopes = omega arith in
      rw (raised_opened S K h, first, own) (any_numbered S (opened_above (raise S K h) (up K a)) (opened_above h a) (λ s. raised_above h a (suc s)) h.base.scopes (opened_count h))
