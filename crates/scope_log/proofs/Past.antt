-- Of a number that was not given in the past, the past says nothing.
use Rattle.std.proofs.Common.{[], ℕ, ◌&&◌, ◌-◌, ◌<◌, ◌∙◌, ◌∷◌, ◌≡◌, ◌≢◌, ◌≤◌, Bool, None, Option, Some, ap, arith, cond, false, fold, inl, inr, length, nat_le, nat_lt, refl, slice_get, subst, sym, take, true}
use Rattle.scope_log.specs.{Accepts, Bind, Binding, Event, Legal, Opening, Retirable, Unbind, Words.closed, Words.joined, Words.scopes, Words.tasks, before, ends, finished, finishes, forking, is_let_go, last_of, move_of, opening}
use Rattle.scope_log.specs.{rejected, rejects, row_check, stack, stacked, started, starts}
use Rattle.scope_log.proofs.Words.{IsActor, IsForked, IsOpened, actor_passed, both_ways, checks_at, ender_passed, false_from_ne_true, finisher_passed, forking_later, joined_opened, le-leb, leb-true, lt-ltb, moved_opened, ne_eqb}
use Rattle.scope_log.proofs.Words.{nothing_open, opened_before, rejecter_passed, running_forked, scope_given, starter_passed, task_given, waiting_forked}
use Rattle.scope_log.proofs.Splitting.{any_where, fold_kept}

-- the number was not let go: it is 0, or is given later
abbrev pub IsScope : Retirable → ℕ → Type 0
IsScope r s = is_let_go (scopes r.past) s ≡ false

abbrev pub IsTask : Retirable → ℕ → Type 0
IsTask r k = is_let_go (tasks r.past) k ≡ false

and_true : (b c : Bool) → b ≡ true → c ≡ true → (b && c) ≡ true
and_true true c first second = second
and_true false c first second = absurd cc

and_false : (b c : Bool) → (b && c) ≡ false → b ≡ true → c ≡ false
and_false true c is so = is
and_false false c is so = absurd cc

pub let_go : (count n : ℕ) → 0 < n → n ≤ count → is_let_go count n ≡ true
let_go count n some within = and_true (nat_lt 0 n) (nat_le n count) (lt-ltb 0 n some) (le-leb n count within)

-- a number that is greater was not let go
pub greater : (count n : ℕ) → count < n → is_let_go count n ≡ false
greater count n more = false_from_ne_true (is_let_go count n) (λ gone. omega (arith, more, within (nat_lt 0 n) gone))
  where
    within : (b : Bool) → (b && nat_le n count) ≡ true → n ≤ count
    within true is = leb-true n count is
    within false is = absurd cc

pub zero_stays : (count : ℕ) → is_let_go count 0 ≡ false
zero_stays count = refl

-- what was not let go by more numbers was not by fewer
pub fewer : (few many n : ℕ) → few ≤ many → is_let_go many n ≡ false → is_let_go few n ≡ false
fewer few many n less is = false_from_ne_true (is_let_go few n) (λ gone. both_ways (is_let_go many n) is (more (nat_lt 0 n) gone))
  where
    more : (b : Bool) → (b && nat_le n few) ≡ true → (b && nat_le n many) ≡ true
    more true it = le-leb n many (omega (arith, leb-true n few it, less))
    more false it = absurd cc

none_there : {A : Type 0} (o : Option A) → ((x : A) → o ≡ Some x → ⊥) → o ≡ None
none_there None never = refl
none_there (Some x) never = absurd (never x refl)

module _ (r : Retirable) where
  pub unopened : (s : ℕ) → IsScope r s → opening r.past s ≡ None
  unopened s new = none_there (opening r.past s) (λ o is. let it = scope_given r.past s o is in both_ways (is_let_go (scopes r.past) s) new (let_go (scopes r.past) s it.0 it.1))

  pub unforked : (k : ℕ) → IsTask r k → forking r.past k ≡ None
  unforked k new = none_there (forking r.past k) (λ f is. let it = task_given r.past k f is in both_ways (is_let_go (tasks r.past) k) new (let_go (tasks r.past) k it.0 it.1))

  never_opened : (s : ℕ) → IsScope r s → IsOpened r.past s → ⊥
  never_opened s new it = absurd (cc (unopened s new, it.is))

  never_forked : (k : ℕ) → IsTask r k → IsForked r.past k → ⊥
  never_forked k new it = absurd (cc (unforked k new, it.is))

  pub forked_there : (i k : ℕ) → IsForked (before r.past i) k → IsForked r.past k
  forked_there i k it = record { forked = it.forked; is = forking_later r.past i k it.forked it.is }

  -- what was accepted in the past
  pub accepted : (i : ℕ) (e : Event) → slice_get r.past.events i ≡ Some e → Accepts r.limits (before r.past i) e
  unfolding Legal
  accepted i e at = r.legal i e at

  pub unjoined : (s : ℕ) → IsScope r s → joined r.past s ≡ false
  unjoined s new = false_from_ne_true (joined r.past s) (λ so. never_opened s new (joined_opened r.limits r.past s r.legal so))

  pub unmoved : (s : ℕ) → IsScope r s → last_of (move_of s) r.past.events ≡ None
  unmoved s new = none_there (last_of (move_of s) r.past.events) (λ d is. never_opened s new (moved_opened r.limits r.past s d r.legal is))

  pub unclosed : (s : ℕ) → IsScope r s → closed r.past s ≡ false
  unfolding closed
  unclosed s new = false_from_ne_true (closed r.past s) (λ so.
      let it = any_where (ends s) r.past.events so in
      let row = (ender_passed r.limits (before r.past it.0) it.1 s it.3 (accepted it.0 it.1 it.2)).2 in
      never_opened s new (opened_before r.past it.0 s (record { opened = row.owner.opened; is = row.owner.is })))

  pub unrejected : (k : ℕ) → IsTask r k → rejected r.past k ≡ false
  unfolding rejected
  unrejected k new = false_from_ne_true (rejected r.past k) (λ so.
      let it = any_where (rejects k) r.past.events so in
      never_forked k new (forked_there it.0 k (waiting_forked (before r.past it.0) k (rejecter_passed r.limits (before r.past it.0) it.1 k it.3 (accepted it.0 it.1 it.2)))))

  pub unstarted : (k : ℕ) → IsTask r k → started r.past k ≡ false
  unfolding started
  unstarted k new = false_from_ne_true (started r.past k) (λ so.
      let it = any_where (starts k) r.past.events so in
      never_forked k new (forked_there it.0 k (waiting_forked (before r.past it.0) k (starter_passed r.limits (before r.past it.0) it.1 k it.3 (accepted it.0 it.1 it.2)))))

  pub unfinished_by : (i k : ℕ) (e : Event) → IsTask r k → slice_get r.past.events i ≡ Some e → finishes k e ≡ false
  unfinished_by i k e new at = false_from_ne_true (finishes k e) (λ so.
      never_forked k new (forked_there i k (running_forked (before r.past i) k (finisher_passed r.limits (before r.past i) e k so (accepted i e at)).runs)))

  pub unfinished : (k : ℕ) → IsTask r k → finished r.past k ≡ false
  unfolding finished
  unfinished k new = false_from_ne_true (finished r.past k) (λ so. let it = any_where (finishes k) r.past.events so in both_ways (finishes k it.1) (unfinished_by it.0 k it.1 new it.2) it.3)

  -- each scope of the past is closed
  pub all_closed : (s : ℕ) (o : Opening) → opening r.past s ≡ Some o → closed r.past s ≡ true
  all_closed s o is = nothing_open r.limits r.past s o r.legal r.none is

  binder_apart : (i a by : ℕ) → a ≢ 0 → IsTask r a → IsActor (before r.past i) by → by ≢ a
  binder_apart i a by task new acts same =
      elim acts [
        | inl main ↦ task (sym same ∙ main)
        | inr runs ↦ let P : ℕ → Type 0 = λ k. IsForked r.past k in never_forked a new (subst P same (forked_there i by (running_forked (before r.past i) by runs)))
      ]

  stack_kept : (i a : ℕ) (e : Event) → a ≢ 0 → IsTask r a → slice_get r.past.events i ≡ Some e → stacked a [] e ≡ []
  unfolding row_check
  stack_kept i a (Bind by pair) task new at =
      let acts = actor_passed (before r.past i) by (checks_at _ 0 _ (accepted i (Bind by pair) at).passed refl) in
      ap (λ b. cond b (pair ∷ []) []) (ne_eqb by a (binder_apart i a by task new acts))
  stack_kept i a (Unbind by) task new at =
      let acts = actor_passed (before r.past i) by (checks_at _ 0 _ (accepted i (Unbind by) at).passed refl) in
      ap (λ b. cond b (take (length {A = Binding} [] - 1) []) []) (ne_eqb by a (binder_apart i a by task new acts))
  stack_kept i a _ task new at = refl

  -- a task that was not given had no pairs
  pub no_pairs : (a : ℕ) → a ≢ 0 → IsTask r a → stack r.past a ≡ []
  unfolding stack
  no_pairs a task new =
      ap (λ b. fold (stacked a) (cond b r.past.base.binds []) r.past.events) (ne_eqb a 0 task)
      ∙ fold_kept (stacked a) [] r.past.events (λ i e at. stack_kept i a e task new at)
