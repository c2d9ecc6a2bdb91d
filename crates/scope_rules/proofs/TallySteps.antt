-- What one event more makes of the numbers of tasks at each stage.
use Rattle.std.proofs.Common.{ℕ, ◌+◌, ◌<◌, ◌==◌, ◌||◌, ◌∙◌, ◌≡◌, ◌≢◌, ◌≤◌, Bool, None, Option, Some, ap, arith, cond, count_by, false, refl, suc, sym, true, zero}
use Rattle.scope_rules.specs.{Event, Fork, Forking, History.History, History.tasks, Legal.Legal, Limits, Stage, finished, finishes, followed, forked_count, forking, is_at, is_fork, is_task_of, range_with_len, rejected, rejects}
use Rattle.scope_rules.specs.{stage, started, starts, task_numbers}
use Rattle.scope_rules.proofs.Words.{eq-eqb, eqb-true}
use Rattle.scope_rules.proofs.{Completions.count_by-cons, Forkings.forked_after, Numbers.count_by_range, OneEventMore.forking_other, OneEventMore.forking_same, Owing.count_push, Stages.same_staged, Stages.stage_grows}
use Rattle.scope_rules.proofs.{Stages.stage_is}

or_from_none : (b c : Bool) → c ≡ false → (b || c) ≡ b
or_from_none true c none = refl
or_from_none false c none = none

module _ (p q : ℕ → Bool) where
  same_from : (a n : ℕ) → ((j : ℕ) → a ≤ j → j < a + n → p j ≡ q j) → count_by p (range_with_len a n) ≡ count_by q (range_with_len a n)
  same_from a zero same = refl
  same_from a (suc n) same =
      count_by-cons p a (range_with_len (a + 1) n)
      ∙ (rw (same a (omega arith) (omega arith)) (ap (λ m. cond (q a) 1 0 + m) (same_from (a + 1) n (λ j low high. same j (omega (arith, low)) (omega (arith, high)))))
      ∙ sym (count_by-cons q a (range_with_len (a + 1) n)))

  changed_by : (a n k : ℕ) (b : Bool) → (a == k) ≡ b → a ≤ k → k < a + suc n → ((j : ℕ) → j ≢ k → p j ≡ q j)
      → (a + 1 ≤ k → count_by p (range_with_len (a + 1) n) + cond (q k) 1 0 ≡ count_by q (range_with_len (a + 1) n) + cond (p k) 1 0)
      → count_by p (range_with_len a (suc n)) + cond (q k) 1 0 ≡ count_by q (range_with_len a (suc n)) + cond (p k) 1 0
  changed_by a n k true is low high same rest =
      let here : a ≡ k = eqb-true a k is in
      let later = same_from (a + 1) n (λ j above below. same j (λ it. absurd (omega (arith, it, above, here)))) in
      let first = count_by-cons p a (range_with_len (a + 1) n) in
      let second = count_by-cons q a (range_with_len (a + 1) n) in
      let one : p k ≡ p a = ap p (sym here) in
      let other : q k ≡ q a = ap q (sym here) in
      rw one (rw other (omega (arith, first, second, later)))
  changed_by a n k false is low high same rest =
      let other : a ≢ k = λ it. absurd (cc (is, eq-eqb a k it)) in
      let first = count_by-cons p a (range_with_len (a + 1) n) in
      let second = count_by-cons q a (range_with_len (a + 1) n) in
      let one : cond {A = ℕ} (p a) 1 0 ≡ cond {A = ℕ} (q a) 1 0 = ap (λ b. cond {A = ℕ} b 1 0) (same a other) in
      omega (arith, first, second, one, rest (omega (arith, low, other)))

  -- counted over numbers, two tests that agree on all but one of these differ by what they say of it
  pub count_changed : (a n k : ℕ) → a ≤ k → k < a + n → ((j : ℕ) → j ≢ k → p j ≡ q j)
      → count_by p (range_with_len a n) + cond (q k) 1 0 ≡ count_by q (range_with_len a n) + cond (p k) 1 0
  count_changed a zero k low high same = absurd (omega (arith, low, high))
  count_changed a (suc n) k low high same =
      changed_by a n k (a == k) refl low high same (λ more. count_changed (a + 1) n k more (omega (arith, high)) same)

-- how many tasks of scope s are at the stage
abbrev pub tally : History → ℕ → Stage → ℕ
tally h s x = count_by (is_at h s x) (task_numbers h)

stage_by : (L : Limits) (h : History) (e : Event) (k : ℕ) (o : Option Forking) → Legal L h → forking h k ≡ o → forking (followed h e) k ≡ o → rejects k e ≡ false → starts k e ≡ false → finishes k e ≡ false
    → stage (followed h e) k ≡ stage h k
unfolding stage
stage_by L h e k None legal was is unrejected unstarted unfinished = rw is (rw was refl)
stage_by L h e k (Some f) legal was is unrejected unstarted unfinished =
    stage_grows L h e k f legal was
    ∙ (same_staged _ _ _ _ _ _ _ _ refl (or_from_none (rejected h k) (rejects k e) unrejected) (or_from_none (finished h k) (finishes k e) unfinished) (or_from_none (started h k) (starts k e) unstarted)
    ∙ sym (stage_is h k f was))

-- a task that the event does not name stays at its stage
pub stage_unnamed : (L : Limits) (h : History) (e : Event) (k : ℕ) → Legal L h → forking (followed h e) k ≡ forking h k → rejects k e ≡ false → starts k e ≡ false → finishes k e ≡ false
    → stage (followed h e) k ≡ stage h k
stage_unnamed L h e k legal same unrejected unstarted unfinished = stage_by L h e k (forking h k) legal refl same unrejected unstarted unfinished

is_at_same : (h g : History) (s : ℕ) (x : Stage) (k : ℕ) → forking g k ≡ forking h k → stage g k ≡ stage h k → is_at g s x k ≡ is_at h s x k
unfolding is_task_of
is_at_same h g s x k forked at = rw forked (rw at refl)

numbers_same : (h : History) (e : Event) → is_fork e ≡ false → task_numbers (followed h e) ≡ task_numbers h
numbers_same h e other =
    let grown = count_push is_fork h.events e in
    let none : cond {A = ℕ} (is_fork e) 1 0 ≡ 0 = ap (λ b. cond b 1 0) other in
    let same : forked_count (followed h e) ≡ forked_count h = omega (arith, grown, none) in
    ap (range_with_len (h.base.tasks + 1)) same

same_tally : (L : Limits) (h : History) (e : Event) (s : ℕ) (x : Stage) (n : ℕ) → Legal L h → n ≤ forked_count h
    → ((j : ℕ) → (rejects j e ≡ false) × (starts j e ≡ false) × (finishes j e ≡ false))
    → count_by (is_at (followed h e) s x) (range_with_len (h.base.tasks + 1) n) ≡ count_by (is_at h s x) (range_with_len (h.base.tasks + 1) n)
same_tally L h e s x n legal within none =
    same_from (is_at (followed h e) s x) (is_at h s x) (h.base.tasks + 1) n
    (λ j low high.
    let forked = forking_other h e j (λ it. absurd (omega (arith, it, high, within))) in
    let un = none j in
    is_at_same h (followed h e) s x j forked (stage_unnamed L h e j legal forked un.0 un.1 un.2))

-- an event that forks nothing and names no task leaves all tallies
pub tally_stays : (L : Limits) (h : History) (e : Event) (s : ℕ) (x : Stage) → Legal L h → is_fork e ≡ false → ((j : ℕ) → (rejects j e ≡ false) × (starts j e ≡ false) × (finishes j e ≡ false))
    → tally (followed h e) s x ≡ tally h s x
tally_stays L h e s x legal other none =
    ap (count_by (is_at (followed h e) s x)) (numbers_same h e other) ∙ same_tally L h e s x (forked_count h) legal (omega arith) none

-- a fork adds its task to one tally
pub tally_forks : (L : Limits) (h : History) (a s t : ℕ) (label : _) (x : Stage) → Legal L h
    → tally (followed h (Fork a t label)) s x ≡ tally h s x + cond (is_at (followed h (Fork a t label)) s x (tasks h + 1)) 1 0
tally_forks L h a s t label x legal =
    let e = Fork a t label in
    let grown : forked_count (followed h e) ≡ forked_count h + 1 = omega (arith, count_push is_fork h.events e) in
    let last : (h.base.tasks + 1) + forked_count h ≡ tasks h + 1 = omega arith in
    ap (λ n. count_by (is_at (followed h e) s x) (range_with_len (h.base.tasks + 1) n)) grown
    ∙ (count_by_range (is_at (followed h e) s x) (h.base.tasks + 1) (forked_count h)
    ∙ rw last (ap (λ n. n + cond (is_at (followed h e) s x (tasks h + 1)) 1 0) (same_tally L h e s x (forked_count h) legal (omega arith) (λ j. (refl, refl, refl)))))

-- an event that names one task moves it from one tally to another
pub tally_moves : (L : Limits) (h : History) (e : Event) (s : ℕ) (x : Stage) (k : ℕ) (f : Forking) → Legal L h → forking h k ≡ Some f → is_fork e ≡ false
    → ((j : ℕ) → j ≢ k → (rejects j e ≡ false) × (starts j e ≡ false) × (finishes j e ≡ false))
    → tally (followed h e) s x + cond (is_at h s x k) 1 0 ≡ tally h s x + cond (is_at (followed h e) s x k) 1 0
tally_moves L h e s x k f legal is other alone =
    let given = forked_after h k f is in
    let numbers = numbers_same h e other in
    let moved = count_changed (is_at (followed h e) s x) (is_at h s x) (h.base.tasks + 1) (forked_count h) k (omega (arith, given.2)) (omega (arith, given.1, given.2))
    (λ j apart.
    let un = alone j apart in
    let forked = forking_same h e j other in
    is_at_same h (followed h e) s x j forked (stage_unnamed L h e j legal forked un.0 un.1 un.2)) in
    ap (λ ns. count_by (is_at (followed h e) s x) ns + cond (is_at h s x k) 1 0) numbers ∙ moved
