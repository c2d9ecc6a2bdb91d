-- What one event more makes of the counts of a scope, if it moves a task to another stage or forks one.
use Rattle.std.proofs.Common.{ℕ, ◌&&◌, ◌+◌, ◌-◌, ◌==◌, ◌∙◌, ◌≡◌, ◌≢◌, Bool, Some, ap, arith, cond, false, refl, sym, true}
use Rattle.scope_rows.specs.{Counts, Event, Finished, Fork, Forking, History, Legal, Limits, Never, Running, Stage, Waiting, count_finish, count_fork, count_taken, counts, finishes, followed, forking, is_at, is_fork, is_stage}
use Rattle.scope_rows.specs.{is_task_of, rejects, stage, starts, tasks}
use Rattle.scope_rows.proofs.Words.{forking_stays, tally, tally_forks, tally_moves}
use Rattle.scope_rows.proofs.Frames.{counts_by, counts_same, tallies_of}

-- whether a forked task is one of a scope at a stage
pub unit_is : (h : History) (s : ℕ) (x : Stage) (k : ℕ) (f : Forking) (y : Stage) → forking h k ≡ Some f → stage h k ≡ y → is_at h s x k ≡ ((f.scope == s) && is_stage x y)
unfolding is_task_of
unit_is h s x k f y is at = rw is (rw at refl)

-- the event names task k alone, and forks none
pub record NamesAlone (e : Event) (k : ℕ) : Type 0 where
  pub forks_none : is_fork e ≡ false
  pub others : (j : ℕ) → j ≢ k → (rejects j e ≡ false) × (starts j e ≡ false) × (finishes j e ≡ false)

module _ (L : Limits) (h : History) (e : Event) (k : ℕ) (f : Forking) (old new : Stage) (legal : Legal L h) (is : forking h k ≡ Some f) (names : NamesAlone e k) (was : stage h k ≡ old) (now : stage (followed h e) k ≡ new) where
  -- how a tally moves, in the scope of the task and elsewhere
  pub moved_by : (s : ℕ) (x : Stage) (b : Bool) → (f.scope == s) ≡ b → tally (followed h e) s x + cond {A = ℕ} (b && is_stage x old) 1 0 ≡ tally h s x + cond {A = ℕ} (b && is_stage x new) 1 0
  moved_by s x b of =
      ap (λ c. tally (followed h e) s x + cond {A = ℕ} c 1 0) (ap (λ d. d && is_stage x old) (sym of) ∙ sym (unit_is h s x k f old is was))
      ∙ (tally_moves L h e s x k f legal is names.forks_none names.others
      ∙ ap (λ c. tally h s x + cond {A = ℕ} c 1 0) (unit_is (followed h e) s x k f new (forking_stays h e k f is) now ∙ ap (λ d. d && is_stage x new) of))

  -- the counts of another scope stay
  pub counts_elsewhere : (s : ℕ) → (f.scope == s) ≡ false → counts (followed h e) s ≡ counts h s
  counts_elsewhere s other = counts_same h (followed h e) s (λ x. let it : tally (followed h e) s x + 0 ≡ tally h s x + 0 = moved_by s x false other in omega (arith, it))

  -- in the task's scope one less is at the old stage, and one more at the new
  pub moved_here : (s : ℕ) (x : Stage) → (f.scope == s) ≡ true → tally (followed h e) s x + cond {A = ℕ} (is_stage x old) 1 0 ≡ tally h s x + cond {A = ℕ} (is_stage x new) 1 0
  moved_here s x of = moved_by s x true of

-- if a task that waited may come, before its end
abbrev pub is_taken : Stage → Bool
is_taken Never = true
is_taken Running = true
is_taken _ = false

module _ (L : Limits) (h : History) (e : Event) (k : ℕ) (f : Forking) (s : ℕ) (n : Counts) (legal : Legal L h) (is : forking h k ≡ Some f) (names : NamesAlone e k) (of : (f.scope == s) ≡ true) (had : counts h s ≡ n) where
  -- a task that waited never runs
  counts_rejected : stage h k ≡ Waiting → stage (followed h e) k ≡ Never → counts (followed h e) s ≡ count_taken Never n
  counts_rejected was now =
      let t = tallies_of h s n had in
      let m : (x : Stage) → tally (followed h e) s x + cond {A = ℕ} (is_stage x Waiting) 1 0 ≡ tally h s x + cond {A = ℕ} (is_stage x Never) 1 0 = λ x. moved_here L h e k f Waiting Never legal is names was now s x of in
      counts_by (followed h e) s (n.never + 1) (n.waiting - 1) n.running n.finished
      (omega (arith, m Never, t.never)) (omega (arith, m Waiting, t.waiting)) (omega (arith, m Running, t.running)) (omega (arith, m Finished, t.finished))

  -- a task that waited runs
  counts_started : stage h k ≡ Waiting → stage (followed h e) k ≡ Running → counts (followed h e) s ≡ count_taken Running n
  counts_started was now =
      let t = tallies_of h s n had in
      let m : (x : Stage) → tally (followed h e) s x + cond {A = ℕ} (is_stage x Waiting) 1 0 ≡ tally h s x + cond {A = ℕ} (is_stage x Running) 1 0 = λ x. moved_here L h e k f Waiting Running legal is names was now s x of in
      counts_by (followed h e) s n.never (n.waiting - 1) (n.running + 1) n.finished
      (omega (arith, m Never, t.never)) (omega (arith, m Waiting, t.waiting)) (omega (arith, m Running, t.running)) (omega (arith, m Finished, t.finished))

  -- a task that waited runs, or never does
  pub counts_taken : (to : Stage) → is_taken to ≡ true → stage h k ≡ Waiting → stage (followed h e) k ≡ to → counts (followed h e) s ≡ count_taken to n
  counts_taken Never may was now = counts_rejected was now
  counts_taken Running may was now = counts_started was now
  counts_taken _ may was now = absurd cc

  -- a task that ran has finished
  pub counts_finished : stage h k ≡ Running → stage (followed h e) k ≡ Finished → counts (followed h e) s ≡ count_finish n
  counts_finished was now =
      let t = tallies_of h s n had in
      let m : (x : Stage) → tally (followed h e) s x + cond {A = ℕ} (is_stage x Running) 1 0 ≡ tally h s x + cond {A = ℕ} (is_stage x Finished) 1 0 = λ x. moved_here L h e k f Running Finished legal is names was now s x of in
      counts_by (followed h e) s n.never n.waiting (n.running - 1) (n.finished + 1)
      (omega (arith, m Never, t.never)) (omega (arith, m Waiting, t.waiting)) (omega (arith, m Running, t.running)) (omega (arith, m Finished, t.finished))

module _ (L : Limits) (h : History) (f : Forking) (legal : Legal L h) where
  -- the unit that the fork adds
  pub forked_by : (s : ℕ) (x y : Stage) (b : Bool) → (f.scope == s) ≡ b → forking (followed h (Fork f.actor f.scope f.label)) (tasks h + 1) ≡ Some f → stage (followed h (Fork f.actor f.scope f.label)) (tasks h + 1) ≡ y
      → tally (followed h (Fork f.actor f.scope f.label)) s x ≡ tally h s x + cond {A = ℕ} (b && is_stage x y) 1 0
  forked_by s x y b of is at =
      tally_forks L h f.actor s f.scope f.label x legal
      ∙ ap (λ c. tally h s x + cond {A = ℕ} c 1 0) (unit_is (followed h (Fork f.actor f.scope f.label)) s x (tasks h + 1) f y is at ∙ ap (λ d. d && is_stage x y) of)

  -- a fork leaves the counts of other scopes
  pub fork_elsewhere : (s : ℕ) (y : Stage) → (f.scope == s) ≡ false → forking (followed h (Fork f.actor f.scope f.label)) (tasks h + 1) ≡ Some f → stage (followed h (Fork f.actor f.scope f.label)) (tasks h + 1) ≡ y
      → counts (followed h (Fork f.actor f.scope f.label)) s ≡ counts h s
  fork_elsewhere s y other is at =
      counts_same h (followed h (Fork f.actor f.scope f.label)) s
      (λ x. let it : tally (followed h (Fork f.actor f.scope f.label)) s x ≡ tally h s x + 0 = forked_by s x y false other is at in omega (arith, it))

  -- and counts one task more in its own
  pub fork_counted : (s : ℕ) (n : Counts) (cancelled : Bool) → (f.scope == s) ≡ true → counts h s ≡ n → forking (followed h (Fork f.actor f.scope f.label)) (tasks h + 1) ≡ Some f → stage (followed h (Fork f.actor f.scope f.label)) (tasks h + 1) ≡ cond cancelled Never Waiting
      → counts (followed h (Fork f.actor f.scope f.label)) s ≡ count_fork cancelled n
  fork_counted s n true of had is at =
      let t = tallies_of h s n had in
      let m : (x : Stage) → tally (followed h (Fork f.actor f.scope f.label)) s x ≡ tally h s x + cond {A = ℕ} (is_stage x Never) 1 0 = λ x. forked_by s x Never true of is at in
      counts_by (followed h (Fork f.actor f.scope f.label)) s (n.never + 1) n.waiting n.running n.finished
      (omega (arith, m Never, t.never)) (omega (arith, m Waiting, t.waiting)) (omega (arith, m Running, t.running)) (omega (arith, m Finished, t.finished))
  fork_counted s n false of had is at =
      let t = tallies_of h s n had in
      let m : (x : Stage) → tally (followed h (Fork f.actor f.scope f.label)) s x ≡ tally h s x + cond {A = ℕ} (is_stage x Waiting) 1 0 = λ x. forked_by s x Waiting true of is at in
      counts_by (followed h (Fork f.actor f.scope f.label)) s n.never (n.waiting + 1) n.running n.finished
      (omega (arith, m Never, t.never)) (omega (arith, m Waiting, t.waiting)) (omega (arith, m Running, t.running)) (omega (arith, m Finished, t.finished))
