-- How forks, stages and completions of a scope balance in a legal history: a scope completes no more often
-- than tasks were forked in it, and not as often while one of them waits or runs.
use Rattle.std.proofs.Common.{[], ℕ, ◌++◌, ◌+◌, ◌<◌, ◌==◌, ◌∙◌, ◌∷◌, ◌≡◌, ◌≤◌, Bool, List, None, Option, Some, ap, arith, cond, count_by, false, length, length-append, refl, true}
use Rattle.scope_index.specs.{Accepts, Completion, EndValue, Event, Finish, Finished, Fork, Forking, History, IndexTables.forks_in, Legal, Limits, Never, Reject, Running, Stage, Start, TASK_LIMIT, Waiting, completion_of}
use Rattle.scope_index.specs.{completions, cons_option, finishes, followed, forking, forks_of, is_cancelled, is_fork, is_task_of, rejects, stage, starts, tasks}
use Rattle.scope_index.proofs.Words.{along, completions_grow, count_by-cons, count_push, count_same, finish_passed, forked_by, forking_stays, forks_within, moved_by, names_finished, names_rejected, names_started, next_forking}
use Rattle.scope_index.proofs.Words.{reject_passed, running_forked, running_is, stage_finished, stage_forked, stage_rejected, stage_started, start_passed, tally, tally_stays, waiting_forked, waiting_is}

-- what completed, waits and runs in scope s was forked in it, and what was forked is at some stage
pub record Balance (h : History) (s : ℕ) : Type 0 where
  pub few : length (completions h s) + (tally h s Waiting + tally h s Running) ≤ forks_of h s
  pub all : forks_of h s ≤ (tally h s Never + tally h s Waiting) + (tally h s Running + tally h s Finished)

-- how many completions one event more adds
grown : (L : Limits) (h : History) (e : Event) (s : ℕ) (o : Option Completion) → Legal L h → completion_of (followed h e) s e ≡ o → length (completions (followed h e) s) ≡ length (completions h s) + length (cons_option o [])
grown L h e s o legal is = ap length (completions_grow L h e s legal ∙ ap (λ x. completions h s ++ cons_option x []) is) ∙ length-append (completions h s) (cons_option o [])

-- an event that names no task, and forks none, leaves the balance
balance_stays : (L : Limits) (h : History) (e : Event) → Legal L h → is_fork e ≡ false → ((j : ℕ) → (rejects j e ≡ false) × (starts j e ≡ false) × (finishes j e ≡ false)) → ((s : ℕ) → completion_of (followed h e) s e ≡ None) → ((s : ℕ) → forks_in s e ≡ false)
    → ((s : ℕ) → Balance h s) → (s : ℕ) → Balance (followed h e) s
balance_stays L h e legal other none completes forks was s =
    let size = grown L h e s None legal (completes s) in
    let forked = count_same (forks_in s) h e (forks s) in
    let same : (x : Stage) → tally (followed h e) s x ≡ tally h s x = λ x. tally_stays L h e s x legal other none in
    record {
      few = omega (arith, (was s).few, size, forked, same Waiting, same Running);
      all = omega (arith, (was s).all, forked, same Never, same Waiting, same Running, same Finished);
    }

module _ (L : Limits) (h : History) (k : ℕ) (f : Forking) (legal : Legal L h) (is : forking h k ≡ Some f) (was : (s : ℕ) → Balance h s) where
  -- a reject
  rejected_by : Accepts L h (Reject k) → stage h k ≡ Waiting → (s : ℕ) (b : Bool) → (f.scope == s) ≡ b → Balance (followed h (Reject k)) s
  rejected_by ok at s true of =
      let m = λ (x : Stage). moved_by L h (Reject k) k f Waiting Never legal is (names_rejected k) at (stage_rejected L h k legal ok) s x true of in
      let size = grown L h (Reject k) s None legal refl in
      let forked = count_same (forks_in s) h (Reject k) refl in
      record {
        few = omega (arith, (was s).few, size, forked, m Waiting, m Running);
        all = omega (arith, (was s).all, forked, m Never, m Waiting, m Running, m Finished);
      }
  rejected_by ok at s false of =
      let m = λ (x : Stage). moved_by L h (Reject k) k f Waiting Never legal is (names_rejected k) at (stage_rejected L h k legal ok) s x false of in
      let size = grown L h (Reject k) s None legal refl in
      let forked = count_same (forks_in s) h (Reject k) refl in
      record {
        few = omega (arith, (was s).few, size, forked, m Waiting, m Running);
        all = omega (arith, (was s).all, forked, m Never, m Waiting, m Running, m Finished);
      }

  -- a start
  started_by : Accepts L h (Start k) → stage h k ≡ Waiting → (s : ℕ) (b : Bool) → (f.scope == s) ≡ b → Balance (followed h (Start k)) s
  started_by ok at s true of =
      let m = λ (x : Stage). moved_by L h (Start k) k f Waiting Running legal is (names_started k) at (stage_started L h k legal ok) s x true of in
      let size = grown L h (Start k) s None legal refl in
      let forked = count_same (forks_in s) h (Start k) refl in
      record {
        few = omega (arith, (was s).few, size, forked, m Waiting, m Running);
        all = omega (arith, (was s).all, forked, m Never, m Waiting, m Running, m Finished);
      }
  started_by ok at s false of =
      let m = λ (x : Stage). moved_by L h (Start k) k f Waiting Running legal is (names_started k) at (stage_started L h k legal ok) s x false of in
      let size = grown L h (Start k) s None legal refl in
      let forked = count_same (forks_in s) h (Start k) refl in
      record {
        few = omega (arith, (was s).few, size, forked, m Waiting, m Running);
        all = omega (arith, (was s).all, forked, m Never, m Waiting, m Running, m Finished);
      }

  -- the completion that the end of the task is, in its scope and elsewhere
  completed_by : (end : EndValue) (s : ℕ) (b : Bool) → (f.scope == s) ≡ b → completion_of (followed h (Finish k end)) s (Finish k end) ≡ cond b (Some (record { task = k; end = end })) None
  unfolding is_task_of
  completed_by end s b of = rw (forking_stays h (Finish k end) k f is) (ap (λ c. cond c (Some (record { task = k; end = end })) None) of)

  -- an end
  finished_by : (end : EndValue) → Accepts L h (Finish k end) → stage h k ≡ Running → (s : ℕ) (b : Bool) → (f.scope == s) ≡ b → Balance (followed h (Finish k end)) s
  finished_by end ok at s true of =
      let m = λ (x : Stage). moved_by L h (Finish k end) k f Running Finished legal is (names_finished k end) at (stage_finished L h k end legal ok) s x true of in
      let size = grown L h (Finish k end) s (Some (record { task = k; end = end })) legal (completed_by end s true of) in
      let forked = count_same (forks_in s) h (Finish k end) refl in
      record {
        few = omega (arith, (was s).few, size, forked, m Waiting, m Running);
        all = omega (arith, (was s).all, forked, m Never, m Waiting, m Running, m Finished);
      }
  finished_by end ok at s false of =
      let m = λ (x : Stage). moved_by L h (Finish k end) k f Running Finished legal is (names_finished k end) at (stage_finished L h k end legal ok) s x false of in
      let size = grown L h (Finish k end) s None legal (completed_by end s false of) in
      let forked = count_same (forks_in s) h (Finish k end) refl in
      record {
        few = omega (arith, (was s).few, size, forked, m Waiting, m Running);
        all = omega (arith, (was s).all, forked, m Never, m Waiting, m Running, m Finished);
      }

-- a fork adds one
module _ (L : Limits) (h : History) (a t : ℕ) (label : _) (legal : Legal L h) (was : (s : ℕ) → Balance h s) where
  fork_by : (s : ℕ) (c b : Bool) → (t == s) ≡ b → stage (followed h (Fork a t label)) (tasks h + 1) ≡ cond c Never Waiting → Balance (followed h (Fork a t label)) s
  fork_by s true true of at =
      let f : Forking = record { place = length h.events; actor = a; scope = t; label = label } in
      let m = λ (x : Stage). forked_by L h f legal s x Never true of (next_forking h a t label) at in
      let size = grown L h (Fork a t label) s None legal refl in
      let one : cond {A = ℕ} (forks_in s (Fork a t label)) 1 0 ≡ 1 = ap (λ b. cond {A = ℕ} b 1 0) of in
      record {
        few = omega (arith, (was s).few, size, count_push (forks_in s) h.events (Fork a t label), one, m Waiting, m Running);
        all = omega (arith, (was s).all, count_push (forks_in s) h.events (Fork a t label), one, m Never, m Waiting, m Running, m Finished);
      }
  fork_by s false true of at =
      let f : Forking = record { place = length h.events; actor = a; scope = t; label = label } in
      let m = λ (x : Stage). forked_by L h f legal s x Waiting true of (next_forking h a t label) at in
      let size = grown L h (Fork a t label) s None legal refl in
      let one : cond {A = ℕ} (forks_in s (Fork a t label)) 1 0 ≡ 1 = ap (λ b. cond {A = ℕ} b 1 0) of in
      record {
        few = omega (arith, (was s).few, size, count_push (forks_in s) h.events (Fork a t label), one, m Waiting, m Running);
        all = omega (arith, (was s).all, count_push (forks_in s) h.events (Fork a t label), one, m Never, m Waiting, m Running, m Finished);
      }
  fork_by s c false of at =
      let f : Forking = record { place = length h.events; actor = a; scope = t; label = label } in
      let m = λ (x : Stage). forked_by L h f legal s x (cond c Never Waiting) false of (next_forking h a t label) at in
      let size = grown L h (Fork a t label) s None legal refl in
      let none : cond {A = ℕ} (forks_in s (Fork a t label)) 1 0 ≡ 0 = ap (λ b. cond {A = ℕ} b 1 0) of in
      record {
        few = omega (arith, (was s).few, size, count_push (forks_in s) h.events (Fork a t label), none, m Waiting, m Running);
        all = omega (arith, (was s).all, count_push (forks_in s) h.events (Fork a t label), none, m Never, m Waiting, m Running, m Finished);
      }

balance_step : (L : Limits) (h : History) (e : Event) → Legal L h → Accepts L h e → ((s : ℕ) → Balance h s) → (s : ℕ) → Balance (followed h e) s
balance_step L h (Fork a t label) legal ok was s = fork_by L h a t label legal was s (is_cancelled h t) (t == s) refl (stage_forked L h a t label legal ok)
balance_step L h (Reject k) legal ok was s =
    let waits = reject_passed L h k ok in
    let it = waiting_forked h k waits in
    rejected_by L h k it.forked legal it.is was ok (waiting_is (stage h k) waits) s (it.forked.scope == s) refl
balance_step L h (Start k) legal ok was s =
    let waits = start_passed L h k ok in
    let it = waiting_forked h k waits in
    started_by L h k it.forked legal it.is was ok (waiting_is (stage h k) waits) s (it.forked.scope == s) refl
balance_step L h (Finish k end) legal ok was s =
    let runs = (finish_passed L h k end ok).runs in
    let it = running_forked h k runs in
    finished_by L h k it.forked legal it.is was end ok (running_is (stage h k) runs) s (it.forked.scope == s) refl
balance_step L h e legal ok was s = balance_stays L h e legal refl (λ j. (refl, refl, refl)) (λ j. refl) (λ j. refl) was s

-- each scope of a legal history balances
pub balanced : (L : Limits) (h : History) → Legal L h → (s : ℕ) → Balance h s
unfolding completions
balanced L h legal = along L (λ g. (s : ℕ) → Balance g s) (λ b s. record { few = omega arith; all = omega arith }) (balance_step L) h legal

unit_within : (s : ℕ) (e : Event) → cond {A = ℕ} (forks_in s e) 1 0 ≤ cond {A = ℕ} (is_fork e) 1 0
unit_within s (Fork actor scope label) = by (scope == s)
  where
    by : (b : Bool) → cond {A = ℕ} b 1 0 ≤ 1
    by true = omega arith
    by false = omega arith
unit_within s e = omega arith

-- no more tasks are forked in a scope than in all
pub forks_in_all : (s : ℕ) (es : List Event) → count_by (forks_in s) es ≤ count_by is_fork es
forks_in_all s [] = omega arith
forks_in_all s (e ∷ es) = omega (arith, count_by-cons (forks_in s) e es, count_by-cons is_fork e es, unit_within s e, forks_in_all s es)

-- while a task runs in a scope, one more can complete there, by the limit of tasks too
pub record MayComplete (h : History) (s : ℕ) : Type 0 where
  pub forked : length (completions h s) + 1 ≤ forks_of h s
  pub few : length (completions h s) < TASK_LIMIT

pub may_complete : (L : Limits) (h : History) (s : ℕ) → Legal L h → 1 ≤ tally h s Running → MayComplete h s
may_complete L h s legal runs =
    let balance = balanced L h legal s in
    record {
      forked = omega (arith, balance.few, runs);
      few = omega (arith, balance.few, runs, forks_in_all s h.events, forks_within L h legal, L.tasks_in_range);
    }
