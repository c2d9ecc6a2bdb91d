-- The readings by number, one number after the other; and whose they are.
use Rattle.std.proofs.Common.{[], ℕ, ◌++◌, ◌+◌, ◌∙◌, ◌∷◌, ◌≡◌, List, None, Option, Some, ap, arith, is_some, refl, slice_get, true}
use Rattle.run_times.specs.{EachEndTimeIsItsOwn, EachForkTimeIsItsOwn, EachOpenTimeIsItsOwn, EachStartTimeIsItsOwn, Event, Forking, History, Landmark, Opening, first_place, fork_time, forking, forks_to, is_named, open_time}
use Rattle.run_times.specs.{opens_to, option_map_or, reading_at, task_time, tasks_to}
use Rattle.run_times.proofs.Words.{map-range_with_len_more}
use Rattle.run_times.proofs.Placed.{ended_is, ended_named, placed, start_is, started_is}
use Rattle.run_times.specs.declared.landmarks.Landmark.TheVariants as landmark

pub tasks_none : (mark : Landmark) (h : History) (times : List ℕ) → tasks_to mark h times 0 ≡ []
unfolding tasks_to
tasks_none mark h times = refl

pub opens_none : (h : History) (times : List ℕ) → opens_to h times 0 ≡ []
unfolding opens_to
opens_none h times = refl

pub forks_none : (h : History) (times : List ℕ) → forks_to h times 0 ≡ []
unfolding forks_to
forks_none h times = refl

pub forks_more : (h : History) (times : List ℕ) (n : ℕ) → forks_to h times (n + 1) ≡ forks_to h times n ++ fork_time h times (h.base.tasks + 1 + n) ∷ []
unfolding forks_to
forks_more h times n = map-range_with_len_more (fork_time h times) (h.base.tasks + 1) n (h.base.tasks + 1 + n) (omega arith)

pub tasks_more : (mark : Landmark) (h : History) (times : List ℕ) (n : ℕ) → tasks_to mark h times (n + 1) ≡ tasks_to mark h times n ++ task_time mark h times (h.base.tasks + 1 + n) ∷ []
unfolding tasks_to
tasks_more mark h times n = map-range_with_len_more (task_time mark h times) (h.base.tasks + 1) n (h.base.tasks + 1 + n) (omega arith)

pub opens_more : (h : History) (times : List ℕ) (n : ℕ) → opens_to h times (n + 1) ≡ opens_to h times n ++ open_time h times (h.base.scopes + 1 + n) ∷ []
unfolding opens_to
opens_more h times n = map-range_with_len_more (open_time h times) (h.base.scopes + 1) n (h.base.scopes + 1 + n) (omega arith)

-- the reading of what happened to a forked task is that of the place at which it happened first
time_there : (mark : Landmark) (h : History) (times : List ℕ) (k : ℕ) (f : Forking) → forking h k ≡ Some f → is_some (first_place mark h.events k) ≡ true → (i : ℕ) × (e : Event) × (slice_get h.events i ≡ Some e) × (is_named mark k e ≡ true) × (task_time mark h times k ≡ reading_at times i)
unfolding task_time
time_there mark h times k f is some = by (first_place mark h.events k) refl some
  where
    by : (o : Option ℕ) → first_place mark h.events k ≡ o → is_some o ≡ true → (i : ℕ) × (e : Event) × (slice_get h.events i ≡ Some e) × (is_named mark k e ≡ true) × (option_map_or (λ g. option_map_or (reading_at times) (first_place mark h.events k) 0) (forking h k) 0 ≡ reading_at times i)
    by None at some = absurd cc
    by (Some i) at some =
        let it = placed mark h.events k i at in
        (i, it.0, it.1, it.2, ap (λ (o : Option Forking). option_map_or (λ g. option_map_or (reading_at times) (first_place mark h.events k) 0) o 0) is ∙ ap (λ (o : Option ℕ). option_map_or (reading_at times) o 0) at)

pub each_start : EachStartTimeIsItsOwn
each_start h times k f is ran =
    let it = time_there landmark.Started h times k f is (started_is h k ∙ ran) in
    (it.0, it.2 ∙ ap Some (start_is k it.1 it.3), it.4)

pub each_end : EachEndTimeIsItsOwn
each_end h times k f is ended =
    let it = time_there landmark.Ended h times k f is (ended_is h k ∙ ended) in
    (it.0, it.1, it.2, ended_named k it.1 it.3, it.4)

pub each_open : EachOpenTimeIsItsOwn
unfolding open_time
each_open h times s o is = ap (λ (x : Option Opening). option_map_or (λ y. reading_at times y.place) x 0) is

pub each_fork : EachForkTimeIsItsOwn
unfolding fork_time
each_fork h times k f is = ap (λ (x : Option Forking). option_map_or (λ y. reading_at times y.place) x 0) is
