-- How what is kept of forks goes on by one event.
use Rattle.std.proofs.Common.{[], ℕ, ◌++◌, ◌+◌, ◌∙◌, ◌∷◌, ◌≡◌, Bool, List, ap, arith, false, get_or, inl, inr, length, length-append, refl, subst, sym}
use Rattle.scope_rows.proofs.Altering.{altered_length}
use Rattle.scope_rows.specs.Steps.{altered}
use Rattle.scope_index.specs.{AreForksOf, Event, Fork, ForkTable.ForkTable, ForkTable.forks_in, ForkedTasks, HasForks, History, Label, Legal, Limits, Open, Options, Origin, Policy, filter, followed, is_fork, is_open, is_task_of}
use Rattle.scope_index.specs.{moves_forks, no_forks, no_lists, place_of, roomy, scopes, task_numbers, tasks, tasks_in, tasks_of, with_forks, with_open, with_task}
use Rattle.scope_index.proofs.Words.{AreRight, HasNoTask, altered_back, altered_here, altered_read, altered_split, append-nil, count_push, count_same, entry_there, eq-eqb, forked_opened, ne_eqb, no_task_of, opened_after}
use Rattle.scope_index.proofs.Words.{place_within, right_altered, right_pushed}
use Rattle.scope_index.proofs.TaskLists.{if_one, tasks_forked, tasks_kept}

-- ---- what is there

-- a realm begins with no lists
pub begins : (before : ℕ) (b : Origin) (t : ForkTable) → t ≡ no_lists before → b.scopes ≡ before → AreForksOf (record { base = b; events = [] }) t
begins before b t is scopes =
    subst (AreForksOf (record { base = b; events = [] })) (sym is) (record { numbered = sym scopes; count = refl; lists = λ i x at. absurd cc })

-- the list of a scope has its tasks
pub tasks_there : (h : History) (t : ForkTable) (s : ℕ) → HasForks t s → AreForksOf h t → tasks_in t s ≡ tasks_of h s
tasks_there h t s has are = entry_there (λ n x. x.numbers ≡ tasks_of h n) t.before t.lists s no_forks has are.lists

-- ---- an event that neither opens nor forks

opens_none : (e : Event) → moves_forks e ≡ false → is_open e ≡ false
opens_none (Open actor policy options) other = absurd cc
opens_none _ other = refl

forks_none : (e : Event) → moves_forks e ≡ false → is_fork e ≡ false
forks_none (Fork actor scope label) other = absurd cc
forks_none _ other = refl

-- such an event leaves the table
pub forks_stay : (h : History) (e : Event) (t : ForkTable) → moves_forks e ≡ false → AreForksOf h t → AreForksOf (followed h e) t
forks_stay h e t other are = record {
  numbered = are.numbered;
  count = are.count ∙ sym (count_same is_open h e (opens_none e other));
  lists = λ i x at. are.lists i x at ∙ sym (tasks_kept h e (t.before + 1 + i) (forks_none e other));
}

-- ---- an open

none_pass : (p : ℕ → Bool) (ns : List ℕ) → ((n : ℕ) → p n ≡ false) → filter p ns ≡ []
none_pass p [] none = refl
none_pass p (n ∷ ns) none = rw (none n) (none_pass p ns none)

-- no task was forked in a scope that is not opened yet
next_untasked : (L : Limits) (h : History) → Legal L h → HasNoTask h (scopes h + 1)
next_untasked L h legal k f is same =
    let it = forked_opened L h k f legal is in
    let number = opened_after h f.scope it.opened it.is in
    omega (arith, number.1, number.2, same)

next_tasks : (L : Limits) (h : History) → Legal L h → tasks_of h (scopes h + 1) ≡ []
unfolding tasks_of
next_tasks L h legal = none_pass (is_task_of h (scopes h + 1)) (task_numbers h) (λ k. no_task_of h (scopes h + 1) k (next_untasked L h legal))

module _ (L : Limits) (h : History) (t : ForkTable) (a : ℕ) (policy : Policy) (options : Options) (legal : Legal L h) (are : AreForksOf h t) where
  lists_opened : AreRight (λ n x. x.numbers ≡ tasks_of (followed h (Open a policy options)) n) t.before (t.lists ++ no_forks ∷ [])
  lists_opened =
      let e = Open a policy options in
      right_pushed (λ n x. x.numbers ≡ tasks_of h n) (λ n x. x.numbers ≡ tasks_of (followed h e) n) t.before t.lists no_forks (scopes h + 1) (omega (arith, are.numbered, are.count)) (λ n x less it. it ∙ sym (tasks_kept h e n refl))
      (sym (tasks_kept h e (scopes h + 1) refl ∙ next_tasks L h legal)) are.lists

  one_opened : AreForksOf (followed h (Open a policy options)) (with_open t)
  one_opened = record {
    numbered = are.numbered;
    count = let longer = length-append t.lists (no_forks ∷ []) in let pushed = count_push is_open h.events (Open a policy options) in omega (arith, longer, pushed, are.count);
    lists = lists_opened;
  }

-- an open adds a scope without tasks
pub opened_agrees : (L : Limits) (h : History) (t u : ForkTable) (a : ℕ) (policy : Policy) (options : Options) → u ≡ with_open t → Legal L h → AreForksOf h t → AreForksOf (followed h (Open a policy options)) u
opened_agrees L h t u a policy options is legal are = subst (AreForksOf (followed h (Open a policy options))) (sym is) (one_opened L h t a policy options legal are)

-- ---- a change of one scope's list

-- what is written for the scope is the change of its list
pub forks_written : (f : ForkedTasks → ForkedTasks) (v t : ForkTable) (s : ℕ) (x y : ForkedTasks) → v ≡ t → x ≡ get_or v.lists (place_of v.before s) x → y ≡ f x → record v { lists = altered (λ old. y) v.lists (place_of v.before s) } ≡ with_forks t s f
forks_written f v t s x y same read made =
    ap (λ z. record v { lists = altered (λ old. z) v.lists (place_of v.before s) }) made
    ∙ (ap (λ lists. record v { lists = lists }) (altered_read f v.lists (place_of v.before s) x read) ∙ ap (λ (u : ForkTable). with_forks u s f) same)

-- what is read for the scope after it was written
pub forks_back : (v t : ForkTable) (s : ℕ) (y : ForkedTasks) → v ≡ t → HasForks t s → forks_in (record v { lists = altered (λ old. y) v.lists (place_of v.before s) }) s ≡ y
forks_back v t s y same has =
    let there = subst (λ (u : ForkTable). HasForks u s) (sym same) has in
    altered_here (λ old. y) v.lists (place_of v.before s) no_forks (place_within v.before (length v.lists) s there.0 there.1)

-- a list that is written as it was
pub forks_same : (v t : ForkTable) (s : ℕ) (x y : ForkedTasks) → v ≡ t → x ≡ get_or v.lists (place_of v.before s) x → y ≡ x → record v { lists = altered (λ old. y) v.lists (place_of v.before s) } ≡ t
forks_same v t s x y same read kept = rw kept (ap (λ lists. record v { lists = lists }) (altered_back v.lists (place_of v.before s) x read) ∙ same)

-- room for more leaves the tasks
pub roomy_agrees : (h : History) (t u : ForkTable) (s room : ℕ) → u ≡ with_forks t s (roomy room) → AreForksOf h t → AreForksOf h u
roomy_agrees h t u s room is are =
    subst (AreForksOf h) (sym is) (record {
      numbered = are.numbered;
      count = altered_length (roomy room) t.lists (place_of t.before s) ∙ are.count;
      lists = λ i x at.
          elim (altered_split (roomy room) t.lists (place_of t.before s) i x at) [
            | inl here ↦ ap (λ (y : ForkedTasks). y.numbers) (sym here.1.is) ∙ are.lists i here.1.was here.1.at
            | inr there ↦ are.lists i x there.1
          ];
    })

module _ (h : History) (t : ForkTable) (a s : ℕ) (label : Label) (has : HasForks t s) (are : AreForksOf h t) where
  lists_forked : AreRight (λ n x. x.numbers ≡ tasks_of (followed h (Fork a s label)) n) t.before (altered (with_task (tasks h + 1)) t.lists (place_of t.before s))
  lists_forked =
      let k = tasks h + 1 in
      right_altered (λ n x. x.numbers ≡ tasks_of h n) (λ n x. x.numbers ≡ tasks_of (followed h (Fork a s label)) n) (with_task k) t.before t.lists s has.0
      (λ n x apart it. it ∙ (sym (append-nil (tasks_of h n)) ∙ (ap (λ b. tasks_of h n ++ if_one b k) (sym (ne_eqb s n (λ same. apart (sym same)))) ∙ sym (tasks_forked h a s n label))))
      (λ x at it. ap (λ ks. ks ++ k ∷ []) it ∙ (ap (λ b. tasks_of h s ++ if_one b k) (sym (eq-eqb s s refl)) ∙ sym (tasks_forked h a s s label))) are.lists

  one_forked : AreForksOf (followed h (Fork a s label)) (with_forks t s (with_task (tasks h + 1)))
  one_forked = record {
    numbered = are.numbered;
    count = altered_length (with_task (tasks h + 1)) t.lists (place_of t.before s) ∙ (are.count ∙ sym (count_same is_open h (Fork a s label) refl));
    lists = lists_forked;
  }

-- a fork adds its task to the list of its scope
pub forked_agrees : (h : History) (t u : ForkTable) (a s k : ℕ) (label : Label) → u ≡ with_forks t s (with_task k) → k ≡ tasks h + 1 → HasForks t s → AreForksOf h t → AreForksOf (followed h (Fork a s label)) u
forked_agrees h t u a s k label is next has are =
    subst (AreForksOf (followed h (Fork a s label))) (sym (is ∙ ap (λ n. with_forks t s (with_task n)) next)) (one_forked h t a s label has are)
