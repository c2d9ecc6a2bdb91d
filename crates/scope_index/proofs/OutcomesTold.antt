-- What is kept of a joined scope says what its join answered.
use Rattle.std.proofs.Common.{ℕ, ◌+◌, ◌-◌, ◌∙◌, ◌≡◌, Bool, Err, List, None, Ok, Option, Result, Some, ap, arith, cond, option_map, refl, subst, sym, true}
use Rattle.scope_index.specs.{AreCancelsOf, AreForksOf, AreRowsOf, CancelTable, Cause, Completion, FirstCancel, ForkTable.ForkTable, HasRow, History, IfOk, IsAccountOf, JoinerStanding, Legal, Limits, Outcome, RowTable, ScopeRow}
use Rattle.scope_index.specs.{StandsFor, TaskRow, Unavailable, account_at, answer_of, before, cause, cause_before, completions, find, first_cancel, first_read, forking, has_failed, has_succeeded, is_available, is_task_of, joining}
use Rattle.scope_index.specs.{listing_by, opening, option_and_then, option_map_or, outcome, outcome_of, readable_by, readable_in, readable_of, scope_row, state, state_in, task_numbers, task_row, tasks_of, values_by}
use Rattle.scope_index.proofs.Words.{are_listed, forking_later, listing_same, scope_row_says, task_row_none, task_row_says, task_there, values_same}
use Rattle.scope_index.proofs.{AtJoin.IsLike, AtJoin.join_at, AtJoin.join_wants, AtJoin.like_at_join, CancelsBefore.cause_at, FirstCompletions.first_by_completions, FirstCompletions.where_read}

-- ---- the rows' states

unforked_state : (h : History) (k : ℕ) → forking h k ≡ None → state h k ≡ Unavailable
unfolding state
unforked_state h k none = rw none refl

state_by : (h : History) (t : RowTable) (k : ℕ) (o : Option TaskRow) → AreRowsOf h t → task_row t k ≡ o → option_map_or (λ (r : TaskRow). r.state) o Unavailable ≡ state h k
state_by h t k None are is = sym (unforked_state h k (task_row_none h t k are is))
state_by h t k (Some r) are is = sym (task_row_says h t k r are is).state

-- the state that a row has is the task's
pub state_there : (h : History) (t : RowTable) (k : ℕ) → AreRowsOf h t → state_in t k ≡ state h k
state_there h t k are = state_by h t k (task_row t k) are refl

-- ---- what can be read

same_read : (h : History) (t : RowTable) (o : Option Completion) → AreRowsOf h t → option_and_then (where_read h) o ≡ option_and_then (readable_in t) o
same_read h t None are = refl
same_read h t (Some d) are = ap (λ x. cond (is_available x) (Some d) None) (sym (state_there h t d.task are))

module _ (L : Limits) (h : History) (s i : ℕ) (t : RowTable) (a : JoinerStanding) (ks : List ℕ) (legal : Legal L h) (is : joining h s ≡ Some i) (are : AreRowsOf h t) (stands : StandsFor a (completions h s)) (of : ks ≡ tasks_of h s) where
  like : IsLike (before h i) s h
  like = like_at_join L h s i legal is

  -- the states at the join are the rows'
  states_kept : (k : ℕ) → is_task_of (before h i) s k ≡ true → state (before h i) k ≡ state_in t k
  states_kept k so =
      let it = task_there (before h i) s k so in
      sym (like.states k (record { forked = it.forked; is = forking_later h i k it.forked it.is; of = it.of })) ∙ sym (state_there h t k are)

  -- the first completion that could be read at the join is the one that is kept, if it can be read now
  first_told : (test : Completion → Bool) (o : Option Completion) → o ≡ find test (completions h s) → first_read test (before h i) s ≡ option_and_then (readable_in t) o
  first_told test o first =
      sym (like.reads test)
      ∙ (first_by_completions L test h s legal
      ∙ (same_read h t (find test (completions h s)) are
      ∙ ap (option_and_then (readable_in t)) (sym first)))

  values_told : values_by (state (before h i)) (tasks_of (before h i) s) ≡ values_by (state_in t) ks
  unfolding tasks_of
  values_told = values_same (is_task_of (before h i) s) (state (before h i)) (state_in t) states_kept (task_numbers (before h i)) ∙ ap (values_by (state_in t)) (sym like.tasks ∙ sym of)

  listing_told : listing_by (state (before h i)) (tasks_of (before h i) s) ≡ listing_by (state_in t) ks
  unfolding tasks_of
  listing_told = listing_same (is_task_of (before h i) s) (state (before h i)) (state_in t) states_kept (task_numbers (before h i)) ∙ ap (listing_by (state_in t)) (sym like.tasks ∙ sym of)

  -- what could be read at the join is what is kept
  pub readable_told : readable_of (before h i) s ≡ readable_by t a.totals ks
  readable_told =
      rw (first_told has_failed a.totals.first_failure (are_listed a (completions h s) stands).first_failure)
      (rw (first_told has_succeeded a.totals.first_success (are_listed a (completions h s) stands).first_success)
      (rw values_told (rw listing_told refl)))

-- ---- the outcome

-- what is answered is what was answered after each history of which the parts are kept
pub answered : {E : Type 0} (r : Result Outcome E) (x : Outcome) (s : ℕ) (t : RowTable) (u : CancelTable) (v : ForkTable) → IfOk r (λ o. o ≡ x)
    → ((L : Limits) (h : History) → Legal L h → AreRowsOf h t → AreCancelsOf h u → AreForksOf h v → outcome h s ≡ Some x)
    → IfOk r (λ o. (L : Limits) (h : History) → Legal L h → AreRowsOf h t → AreCancelsOf h u → AreForksOf h v → outcome h s ≡ Some o)
answered (Ok o) x s t u v is told = λ L h legal rows cancels forks. told L h legal rows cancels forks ∙ ap Some (sym is)
answered (Err error) x s t u v is told = tt

account_of : (h : History) (t : CancelTable) (s : ℕ) (a : JoinerStanding) → AreCancelsOf h t → HasRow t s → account_at t s ≡ Some a → IsAccountOf h s a
account_of h t s a are has at =
    let number : (t.before + 1) + (s - t.before - 1) ≡ s = omega (arith, has.after) in
    subst (λ n. IsAccountOf h n a) number (are.accounts (s - t.before - 1) a at)

-- what the parts that are kept of one history say is what the join answered
pub outcome_told : (L : Limits) (h : History) (t : RowTable) (u : CancelTable) (s i : ℕ) (row : ScopeRow) (a : JoinerStanding) (c : Option FirstCancel) (why : Option Cause) (ks : List ℕ) → Legal L h → AreRowsOf h t → AreCancelsOf h u
    → scope_row t s ≡ Some row → row.joined ≡ Some i → HasRow u s → account_at u s ≡ Some a → c ≡ first_cancel h s → why ≡ cause_before c i → ks ≡ tasks_of h s → outcome h s ≡ Some (answer_of (readable_by t a.totals ks) s row.opening.policy row.opening.options.expiry why)
unfolding outcome outcome_of Legal
outcome_told L h t u s i row a c why ks legal rows cancels at joined has account cancel_is cause_is of =
    let g = before h i in
    let says = scope_row_says h t s row rows at in
    let is : joining h s ≡ Some i = says.joined ∙ joined in
    let it = join_at h s i is in
    let wants = join_wants L g it.actor s (legal i _ it.at) in
    let readable = readable_told L h s i t a ks legal is rows (account_of h u s a cancels has account).stands of in
    let cause_there : cause g s ≡ why = cause_at L h s i legal (omega (arith, it.within)) wants.0 ∙ (ap (λ x. cause_before x i) (sym cancel_is) ∙ sym cause_is) in
    let told = ap (λ r. answer_of r s row.opening.policy row.opening.options.expiry (cause g s)) readable ∙ ap (answer_of (readable_by t a.totals ks) s row.opening.policy row.opening.options.expiry) cause_there in
    ap (option_and_then (λ (n : ℕ). option_map (outcome_of (before h n) s) (opening h s))) is ∙ (ap (option_map (outcome_of g s)) says.opening ∙ ap Some told)
