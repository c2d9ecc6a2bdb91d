-- A command that names no number that was discarded is answered behind a retirement as without it.
use Rattle.std.proofs.Common.{[], ℕ, ◌++◌, ◌+◌, ◌∙◌, ◌∷◌, ◌≡◌, List, ap, append_assoc, cond, false, inl, inr, ok_or, refl}
use Rattle.scope_script.specs.{AnswersAlike, Event, History, NamesNone, Never, NotBound, NotJoined, Query, Retirable, ScopeAlike, TaskAlike, Thread, actor_check, answer_to, answering, asks_let_go, binding_reply, bindings}
use Rattle.scope_script.specs.{bound_to, cause, checked_then, counts, effective, event_reply_of, fault_reply, fault_shown, followed, is_already, is_cancelled, is_let_go, left, names_let_go, outcome, passed_reply, reading_check}
use Rattle.scope_script.specs.{replied, result_reply, retired, scope_check, scopes, stage, state, task_check, tasks, unretired, until_check, value_shown}
use Rattle.scope_script.proofs.Lemmas.{answers_alike, entry_of_push, or_left, or_right}
use Rattle.scope_rules.specs.declared.types.events.Event.TheVariants as event
use Rattle.script_words.specs.declared.commands.Query.TheVariants as query
use Rattle.script_words.specs.declared.reply.Reply.TheVariants as reply

-- one event more
pub event_more : (r : Retirable) (es : List Event) (e : Event) → followed (unretired r es) e ≡ unretired r (es ++ e ∷ [])
event_more r es e = ap (λ xs. record { base = r.past.base; events = xs }) (append_assoc r.past.events es (e ∷ []))

pub names_more : (r : Retirable) (es : List Event) (e : Event) → NamesNone r es → names_let_go (left r) e ≡ false → NamesNone r (es ++ e ∷ [])
names_more r es e none new i x at =
    elim (entry_of_push es e x i at) [
      | inl here ↦ none i x here.1
      | inr last ↦ ap (names_let_go (left r)) last.1 ∙ new
    ]

module _ (r : Retirable) (es : List Event) (none : NamesNone r es) where
  alike : AnswersAlike r.limits (unretired r es) (retired r es)
  alike = answers_alike r es none

  of_scope : (s : ℕ) → is_let_go (scopes r.past) s ≡ false → ScopeAlike (unretired r es) (retired r es) s
  of_scope s new = alike.of_scopes s new

  of_task : (k : ℕ) → is_let_go (tasks r.past) k ≡ false → TaskAlike (unretired r es) (retired r es) k
  of_task k new = alike.of_tasks k new

  -- what an accepted event is told
  pub told_alike : (e : Event) → names_let_go (left r) e ≡ false → event_reply_of (unretired r es) e ≡ event_reply_of (retired r es) e
  told_alike (event.Open actor policy options) new = ap (λ n. reply.Scope (n + 1)) alike.scopes
  told_alike (event.Fork actor scope label) new =
      let known = or_right (is_let_go (tasks r.past) actor) (is_let_go (scopes r.past) scope) new in
      ap (λ n. reply.Task (cond (is_cancelled (unretired r es) scope) (Never (n + 1)) (Thread (n + 1)))) alike.tasks
      ∙ ap (λ b. reply.Task (cond b (Never (tasks (retired r es) + 1)) (Thread (tasks (retired r es) + 1)))) (of_scope scope known).cancelled
  told_alike (event.Join actor scope) new =
      let known = or_right (is_let_go (tasks r.past) actor) (is_let_go (scopes r.past) scope) new in
      let more = answers_alike r (es ++ event.Join actor scope ∷ []) (names_more r es (event.Join actor scope) none new) in
      let given : outcome (followed (unretired r es) (event.Join actor scope)) scope ≡ outcome (followed (retired r es) (event.Join actor scope)) scope =
      ap (λ (g : History). outcome g scope) (event_more r es (event.Join actor scope)) ∙ (more.of_scopes scope known).outcome in
      ap (λ o. replied reply.Outcome (ok_or o NotJoined)) given
  told_alike (event.EndClose actor scope) new =
      let known = or_right (is_let_go (tasks r.past) actor) (is_let_go (scopes r.past) scope) new in
      ap reply.Closed (of_scope scope known).verdict
  told_alike _ new = refl

  pub passed_alike : (e : Event) → names_let_go (left r) e ≡ false → passed_reply (unretired r es) e ≡ passed_reply (retired r es) e
  passed_alike e new =
      ap (λ b. cond b reply.Already (event_reply_of (unretired r es) e)) (alike.events e new).already ∙ ap (cond (is_already (retired r es) e) reply.Already) (told_alike e new)

  -- what a query is answered
  pub answers_to : (asked : Query) → asks_let_go (left r) asked ≡ false → answer_to (unretired r es) asked ≡ answer_to (retired r es) asked
  unfolding answer_to result_reply fault_reply binding_reply
  answers_to (query.State task) new =
      let it = of_task task new in
      ap (λ c. replied reply.State (answering c (state (unretired r es) task))) it.checked ∙ ap (λ x. replied reply.State (answering (task_check (retired r es) task) x)) it.state
  answers_to (query.Stage task) new =
      let it = of_task task new in
      ap (λ c. replied reply.Stage (answering c (stage (unretired r es) task))) it.checked ∙ ap (λ x. replied reply.Stage (answering (task_check (retired r es) task) x)) it.stage
  answers_to (query.Result actor task) new =
      let a = or_left (is_let_go (tasks r.past) actor) (is_let_go (tasks r.past) task) new in
      let k = or_right (is_let_go (tasks r.past) actor) (is_let_go (tasks r.past) task) new in
      ap (λ c. replied reply.Value (checked_then c (value_shown (state (unretired r es) task)))) (alike.read actor task a k)
      ∙ ap (λ x. replied reply.Value (checked_then (reading_check (retired r es) actor task) (value_shown x))) (of_task task k).state
  answers_to (query.Fault actor task) new =
      let a = or_left (is_let_go (tasks r.past) actor) (is_let_go (tasks r.past) task) new in
      let k = or_right (is_let_go (tasks r.past) actor) (is_let_go (tasks r.past) task) new in
      ap (λ c. replied reply.Fault (checked_then c (fault_shown (state (unretired r es) task)))) (alike.read actor task a k)
      ∙ ap (λ x. replied reply.Fault (checked_then (reading_check (retired r es) actor task) (fault_shown x))) (of_task task k).state
  answers_to (query.Cause scope) new =
      let it = of_scope scope new in
      ap (λ c. replied reply.Cause (answering c (cause (unretired r es) scope))) it.checked ∙ ap (λ x. replied reply.Cause (answering (scope_check (retired r es) scope) x)) it.cause
  answers_to (query.Until scope) new =
      let it = of_scope scope new in
      ap (λ c. replied reply.Until (answering c (effective (unretired r es) scope))) it.until_checked ∙ ap (λ x. replied reply.Until (answering (until_check (retired r es) scope) x)) it.until
  answers_to (query.Counts scope) new =
      let it = of_scope scope new in
      ap (λ c. replied reply.Counts (answering c (counts (unretired r es) scope))) it.checked ∙ ap (λ x. replied reply.Counts (answering (scope_check (retired r es) scope) x)) it.counts
  answers_to (query.Get actor key) new =
      let it = of_task actor new in
      ap (λ c. replied reply.Value (checked_then c (ok_or (bound_to key (bindings (unretired r es) actor)) NotBound))) it.acts
      ∙ ap (λ bs. replied reply.Value (checked_then (actor_check (retired r es) actor) (ok_or (bound_to key bs) NotBound))) it.bindings
