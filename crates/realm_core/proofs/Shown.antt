-- What the report shows of each task that has a ticket.
use Rattle.std.proofs.Common.{[], ℕ, ◌++◌, ◌<◌, ◌∙◌, ◌∷◌, ◌≡◌, All, Bool, List, None, Option, Some, ap, arith, count_by, false, is_some, refl, subst, sym, true}
use Rattle.realm_core.specs.{AllEnded, AreTicketsOf, BearsOut, EndClose, EndValue, Ending, Ends.Ends, Forking, Grant, History, IsLegal, IsShown, Limits, LogValue, RealmStep, ShowsRun, TicketValue, cancelled_before, covers, end_in}
use Rattle.realm_core.specs.{end_shown, ended, ending, entries, followed, forking, grant_shown, has_ended, history_of, is_due, is_task_of, is_ticket_of, log, one_if, option_map_or}
use Rattle.realm_core.proofs.Words.{All-cons, IsOpened, and_parts, count_by-cons, eq-eqb, forked_after, forked_opened, forking_same, legal_history, seen_tells, tells_history}
use Rattle.realm_core.proofs.{EndSteps.history_ended, LogRuns.runs_shown, TicketCounts.all_head, TicketCounts.all_tail}

-- the ends of a close fork nothing
forking_ended : (h : History) (a k : ℕ) (ts : List ℕ) → forking (ended h a ts) k ≡ forking h k
forking_ended h a k [] = refl
forking_ended h a k (t ∷ ts) = forking_ended (followed h (EndClose a t)) a k ts ∙ forking_same h (EndClose a t) k refl

due_forked : (h : History) (s k : ℕ) → is_due h s k ≡ true → (f : Forking) × (forking h k ≡ Some f)
unfolding is_due
due_forked h s k due = by (forking h k) refl (and_parts (option_map_or (λ (f : Forking). covers h s f.scope) (forking h k) false) _ due).0
  where
    by : (o : Option Forking) → forking h k ≡ o → option_map_or (λ (f : Forking). covers h s f.scope) o false ≡ true → (f : Forking) × (forking h k ≡ Some f)
    by None is yes' = absurd cc
    by (Some f) is yes' = (f, is)

same_scope : (b : Bool) (f : Forking) (g : Grant) → grant_shown b f ≡ Some g → f.scope ≡ g.scope
same_scope true f g is = absurd cc
same_scope false f g is = let same : record { scope = f.scope; label = f.label } ≡ g = cc in ap (λ (x : Grant). x.scope) same

shown_end : (o : Option Ending) (e : EndValue) → end_shown o ≡ Some e → (x : Ending) × (o ≡ Some x) × (x.end ≡ e)
shown_end None e is = absurd cc
shown_end (Some x) e is = (x, refl, cc)

end_there : (o : Option EndValue) → is_some o ≡ true → (e : EndValue) × (o ≡ Some e)
end_there None is = absurd cc
end_there (Some e) is = (e, refl)

task_of : (h : History) (s k : ℕ) (f : Forking) → forking h k ≡ Some f → f.scope ≡ s → is_task_of h s k ≡ true
unfolding is_task_of
task_of h s k f is of = rw is (eq-eqb f.scope s of)

log_there : (h : History) (s : ℕ) → IsOpened h s → (l : LogValue) × (log h s ≡ Some l)
unfolding log
log_there h s it = (record { scope = s; policy = it.opened.policy; expiry = it.opened.options.expiry; entries = entries h s }, rw it.is refl)

-- one ticket
shown_one : (L : Limits) (steps : List RealmStep) (t : TicketValue) (f : Forking) → IsLegal L steps → forking (history_of steps) t.task ≡ Some f → BearsOut steps t → has_ended t ≡ true → IsShown (history_of steps) t
shown_one L steps t f lawful is bears ended_it =
    let h = history_of steps in
    let k = t.task in
    let legal = legal_history L steps lawful in
    let number = forked_after h k f is in
    let alike = seen_tells k t.seen steps bears.agrees in
    let tells = tells_history L steps k lawful (omega (arith, number.2)) in
    let g : Grant = record { scope = t.scope; label = t.label } in
    let given = sym (tells.grant f is) ∙ alike.grant g bears.granted in
    let scope = same_scope (cancelled_before h f.scope f.place) f g given in
    let end = end_there (end_in k t.seen) ended_it in
    let finish = shown_end (ending h k) end.0 (sym tells.end ∙ (alike.end ∙ end.1)) in
    let opened = subst (IsOpened h) scope (forked_opened L h k f legal is) in
    let found = log_there h t.scope opened in
    record {
      in_log = found.0;
      logged = found.1;
      end = end.0;
      ended = end.1;
      run = subst (λ e. ShowsRun found.0 k e) finish.2 (runs_shown L h t.scope k found.0 finish.0 legal found.1 (task_of h t.scope k f is scope) finish.1);
    }

-- each of them
shown_each : (L : Limits) (steps : List RealmStep) → IsLegal L steps → (tickets : List TicketValue) → ((k : ℕ) → 0 < count_by (is_ticket_of k) tickets → (f : Forking) × (forking (history_of steps) k ≡ Some f)) → All (BearsOut steps) tickets → AllEnded tickets → All (IsShown (history_of steps)) tickets
shown_each L steps lawful [] forked bear ended_all = λ k d under. absurd (omega (arith, under))
shown_each L steps lawful (t ∷ ts) forked bear ended_all =
    let own : one_if (is_ticket_of t.task t) ≡ 1 = ap one_if (eq-eqb t.task t.task refl) in
    let first = forked t.task (omega (arith, count_by-cons (is_ticket_of t.task) t ts, own)) in
    All-cons (IsShown (history_of steps)) t ts
    (shown_one L steps t first.0 lawful first.1 (all_head (BearsOut steps) t ts bear) (all_head (λ (x : TicketValue). has_ended x ≡ true) t ts ended_all))
    (shown_each L steps lawful ts (λ k some. forked k (omega (arith, count_by-cons (is_ticket_of k) t ts, some))) (all_tail (BearsOut steps) t ts bear) (all_tail (λ (x : TicketValue). has_ended x ≡ true) t ts ended_all))

-- so after the ends each ticket of what was closed is shown
pub tickets_shown : (L : Limits) (a s : ℕ) (nested : List ℕ) (old new : List RealmStep) (tickets : List TicketValue) → Ends L a s nested old new → AreTicketsOf (history_of old) s tickets → All (BearsOut new) tickets → All (IsShown (history_of new)) tickets
tickets_shown L a s nested old new tickets ends given bear = shown_each L new ends.legal tickets forked bear given.ended
  where
    due : (k n : ℕ) (b : Bool) → n ≡ one_if b → 0 < n → b ≡ true
    due k n true is some = refl
    due k n false is some = absurd (omega (arith, is, some))

    forked : (k : ℕ) → 0 < count_by (is_ticket_of k) tickets → (f : Forking) × (forking (history_of new) k ≡ Some f)
    forked k some =
        let it = due_forked (history_of old) s k (due k (count_by (is_ticket_of k) tickets) (is_due (history_of old) s k) (given.each k) some) in
        (it.0, ap (λ h. forking h k) (history_ended a old new (nested ++ s ∷ []) ends.are) ∙ (forking_ended (history_of old) a k (nested ++ s ∷ []) ∙ it.1))
