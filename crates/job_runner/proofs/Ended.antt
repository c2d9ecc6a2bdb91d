-- What the end of a context leaves.
use Rattle.std.proofs.Common.{[], ℕ, ◌∙◌, ◌∷◌, ◌≡◌, Bool, Err, List, None, Option, Some, ap, false, inl, inr, is_some, refl, subst, sym, true}
use Rattle.job_runner.specs.{Added, EndValue, Ended, EndsAsMay, Finish, Finishes, Happened, History, IsLegal, LeavesNothing, Limits, Looked, NothingOpen, OwnerValue, RealmStep, Refusal, Running, TicketValue, check_of, has_open}
use Rattle.job_runner.specs.{history_of, history_seen, innermost, stage}
use Rattle.job_runner.proofs.Words.{beginning_legal, finish_passed, innermost_still, legal_history, may_finish, nothing_open, nothing_runs, started_runs}

-- if main has no open scope, all is over
pub leaves_nothing : (token : OwnerValue) → NothingOpen token → LeavesNothing token
leaves_nothing token left = record {
  left = left;
  over = λ main.
      let legal = legal_history token.limits token.seen left.legal in
      let none : innermost (history_seen token) 0 ≡ None = subst (λ (a : ℕ). innermost (history_seen token) a ≡ None) main left.none in
      record {
        closed = λ s o is. nothing_open token.limits (history_seen token) s o legal none is;
        settled = λ k. nothing_runs token.limits (history_seen token) k legal none;
      };
}

-- an end was accepted: the token had shown no open scope
pub ended_unopened : (old : OwnerValue) (k : ℕ) (end : EndValue) (seen : List RealmStep) → old.actor ≡ k → Added old (record old { seen = seen }) (Happened (Finish k end)) → has_open old ≡ false
ended_unopened old k end seen same added =
    let legal = beginning_legal old.limits added.there (Happened (Finish k end) ∷ []) (subst (IsLegal old.limits) added.is added.legal) in
    let none : innermost (history_of added.there) k ≡ None = (finish_passed old.limits (history_of added.there) k end added.accepted).no_scope in
    let still = innermost_still old.limits old.actor old.seen added.there added.agrees legal in
    ap is_some (sym still ∙ (ap (innermost (history_of added.there)) same ∙ none))

-- the end of a task that runs is refused for its open scope
refused_for_scope : (L : Limits) (h : History) (k : ℕ) (end : EndValue) (r : Refusal) → stage h k ≡ Running → check_of L h (Finish k end) ≡ Err r → is_some (innermost h k) ≡ true
refused_for_scope L h k end r runs refused = by (innermost h k) refl
  where
    by : (o : Option ℕ) → innermost h k ≡ o → is_some o ≡ true
    by None is = absurd (cc (may_finish L h k end runs is, refused))
    by (Some s) is = refl

-- so where an end was refused, the token had shown one
pub refused_open : (ticket new : TicketValue) (old : OwnerValue) (end : EndValue) (back : Refusal × OwnerValue) → old.actor ≡ ticket.task → Finishes ticket new old end (Err back) → has_open old ≡ true
refused_open ticket new old end back same it =
    let seen : new.seen ≡ back.1.seen = sym (ap (λ (t : OwnerValue). t.seen) it.1) in
    let task : new.task ≡ ticket.task = ap (λ (t : TicketValue). t.task) it.0.0 in
    let looks = it.2.looks in
    let running = it.4 in
    let runs : stage (history_of back.1.seen) ticket.task ≡ Running = started_runs old.limits back.1.seen ticket.task looks.legal (rw (task, seen) at running.given) (rw (task, seen) at running.started) (rw (task, seen) at running.unfinished) in
    let open_now = refused_for_scope old.limits (history_of back.1.seen) ticket.task end back.0 runs it.2.by in
    let still = innermost_still old.limits old.actor old.seen back.1.seen looks.agrees looks.legal in
    ap is_some (sym still ∙ ap (innermost (history_of back.1.seen)) same) ∙ open_now

-- what a look found is what the token had shown before it
pub found_before : (old new : OwnerValue) → Looked old new → innermost (history_seen new) new.actor ≡ innermost (history_seen old) old.actor
found_before old new looked =
    let actor = ap (λ (t : OwnerValue). t.actor) looked.0 in
    ap (innermost (history_seen new)) actor ∙ innermost_still old.limits old.actor old.seen new.seen looked.1.agrees looked.1.legal

-- and if it found none, there is none
pub found_none : (old new : OwnerValue) → Looked old new → innermost (history_seen new) new.actor ≡ None → NothingOpen new
found_none old new looked none = record { none = none; legal = subst (λ (L : Limits). IsLegal L new.seen) (sym (ap (λ (t : OwnerValue). t.limits) looked.0)) looked.1.legal }

-- it ended as the job may, unless it left a scope open
pub ends_as_may : (left : Bool) (may : EndValue → Type 0) (end : EndValue) (ticket : TicketValue) → may end → Ended left end ticket → EndsAsMay may ticket
ends_as_may true may end ticket so it = inr it
ends_as_may false may end ticket so it = inl (end, so, it)
