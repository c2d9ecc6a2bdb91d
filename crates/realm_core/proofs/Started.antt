-- What a ticket says of its task from its start on: it is given, started, and has no end before its own.
use Rattle.std.proofs.Common.{[], ℕ, ◌&&◌, ◌++◌, ◌||◌, ◌∙◌, ◌∷◌, ◌≡◌, Bool, List, None, Option, Some, ap, arith, cond, false, is_some, not, refl, sym, true}
use Rattle.scope_rules.specs.declared.types.answers.Stage.TheVariants.{Never}
use Rattle.realm_core.specs.{EndValue, Finished, Forking, Grant, Happened, History, IsRunning, IsWaiting, KeeperValue, Realm, RealmStep, Start, TableId, TicketAgrees, TicketValue, Tied, Words.Waiting, cancelled_before, end_in}
use Rattle.realm_core.specs.{end_shown, ending, finished, forking, grant_in, history_of, is_event, list_any, option_or, rejected, rejected_in, rejects, stage, started, started_in}
use Rattle.realm_core.proofs.Words.{end_in-append, forked_after, given_ticket_waits, grant-append, list_any-append, no_ending, or-false, seen_tells, stage_is, staged, tells_history, waiting_forked}

never_or_finished : (b : Bool) → cond b Never Finished ≡ Waiting → ⊥
never_or_finished true is = cc
never_or_finished false is = cc

-- what waits has not finished
waiting_unfinished : (c r f s : Bool) → staged c r f s ≡ Waiting → f ≡ false
waiting_unfinished c r false s is = refl
waiting_unfinished c r true s is = absurd (never_or_finished (c || r) is)

waiting_unended : (h : History) (k : ℕ) (f : Forking) → forking h k ≡ Some f → stage h k ≡ Waiting → ending h k ≡ None
waiting_unended h k f is waits = no_ending h k (waiting_unfinished (cancelled_before h f.scope f.place) (rejected h k) (finished h k) (started h k) (sym (stage_is h k f is) ∙ waits))

given_alike : (o p : Option Grant) (r s : Bool) → ((g : Grant) → o ≡ Some g → p ≡ Some g) → s ≡ r → (is_some o && not r) ≡ true → (is_some p && not s) ≡ true
given_alike None p r s so same given = absurd cc
given_alike (Some g) p r s so same given = rw (so g refl, same) given

-- a start rejects nothing
rejected_push : (k : ℕ) (xs : List RealmStep) → rejected_in k (xs ++ Happened (Start k) ∷ []) ≡ rejected_in k xs
unfolding rejected_in
rejected_push k xs = list_any-append (is_event (rejects k)) xs (Happened (Start k) ∷ []) ∙ or-false (list_any (is_event (rejects k)) xs)

-- and ends nothing
end_push : (k : ℕ) (xs : List RealmStep) → end_in k xs ≡ None → end_in k (xs ++ Happened (Start k) ∷ []) ≡ None
unfolding end_in
end_push k xs is = end_in-append k xs (Happened (Start k) ∷ []) ∙ ap (λ (o : Option EndValue). option_or o None) is

module _ (name : TableId) (realm : Realm) (keeper : KeeperValue) (tied : Tied name realm keeper) (ticket : TicketValue) (agrees : TicketAgrees ticket keeper) where
  -- a task that waits has no end
  unended_there : IsWaiting ticket → end_in ticket.task keeper.steps ≡ None
  unended_there waiting =
      let waits = given_ticket_waits keeper.limits ticket.task ticket.seen keeper.steps tied.lawful agrees.agrees waiting.given waiting.unstarted in
      let it = waiting_forked (history_of keeper.steps) ticket.task (rw waits refl) in
      let number = forked_after (history_of keeper.steps) ticket.task it.forked it.is in
      let told = tells_history keeper.limits keeper.steps ticket.task tied.lawful (omega (arith, number.1, number.2)) in
      told.end ∙ ap end_shown (waiting_unended (history_of keeper.steps) ticket.task it.forked it.is waits)

  -- a ticket that waits runs once it is started
  pub runs_from_start : (new : TicketValue) → IsWaiting ticket → new ≡ record ticket { seen = keeper.steps ++ Happened (Start ticket.task) ∷ [] } → started_in new.task new.seen ≡ true → IsRunning new
  runs_from_start new waiting new_is begun =
      let alike = seen_tells ticket.task ticket.seen keeper.steps agrees.agrees in
      let x : List RealmStep = Happened (Start ticket.task) ∷ [] in
      rw new_is
      (record {
        given = given_alike (grant_in ticket.task ticket.seen) (grant_in ticket.task (keeper.steps ++ x)) (rejected_in ticket.task ticket.seen) (rejected_in ticket.task (keeper.steps ++ x)) (λ g at. grant-append ticket.task keeper.steps x g (alike.grant g at)) (rejected_push ticket.task keeper.steps ∙ alike.rejected) waiting.given;
        started = rw new_is at begun;
        unfinished = ap is_some (end_push ticket.task keeper.steps (unended_there waiting));
      })

-- one that runs goes on running, whatever others did
pub runs_on : (keeper : KeeperValue) (ticket new : TicketValue) → TicketAgrees ticket keeper → IsRunning ticket → new ≡ record ticket { seen = keeper.steps } → IsRunning new
runs_on keeper ticket new agrees running new_is =
    let alike = seen_tells ticket.task ticket.seen keeper.steps agrees.agrees in
    rw new_is
    (record {
      given = given_alike (grant_in ticket.task ticket.seen) (grant_in ticket.task keeper.steps) (rejected_in ticket.task ticket.seen) (rejected_in ticket.task keeper.steps) alike.grant alike.rejected running.given;
      started = alike.started ∙ running.started;
      unfinished = ap is_some alike.end ∙ running.unfinished;
    })
