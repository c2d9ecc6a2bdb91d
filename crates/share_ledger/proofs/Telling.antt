-- What a ticket keeps, once its share was raised to the keeper's list.
use Rattle.std.proofs.Common.{[], ℕ, ◌&&◌, ◌++◌, ◌+◌, ◌==◌, ◌||◌, ◌∙◌, ◌∷◌, ◌≡◌, Bool, List, None, Option, Some, ap, arith, cond, false, is_some, not, refl, subst, sym, true}
use Rattle.share_ledger.specs.{Agrees, EndValue, Finish, Fork, Grant, Happened, Holder, IsFresh, IsKnown, IsShareOf, IsTicket, Label, LedgerView, MayAppend, RealmStep, Reject, Start, TellsAlike, TicketOf, TokenOf, end_in, end_of}
use Rattle.share_ledger.specs.{forks, given_in, grant_in, history_of, holder_of, holding, is_cancelled, is_event, is_named, is_own, limits_of, list_any, newly_named, option_or, rejected_in, rejects, same_holder, started_in}
use Rattle.share_ledger.specs.{starts, steps_of, tasks, view_of}
use Rattle.share_ledger.proofs.Words.{cond-false, cond-true, eq-eqb, eqb-true, list_any-push, ne_eqb, option_or-none, or-false, or_from, or_left, or_right}
use Rattle.share_ledger.proofs.{Histories.tasks_forks, Told.end_in-append, Told.grant-append, Told.grant-fork, Told.others_tell, Told.seen_tells, Waits.grant_number}

-- what a list says of a task that was given a thread
pub record Says (k : ℕ) (g : Grant) (r s : Bool) (e : Option EndValue) (xs : List RealmStep) : Type 0 where
  pub grant : grant_in k xs ≡ Some g
  pub rejected : rejected_in k xs ≡ r
  pub started : started_in k xs ≡ s
  pub end : end_in k xs ≡ e

-- what a ticket says of its own list is said by the whole list
pub says_whole : (k : ℕ) (g : Grant) (seen whole : List RealmStep) → Agrees (TicketOf k) seen whole → grant_in k seen ≡ Some g → Says k g (rejected_in k seen) (started_in k seen) (end_in k seen) whole
says_whole k g seen whole agrees at =
    let alike = seen_tells k seen whole agrees in
    record { grant = alike.grant g at; rejected = alike.rejected; started = alike.started; end = alike.end }

-- and by the list with one step more
pub says_push : (k : ℕ) (g : Grant) (r s : Bool) (e : Option EndValue) (xs : List RealmStep) (x : RealmStep) → Says k g r s e xs → Says k g (r || is_event (rejects k) x) (s || is_event (starts k) x) (option_or e (end_of k x)) (xs ++ x ∷ [])
unfolding rejected_in started_in end_in
says_push k g r s e xs x says = record {
  grant = grant-append k xs (x ∷ []) g says.grant;
  rejected = list_any-push (is_event (rejects k)) xs x ∙ ap (λ b. b || is_event (rejects k) x) says.rejected;
  started = list_any-push (is_event (starts k)) xs x ∙ ap (λ b. b || is_event (starts k) x) says.started;
  end = end_in-append k xs (x ∷ []) ∙ (ap (λ (o : Option EndValue). option_or o (option_or (end_of k x) None)) says.end ∙ ap (option_or e) (option_or-none (end_of k x)));
}

given_where : (k : ℕ) (g : Grant) (r : Bool) (xs : List RealmStep) → grant_in k xs ≡ Some g → rejected_in k xs ≡ r → given_in k xs ≡ not r
given_where k g r xs at rejected = rw (at, rejected) refl

-- a ticket whose badge has seen a list that says so
pub ticket_of : (k scope : ℕ) (label : Label) (given started : Bool) (end : Option EndValue) (views : List LedgerView) (xs : List RealmStep) → IsShareOf views (TicketOf k) → steps_of (view_of views) ≡ xs → Says k (record { scope = scope; label = label }) (not given) started end xs → IsTicket k scope label given started end views
ticket_of k scope label given started end views xs share seen says =
    let says' = subst (λ (w : List RealmStep). Says k (record { scope = scope; label = label }) (not given) started end w) (sym seen) says in
    record {
      share = share;
      grant = says'.grant;
      is_given = not_not given ∙ sym (given_where k (record { scope = scope; label = label }) (not given) (steps_of (view_of views)) says'.grant says'.rejected);
      is_started = sym says'.started;
      is_ended = sym says'.end;
    }
  where
    not_not : (b : Bool) → b ≡ not (not b)
    not_not true = refl
    not_not false = refl

-- what the keeper's list says, if the ticket agrees with it
pub says_known : (k scope : ℕ) (label : Label) (given started : Bool) (end : Option EndValue) (views : List LedgerView) (whole : List RealmStep) → IsTicket k scope label given started end views → Agrees (TicketOf k) (steps_of (view_of views)) whole → Says k (record { scope = scope; label = label }) (not given) started end whole
says_known k scope label given started end views whole ticket agrees =
    let seen = steps_of (view_of views) in
    let says = says_whole k (record { scope = scope; label = label }) seen whole agrees ticket.grant in
    record {
      grant = says.grant;
      rejected = says.rejected ∙ unrejected (grant_in k seen) (rejected_in k seen) given ticket.is_given (record { scope = scope; label = label }) ticket.grant;
      started = says.started ∙ sym ticket.is_started;
      end = says.end ∙ sym ticket.is_ended;
    }
  where
    unrejected : (o : Option Grant) (r b : Bool) → b ≡ (is_some o && not r) → (g : Grant) → o ≡ Some g → r ≡ not b
    unrejected None r b is g at = absurd cc
    unrejected (Some g') true b is g at = rw is refl
    unrejected (Some g') false b is g at = rw is refl

-- whose share it is
share_holder : (views : List LedgerView) (who : Holder) → IsShareOf views who → holder_of (view_of views) ≡ who
share_holder views who share = ap (λ (vs : List LedgerView). holder_of (view_of vs)) share

-- what the keeper was told of a ticket's share
known_agrees : (k : ℕ) (views : List LedgerView) (keeper : LedgerView) → IsShareOf views (TicketOf k) → IsKnown views keeper → Agrees (TicketOf k) (steps_of (view_of views)) (steps_of keeper)
known_agrees k views keeper share known = subst (λ (who : Holder). Agrees who (steps_of (view_of views)) (steps_of keeper)) (share_holder views (TicketOf k) share) known.1

-- a share that was given back is the same holder's, and has seen the list
share_raised : (who : Holder) (views new : List LedgerView) (keeper : LedgerView) (steps : List RealmStep) → IsShareOf views who → new ≡ holding (limits_of keeper) (holder_of (view_of views)) steps ∷ [] → IsShareOf new who × (steps_of (view_of new) ≡ steps)
share_raised who views new keeper steps share is =
    let e : new ≡ holding (limits_of keeper) who steps ∷ [] = is ∙ ap (λ (w : Holder). holding (limits_of keeper) w steps ∷ []) (share_holder views who share) in
    (rw e refl, rw e refl)

module _ (k scope : ℕ) (label : Label) (given started : Bool) (end : Option EndValue) (views new : List LedgerView) (keeper : LedgerView) (ticket : IsTicket k scope label given started end views) (known : IsKnown views keeper) where
  -- what the keeper's list says
  says : Says k (record { scope = scope; label = label }) (not given) started end (steps_of keeper)
  says = says_known k scope label given started end views (steps_of keeper) ticket (known_agrees k views keeper ticket.share known)

  now_says : (x : RealmStep) → Says k (record { scope = scope; label = label }) (not given || is_event (rejects k) x) (started || is_event (starts k) x) (option_or end (end_of k x)) (steps_of keeper ++ x ∷ [])
  now_says x = says_push k (record { scope = scope; label = label }) (not given) started end (steps_of keeper) x says

  -- a ticket whose share has followed
  pub followed_ticket : new ≡ holding (limits_of keeper) (holder_of (view_of views)) (steps_of keeper) ∷ [] → IsTicket k scope label given started end new
  followed_ticket is =
      let raised = share_raised (TicketOf k) views new keeper (steps_of keeper) ticket.share is in
      ticket_of k scope label given started end new (steps_of keeper) raised.0 raised.1 says

  -- a ticket whose share has seen a step more, with what that says of the task
  stepped_ticket : (x : RealmStep) (given' started' : Bool) (end' : Option EndValue) → new ≡ holding (limits_of keeper) (holder_of (view_of views)) (steps_of keeper ++ x ∷ []) ∷ [] → (not given || is_event (rejects k) x) ≡ not given' → (started || is_event (starts k) x) ≡ started' → option_or end (end_of k x) ≡ end' → IsTicket k scope label given' started' end' new
  stepped_ticket x given' started' end' is rejected begun ended =
      let raised = share_raised (TicketOf k) views new keeper (steps_of keeper ++ x ∷ []) ticket.share is in
      let now = now_says x in
      ticket_of k scope label given' started' end' new (steps_of keeper ++ x ∷ []) raised.0 raised.1
      (record { grant = now.grant; rejected = now.rejected ∙ rejected; started = now.started ∙ begun; end = now.end ∙ ended })

  -- a ticket whose task was rejected
  pub rejected_ticket : new ≡ holding (limits_of keeper) (holder_of (view_of views)) (steps_of keeper ++ Happened (Reject k) ∷ []) ∷ [] → IsTicket k scope label false started end new
  rejected_ticket is = stepped_ticket (Happened (Reject k)) false started end is (or_right (not given) (k == k) (eq-eqb k k refl)) (or-false started) (option_or-none end)

  -- a ticket whose task was started
  pub started_ticket : new ≡ holding (limits_of keeper) (holder_of (view_of views)) (steps_of keeper ++ Happened (Start k) ∷ []) ∷ [] → IsTicket k scope label given true end new
  started_ticket is = stepped_ticket (Happened (Start k)) given true end is (or-false (not given)) (or_right started (k == k) (eq-eqb k k refl)) (option_or-none end)

  -- a ticket whose task has ended
  pub ended_ticket : (how : EndValue) → end ≡ None → new ≡ holding (limits_of keeper) (holder_of (view_of views)) (steps_of keeper ++ Happened (Finish k how) ∷ []) ∷ [] → IsTicket k scope label given started (Some how) new
  ended_ticket how unended is =
      let ended = ap (λ (o : Option EndValue). option_or o (cond (k == k) (Some how) None)) unended ∙ cond-true (k == k) (Some how) None (eq-eqb k k refl) in
      stepped_ticket (Happened (Finish k how)) given started (Some how) is (or-false (not given)) (or-false started) ended

  start_owners : (who : Holder) → is_own who (Happened (Start k)) ≡ true → list_any (same_holder who) (TokenOf k ∷ TicketOf k ∷ []) ≡ true
  start_owners (TokenOf a) own = or_left (a == k) _ (eq-eqb a k (sym (eqb-true k a own)))
  start_owners (TicketOf m) own = or_left (m == k) _ (eq-eqb m k (sym (eqb-true k m own)))

  start_unnamed : started ≡ false → (who : Holder) → newly_named (steps_of keeper) (Happened (Start k)) ≡ Some who → is_named who (steps_of keeper) ≡ false
  start_unnamed unstarted who new_one =
      let is : TokenOf k ≡ who = cc in
      let numbered = grant_number k (steps_of keeper) (record { scope = scope; label = label }) says.grant in
      let not_main : (k == 0) ≡ false = ne_eqb k 0 (λ main. absurd (omega arith)) in
      subst (λ (w : Holder). is_named w (steps_of keeper) ≡ false) is (or_from (k == 0) (started_in k (steps_of keeper)) not_main (says.started ∙ unstarted))

  -- who has the ticket of a task that isn't started may start it
  pub may_start : started ≡ false → MayAppend (steps_of keeper) (holder_of (view_of views) ∷ []) (Happened (Start k))
  may_start unstarted =
      record { owners = rw (share_holder views (TicketOf k) ticket.share) start_owners; unnamed = start_unnamed unstarted }

-- a fork says nothing of a task but what it was forked with
fork_says : (k a scope : ℕ) (label : Label) (xs : List RealmStep) → TellsAlike k [] xs → (rejected_in k (xs ++ Happened (Fork a scope label) ∷ []) ≡ false) × (started_in k (xs ++ Happened (Fork a scope label) ∷ []) ≡ false) × (end_in k (xs ++ Happened (Fork a scope label) ∷ []) ≡ None)
unfolding rejected_in started_in end_in
fork_says k a scope label xs alike = (
  list_any-push (is_event (rejects k)) xs (Happened (Fork a scope label)) ∙ ap (λ b. b || false) alike.rejected,
  list_any-push (is_event (starts k)) xs (Happened (Fork a scope label)) ∙ ap (λ b. b || false) alike.started,
  end_in-append k xs (Happened (Fork a scope label) ∷ []) ∙ ap (λ (o : Option EndValue). option_or o (option_or None None)) alike.end,
)

-- a ticket that was just given out
pub new_ticket : (a k scope : ℕ) (label : Label) (keeper : LedgerView) (new : List LedgerView) (said : List RealmStep) → steps_of keeper ≡ said → k ≡ tasks (history_of said) + 1 → is_cancelled (history_of said) scope ≡ false → IsFresh (steps_of keeper) (Happened (Fork a scope label))
    → new ≡ holding (limits_of keeper) (TicketOf (forks (steps_of keeper) + 1)) (steps_of keeper ++ Happened (Fork a scope label) ∷ []) ∷ [] → IsTicket k scope label true false None new
new_ticket a k scope label keeper new said known numbered uncancelled fresh is =
    let steps = steps_of keeper in
    let number = subst (λ xs. k ≡ tasks (history_of xs) + 1) (sym known) numbered in
    let live = subst (λ xs. is_cancelled (history_of xs) scope ≡ false) (sym known) uncancelled in
    let x = Happened (Fork a scope label) in
    let g : Grant = record { scope = scope; label = label } in
    let next : forks steps + 1 ≡ k = omega (arith, tasks_forks steps) in
    let none = subst (λ (n : ℕ). list_any (is_own (TicketOf n)) steps ≡ false) next (fresh (TicketOf (forks steps + 1)) refl) in
    let alike = others_tell k [] steps none in
    let tells = fork_says k a scope label steps alike in
    let e : new ≡ holding (limits_of keeper) (TicketOf k) (steps ++ x ∷ []) ∷ [] = is ∙ ap (λ (n : ℕ). holding (limits_of keeper) (TicketOf n) (steps ++ x ∷ []) ∷ []) next in
    ticket_of k scope label true false None new (steps ++ x ∷ []) (rw e refl) (rw e refl)
    (record {
      grant = grant-fork k steps x g next refl (cond-false (is_cancelled (history_of steps) scope) None (Some g) live);
      rejected = tells.0;
      started = tells.1;
      end = tells.2;
    })

-- a ticket with no end in its list has none
pub unended : (end : Option EndValue) (o : Option EndValue) → end ≡ o → is_some o ≡ false → end ≡ None
unended end None is none = is
unended end (Some how) is none = absurd cc
