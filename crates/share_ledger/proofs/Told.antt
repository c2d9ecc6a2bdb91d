-- What a ticket's own steps say in a beginning of the list is what they say in the whole.
use Rattle.std.proofs.Common.{[], ℕ, ◌++◌, ◌+◌, ◌-◌, ◌==◌, ◌||◌, ◌∙◌, ◌∷◌, ◌≡◌, Bool, List, None, Option, Some, ap, arith, cond, false, inl, inr, is_some, refl, sym, true}
use Rattle.share_ledger.specs.{Agrees, Asked, EndValue, Finish, Grant, Happened, History, RealmStep, Reject, Start, TellsAlike, TicketOf, advance, advanced, asked, end_in, end_of, finished_in, finishes, forks, fresh, grant_in}
use Rattle.share_ledger.specs.{grant_of, granted, history_of, is_event, is_fork, is_own, list_any, option_or, rejected_in, rejects, started_in, starts}
use Rattle.share_ledger.proofs.Words.{both_ways, cases_Bool, count_by-cons, eq-eqb, list_any-append, ne_eqb, option_or-assoc, option_or-none, or-false}
use Rattle.share_ledger.proofs.{Asks.asks_no_finish, Asks.asks_no_reject, Asks.asks_no_start, Lists.none_narrower}

finish_found : (b : Bool) (end : EndValue) (o : Option EndValue) → is_some (option_or (cond b (Some end) None) o) ≡ (b || is_some o)
finish_found true end o = refl
finish_found false end o = refl

finished_first : (k : ℕ) (x : RealmStep) (o : Option EndValue) → is_some (option_or (end_of k x) o) ≡ (is_event (finishes k) x || is_some o)
finished_first k (Happened (Finish task end)) o = finish_found (task == k) end o
finished_first k (Asked actor q) o = rw (asks_no_finish k q) refl
finished_first k _ o = refl

-- a task has an end where its end stands in the list
pub finished_is : (k : ℕ) (xs : List RealmStep) → finished_in k xs ≡ list_any (is_event (finishes k)) xs
unfolding end_in
finished_is k [] = refl
finished_is k (x ∷ xs) = finished_first k x (end_in k xs) ∙ ap (λ b. is_event (finishes k) x || b) (finished_is k xs)

pub end_in-append : (k : ℕ) (xs ys : List RealmStep) → end_in k (xs ++ ys) ≡ option_or (end_in k xs) (end_in k ys)
unfolding end_in
end_in-append k [] ys = refl
end_in-append k (x ∷ xs) ys = ap (option_or (end_of k x)) (end_in-append k xs ys) ∙ sym (option_or-assoc (end_of k x) (end_in k xs) (end_in k ys))

-- what a fork gave stays
pub granted-append : (h : History) (n : ℕ) (xs ys : List RealmStep) (g : Grant) → granted h n xs ≡ Some g → granted h n (xs ++ ys) ≡ Some g
granted-append h n [] ys g at = absurd cc
granted-append h n (x ∷ xs) ys g at =
    elim (cases_Bool (is_event is_fork x)) [
      | inl forks ↦
          elim (cases_Bool (n == 1)) [
            | inl one ↦ rw (forks, one) (rw (forks, one) at at)
            | inr more ↦ rw (forks, more) (granted-append (advance h x) (n - 1) xs ys g (rw (forks, more) at at))
          ]
      | inr other ↦ rw other (granted-append (advance h x) n xs ys g (rw other at at))
    ]

pub grant-append : (k : ℕ) (xs ys : List RealmStep) (g : Grant) → grant_in k xs ≡ Some g → grant_in k (xs ++ ys) ≡ Some g
unfolding grant_in
grant-append k xs ys g at = granted-append fresh k xs ys g at

reject_own : (k : ℕ) (x : RealmStep) → is_event (rejects k) x ≡ true → is_own (TicketOf k) x ≡ true
reject_own k (Happened (Reject task)) so = so
reject_own k (Asked actor q) so = absurd (both_ways (rejects k (asked q)) (asks_no_reject k q) so)
reject_own k _ so = absurd cc

start_own : (k : ℕ) (x : RealmStep) → is_event (starts k) x ≡ true → is_own (TicketOf k) x ≡ true
start_own k (Happened (Start task)) so = so
start_own k (Asked actor q) so = absurd (both_ways (starts k (asked q)) (asks_no_start k q) so)
start_own k _ so = absurd cc

finish_own : (k : ℕ) (x : RealmStep) → is_event (finishes k) x ≡ true → is_own (TicketOf k) x ≡ true
finish_own k (Happened (Finish task end)) so = so
finish_own k (Asked actor q) so = absurd (both_ways (finishes k (asked q)) (asks_no_finish k q) so)
finish_own k _ so = absurd cc

none_later : {A : Type 0} (p : A → Bool) (xs ys : List A) → list_any p ys ≡ false → list_any p (xs ++ ys) ≡ list_any p xs
none_later p xs ys none = list_any-append p xs ys ∙ (ap (λ b. list_any p xs || b) none ∙ or-false (list_any p xs))

no_end : (o : Option EndValue) → is_some o ≡ false → o ≡ None
no_end None is = refl
no_end (Some end) is = absurd cc

-- steps of others change nothing of what a ticket says
pub others_tell : (k : ℕ) (xs ys : List RealmStep) → list_any (is_own (TicketOf k)) ys ≡ false → TellsAlike k xs (xs ++ ys)
unfolding rejected_in started_in
others_tell k xs ys others = record {
  grant = λ g at. grant-append k xs ys g at;
  rejected = none_later (is_event (rejects k)) xs ys (none_narrower (is_event (rejects k)) (is_own (TicketOf k)) ys (reject_own k) others);
  started = none_later (is_event (starts k)) xs ys (none_narrower (is_event (starts k)) (is_own (TicketOf k)) ys (start_own k) others);
  end = end_in-append k xs ys ∙ (ap (option_or (end_in k xs)) (no_end (end_in k ys) (finished_is k ys ∙ none_narrower (is_event (finishes k)) (is_own (TicketOf k)) ys (finish_own k) others)) ∙ option_or-none (end_in k xs));
}

-- what a ticket has seen of its task is what the whole list says of it
pub seen_tells : (k : ℕ) (seen whole : List RealmStep) → Agrees (TicketOf k) seen whole → TellsAlike k seen whole
seen_tells k seen whole agrees = rw agrees.is (others_tell k seen agrees.later agrees.others)

-- what the next fork gives
granted-fork : (h : History) (n : ℕ) (xs : List RealmStep) (x : RealmStep) (g : Grant) → forks xs + 1 ≡ n → is_event is_fork x ≡ true → grant_of (advanced h xs) x ≡ Some g → granted h n (xs ++ x ∷ []) ≡ Some g
granted-fork h n [] x g number forked at =
    let one : (n == 1) ≡ true = eq-eqb n 1 (omega arith) in
    rw (forked, one) at
granted-fork h n (y ∷ xs) x g number forked at =
    let counted = count_by-cons (is_event is_fork) y xs in
    elim (cases_Bool (is_event is_fork y)) [
      | inl so ↦
          let count : forks (y ∷ xs) ≡ 1 + forks xs = counted ∙ ap (λ b. cond b 1 0 + forks xs) so in
          let more : (n == 1) ≡ false = ne_eqb n 1 (λ one. absurd (omega arith)) in
          rw (so, more) (granted-fork (advance h y) (n - 1) xs x g (omega arith) forked at)
      | inr other ↦
          let count : forks (y ∷ xs) ≡ 0 + forks xs = counted ∙ ap (λ b. cond b 1 0 + forks xs) other in
          rw other (granted-fork (advance h y) n xs x g (omega arith) forked at)
    ]

-- what the next fork gives, by its number
pub grant-fork : (k : ℕ) (xs : List RealmStep) (x : RealmStep) (g : Grant) → forks xs + 1 ≡ k → is_event is_fork x ≡ true → grant_of (history_of xs) x ≡ Some g → grant_in k (xs ++ x ∷ []) ≡ Some g
unfolding grant_in history_of
grant-fork k xs x g number forked at = granted-fork fresh k xs x g number forked at
