-- How a history goes on by steps.
use Rattle.std.proofs.Common.{[], ◌++◌, ◌+◌, ◌∷◌, ◌≡◌, ◌≤◌, List, None, Ok, Option, arith, cond, false, is_some, refl}
use Rattle.share_ledger.specs.{Adds, Agrees, Asked, GoesOn, Happened, History, Holder, IsLegal, Legal, LegalFrom, Limits, Origin, Passes, RealmStep, Retirement, advance, advanced, asked, base_of, forks, fresh, history_of}
use Rattle.share_ledger.specs.{innermost, is_event, is_fork, retire_check, tasks}
use Rattle.share_ledger.proofs.Words.{checks_at, count_by-cons, count_push, legal_push, not_refused}

pub advanced-append : (h : History) (xs ys : List RealmStep) → advanced h (xs ++ ys) ≡ advanced (advanced h xs) ys
advanced-append h [] ys = refl
advanced-append h (x ∷ xs) ys = advanced-append (advance h x) xs ys

-- the history of one step more
pub history-push : (xs : List RealmStep) (x : RealmStep) → history_of (xs ++ x ∷ []) ≡ advance (history_of xs) x
unfolding history_of
history-push xs x = advanced-append fresh xs (x ∷ [])

pub legal_beginning : (L : Limits) (h : History) (xs ys : List RealmStep) → LegalFrom L h (xs ++ ys) → LegalFrom L h xs
legal_beginning L h [] ys lawful = tt
legal_beginning L h (x ∷ xs) ys lawful = (lawful.0, legal_beginning L (advance h x) xs ys lawful.1)

pub legal_more : (L : Limits) (h : History) (xs : List RealmStep) (x : RealmStep) → LegalFrom L h xs → Passes L (advanced h xs) x → LegalFrom L h (xs ++ x ∷ [])
legal_more L h [] x lawful ok = (ok, tt)
legal_more L h (y ∷ xs) x lawful ok = (lawful.0, legal_more L (advance h y) xs x lawful.1 ok)

-- a history with no event is legal
pub legal_empty : (L : Limits) (b : Origin) → Legal L (record { base = b; events = [] })
unfolding Legal
legal_empty L b = λ i e at. absurd cc

pub legal_advance : (L : Limits) (h : History) (x : RealmStep) → Legal L h → Passes L h x → Legal L (advance h x)
legal_advance L h (Happened e) legal ok = legal_push L h e legal ok
legal_advance L h (Asked actor q) legal ok = legal_push L h (asked q) legal ok
legal_advance L h Retirement legal ok = legal_empty L (base_of h)

pub legal_advanced : (L : Limits) (h : History) (xs : List RealmStep) → Legal L h → LegalFrom L h xs → Legal L (advanced h xs)
legal_advanced L h [] legal lawful = legal
legal_advanced L h (x ∷ xs) legal lawful = legal_advanced L (advance h x) xs (legal_advance L h x legal lawful.0) lawful.1

-- the history of a legal list is legal
pub legal_history : (L : Limits) (xs : List RealmStep) → IsLegal L xs → Legal L (history_of xs)
unfolding history_of IsLegal
legal_history L xs lawful = legal_advanced L fresh xs (legal_empty L fresh.base) lawful

-- a beginning of a legal list is legal
pub beginning_legal : (L : Limits) (xs ys : List RealmStep) → IsLegal L (xs ++ ys) → IsLegal L xs
unfolding IsLegal
beginning_legal L xs ys lawful = legal_beginning L fresh xs ys lawful

-- a legal list goes on by a step that its history accepts
pub goes_on : (L : Limits) (xs : List RealmStep) (x : RealmStep) → IsLegal L xs → Passes L (history_of xs) x → GoesOn L xs x
unfolding history_of IsLegal
goes_on L xs x lawful ok = record { legal = legal_more L fresh xs x lawful ok; history = advanced-append fresh xs (x ∷ []) }

-- each fork gives a number, and nothing takes one back
pub tasks_advance : (h : History) (x : RealmStep) → tasks (advance h x) ≡ tasks h + cond (is_event is_fork x) 1 0
unfolding base_of
tasks_advance h (Happened e) = omega (arith, count_push is_fork h.events e)
tasks_advance h (Asked actor q) = omega (arith, count_push is_fork h.events (asked q))
tasks_advance h Retirement = omega arith

pub tasks_advanced : (h : History) (xs : List RealmStep) → tasks (advanced h xs) ≡ tasks h + forks xs
tasks_advanced h [] = omega arith
tasks_advanced h (x ∷ xs) = omega (arith, tasks_advanced (advance h x) xs, tasks_advance h x, count_by-cons (is_event is_fork) x xs)

-- the tasks that were numbered so far are the forks of the list
pub tasks_forks : (xs : List RealmStep) → tasks (history_of xs) ≡ forks xs
unfolding history_of
tasks_forks xs = omega (arith, tasks_advanced fresh xs)

base_advance : (h : History) (x : RealmStep) → h.base.tasks ≤ (advance h x).base.tasks
unfolding base_of
base_advance h (Happened e) = omega arith
base_advance h (Asked actor q) = omega arith
base_advance h Retirement = omega arith

-- the numbers before the base never fall
pub base_advanced : (h : History) (xs : List RealmStep) → h.base.tasks ≤ (advanced h xs).base.tasks
base_advanced h [] = omega arith
base_advanced h (x ∷ xs) = omega (arith, base_advance h x, base_advanced (advance h x) xs)

nothing_there : {A : Type 0} (o : Option A) → is_some o ≡ false → o ≡ None
nothing_there None is = refl
nothing_there _ is = absurd cc

-- main retires if it has no scope that isn't closed
pub retired_without_scopes : (h : History) → retire_check h 0 ≡ Ok tt → innermost h 0 ≡ None
unfolding retire_check
retired_without_scopes h ok = nothing_there (innermost h 0) (not_refused _ _ (checks_at _ 2 _ ok refl))

-- a step that is accepted on a list with which the holder agrees makes a call that adds it
pub adds : (who : Holder) (L : Limits) (seen whole : List RealmStep) (x : RealmStep) → Agrees who seen whole → IsLegal L whole → Passes L (history_of whole) x → Adds who L seen x (whole ++ x ∷ [])
adds who L seen whole x agrees lawful ok = record { there = whole; agrees = agrees; is = refl; accepted = ok; legal = (goes_on L whole x lawful ok).legal }
