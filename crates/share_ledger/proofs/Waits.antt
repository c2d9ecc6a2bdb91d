-- Tasks that wait or run go on so until their own steps, since no retirement passes meanwhile.
use Rattle.std.proofs.Common.{[], ℕ, ◌+◌, ◌<◌, ◌∙◌, ◌∷◌, ◌≡◌, ◌≤◌, Bool, List, None, Ok, Option, Some, ap, arith, cond, false, inl, inr, is_some, not, refl, subst, sym, true}
use Rattle.share_ledger.specs.{Agrees, Asked, Fork, Grant, Happened, History, IsLegal, Legal, LegalFrom, Limits, Never, Passes, RealmStep, Retirement, Running, Stage, Start, TellsAlike, TicketOf, Waiting, advance, advanced, asked}
use Rattle.share_ledger.specs.{finished_in, finishes, fresh, given_in, grant_in, grant_of, granted, history_of, is_cancelled, is_event, is_running, is_settled, is_waiting, list_any, rejected_in, rejects, retire_check, stage}
use Rattle.share_ledger.specs.{started_in, starts, tasks}
use Rattle.share_ledger.proofs.Words.{and_parts, both_ways, cases_Bool, eqb-true, false_from_ne_true, finisher_passed, forked_after, not-true, nothing_runs, or_parts, running_not_waiting, running_stays, running_unsettled}
use Rattle.share_ledger.proofs.Words.{stage_forked, stage_same, stage_started, starter_passed, waiting_forked, waiting_unsettled}
use Rattle.share_ledger.proofs.{Asks.asks_no_finish, Asks.asks_no_start, GrantWalks.granted_number, GrantWalks.to_fork, Histories.legal_advance, Histories.legal_empty, Histories.retired_without_scopes, Told.finished_is}
use Rattle.share_ledger.proofs.{Told.seen_tells}

-- a retirement finds each task settled
retired_settled : (L : Limits) (h : History) (k : ℕ) → Legal L h → retire_check h 0 ≡ Ok tt → is_settled (stage h k) ≡ true
retired_settled L h k legal ok = nothing_runs L h k legal (retired_without_scopes h ok)

-- one step leaves a task waiting, unless it is its reject or its start
waits_step : (L : Limits) (h : History) (k : ℕ) (x : RealmStep) → Legal L h → Passes L h x → is_waiting (stage h k) ≡ true → is_event (rejects k) x ≡ false → is_event (starts k) x ≡ false → is_waiting (stage (advance h x) k) ≡ true
waits_step L h k (Happened e) legal ok waits unrejected unstarted =
    let it = waiting_forked h k waits in
    let unfinished = false_from_ne_true (finishes k e) (λ so. both_ways (is_waiting (stage h k)) (running_not_waiting (stage h k) (finisher_passed L h e k so ok).runs) waits) in
    rw (stage_same L h e k it.forked legal it.is unrejected unstarted unfinished) waits
waits_step L h k (Asked actor q) legal ok waits unrejected unstarted =
    let it = waiting_forked h k waits in
    rw (stage_same L h (asked q) k it.forked legal it.is unrejected unstarted (asks_no_finish k q)) waits
waits_step L h k Retirement legal ok waits unrejected unstarted = absurd (both_ways (is_settled (stage h k)) (waiting_unsettled (stage h k) waits) (retired_settled L h k legal ok))

waits_on : (L : Limits) (h : History) (k : ℕ) (xs : List RealmStep) → Legal L h → LegalFrom L h xs → is_waiting (stage h k) ≡ true → list_any (is_event (rejects k)) xs ≡ false → list_any (is_event (starts k)) xs ≡ false → is_waiting (stage (advanced h xs) k) ≡ true
waits_on L h k [] legal lawful waits unrejected unstarted = waits
waits_on L h k (x ∷ xs) legal lawful waits unrejected unstarted =
    let r = or_parts (is_event (rejects k) x) (list_any (is_event (rejects k)) xs) unrejected in
    let s = or_parts (is_event (starts k) x) (list_any (is_event (starts k)) xs) unstarted in
    waits_on L (advance h x) k xs (legal_advance L h x legal lawful.0) lawful.1 (waits_step L h k x legal lawful.0 waits r.0 s.0) r.1 s.1

-- one step leaves a task running, unless it is its end
runs_step : (L : Limits) (h : History) (k : ℕ) (x : RealmStep) → Legal L h → Passes L h x → is_running (stage h k) ≡ true → is_event (finishes k) x ≡ false → is_running (stage (advance h x) k) ≡ true
runs_step L h k (Happened e) legal ok runs unfinished = running_stays L h e k legal ok runs unfinished
runs_step L h k (Asked actor q) legal ok runs unfinished = running_stays L h (asked q) k legal ok runs unfinished
runs_step L h k Retirement legal ok runs unfinished = absurd (both_ways (is_settled (stage h k)) (running_unsettled (stage h k) runs) (retired_settled L h k legal ok))

runs_on : (L : Limits) (h : History) (k : ℕ) (xs : List RealmStep) → Legal L h → LegalFrom L h xs → is_running (stage h k) ≡ true → list_any (is_event (finishes k)) xs ≡ false → is_running (stage (advanced h xs) k) ≡ true
runs_on L h k [] legal lawful runs unfinished = runs
runs_on L h k (x ∷ xs) legal lawful runs unfinished =
    let f = or_parts (is_event (finishes k) x) (list_any (is_event (finishes k)) xs) unfinished in
    runs_on L (advance h x) k xs (legal_advance L h x legal lawful.0) lawful.1 (runs_step L h k x legal lawful.0 runs f.0) f.1

running_where : (x : Stage) → x ≡ Running → is_running x ≡ true
running_where x is = rw is refl

-- a start that is accepted leaves the task running
start_step : (L : Limits) (h : History) (k : ℕ) (x : RealmStep) → Legal L h → Passes L h x → is_event (starts k) x ≡ true → is_running (stage (advance h x) k) ≡ true
start_step L h k (Happened (Start task)) legal ok so =
    let P : ℕ → Type 0 = λ n. is_running (stage (advance h (Happened (Start task))) n) ≡ true in
    subst P (eqb-true task k so) (running_where _ (stage_started L h task legal ok))
start_step L h k (Asked actor q) legal ok so = absurd (both_ways (starts k (asked q)) (asks_no_start k q) so)
start_step L h k _ legal ok so = absurd cc

-- a task that waits and is started runs until its end
starts_on : (L : Limits) (h : History) (k : ℕ) (xs : List RealmStep) → Legal L h → LegalFrom L h xs → is_waiting (stage h k) ≡ true → list_any (is_event (rejects k)) xs ≡ false → list_any (is_event (starts k)) xs ≡ true → list_any (is_event (finishes k)) xs ≡ false → is_running (stage (advanced h xs) k) ≡ true
starts_on L h k [] legal lawful waits unrejected started unfinished = absurd cc
starts_on L h k (x ∷ xs) legal lawful waits unrejected started unfinished =
    let r = or_parts (is_event (rejects k) x) (list_any (is_event (rejects k)) xs) unrejected in
    let f = or_parts (is_event (finishes k) x) (list_any (is_event (finishes k)) xs) unfinished in
    let lawful' = legal_advance L h x legal lawful.0 in
    elim (cases_Bool (is_event (starts k) x)) [
      | inl so ↦ runs_on L (advance h x) k xs lawful' lawful.1 (start_step L h k x legal lawful.0 so) f.1
      | inr not_it ↦
          let rest : list_any (is_event (starts k)) xs ≡ true = rw not_it at started in
          starts_on L (advance h x) k xs lawful' lawful.1 (waits_step L h k x legal lawful.0 waits r.0 not_it) r.1 rest f.1
    ]

waiting_or_never : (b : Bool) (A : Type 0) (a : A) (o : Option A) (g : A) → cond b None (Some a) ≡ Some g → is_waiting (cond b Never Waiting) ≡ true
waiting_or_never true A a o g at = absurd cc
waiting_or_never false A a o g at = refl

-- a fork that gives a thread leaves the new task waiting
fork_step : (L : Limits) (h : History) (x : RealmStep) (g : Grant) → Legal L h → Passes L h x → grant_of h x ≡ Some g → is_waiting (stage (advance h x) (tasks h + 1)) ≡ true
fork_step L h (Happened (Fork a s label)) g legal ok at = rw (stage_forked L h a s label legal ok) (waiting_or_never (is_cancelled h s) Grant (record { scope = s; label = label }) None g at)
fork_step L h _ g legal ok at = absurd cc

-- a task is not started before it is forked
unstarted_before : (L : Limits) (h : History) (k : ℕ) (x : RealmStep) → Passes L h x → tasks h < k → is_event (starts k) x ≡ false
unstarted_before L h k (Happened e) ok before_it =
    false_from_ne_true (starts k e)
    (λ so.
    let it = waiting_forked h k (starter_passed L h e k so ok) in
    let number = forked_after h k it.forked it.is in
    absurd (omega (arith, number.1, number.2)))
unstarted_before L h k (Asked actor q) ok before_it = asks_no_start k q
unstarted_before L h k Retirement ok before_it = refl

-- a task that was given a thread after h waits, if it has no reject and no start
abbrev WaitsFrom : ℕ → Grant → History → ℕ → List RealmStep → Type 0
WaitsFrom k g h n xs = granted h n xs ≡ Some g → list_any (is_event (rejects k)) xs ≡ false → list_any (is_event (starts k)) xs ≡ false → is_waiting (stage (advanced h xs) k) ≡ true

granted_waits : (L : Limits) (h : History) (n k : ℕ) (xs : List RealmStep) (g : Grant) → Legal L h → LegalFrom L h xs → tasks h + n ≡ k → 1 ≤ n → WaitsFrom k g h n xs
granted_waits L h n k xs g =
    to_fork L k (WaitsFrom k g) (λ h n below at unrejected unstarted. absurd cc)
    (λ h x xs n legal ok lawful forks first is at unrejected unstarted.
    let r = or_parts (is_event (rejects k) x) (list_any (is_event (rejects k)) xs) unrejected in
    let s = or_parts (is_event (starts k) x) (list_any (is_event (starts k)) xs) unstarted in
    waits_on L (advance h x) k xs (legal_advance L h x legal ok) lawful (rw first at (fork_step L h x g legal ok (sym is ∙ at))) r.1 s.1)
    (λ h x xs n m legal ok below is rest at unrejected unstarted.
    let r = or_parts (is_event (rejects k) x) (list_any (is_event (rejects k)) xs) unrejected in
    let s = or_parts (is_event (starts k) x) (list_any (is_event (starts k)) xs) unstarted in
    rest (sym is ∙ at) r.1 s.1) h n xs

-- a task that was given a thread after h, and was started, runs, where it has no reject and no end
abbrev RunsFrom : ℕ → Grant → History → ℕ → List RealmStep → Type 0
RunsFrom k g h n xs = granted h n xs ≡ Some g → list_any (is_event (rejects k)) xs ≡ false → list_any (is_event (starts k)) xs ≡ true → list_any (is_event (finishes k)) xs ≡ false → is_running (stage (advanced h xs) k) ≡ true

granted_runs : (L : Limits) (h : History) (n k : ℕ) (xs : List RealmStep) (g : Grant) → Legal L h → LegalFrom L h xs → tasks h + n ≡ k → 1 ≤ n → RunsFrom k g h n xs
granted_runs L h n k xs g =
    to_fork L k (RunsFrom k g) (λ h n below at unrejected started unfinished. absurd cc)
    (λ h x xs n legal ok lawful forks first is at unrejected started unfinished.
    let waits = rw first at (fork_step L h x g legal ok (sym is ∙ at)) in
    let rest = later h x xs legal ok (omega (arith, first)) unrejected started unfinished in
    starts_on L (advance h x) k xs (legal_advance L h x legal ok) lawful waits rest.0 rest.1 rest.2)
    (λ h x xs n m legal ok below is rest at unrejected started unfinished.
    let later' = later h x xs legal ok below unrejected started unfinished in
    rest (sym is ∙ at) later'.0 later'.1 later'.2) h n xs
  where
    -- what is said of all steps is said of those after the first
    later : (h : History) (x : RealmStep) (xs : List RealmStep) → Legal L h → Passes L h x → tasks h < k → list_any (is_event (rejects k)) (x ∷ xs) ≡ false → list_any (is_event (starts k)) (x ∷ xs) ≡ true → list_any (is_event (finishes k)) (x ∷ xs) ≡ false
        → (list_any (is_event (rejects k)) xs ≡ false) × (list_any (is_event (starts k)) xs ≡ true) × (list_any (is_event (finishes k)) xs ≡ false)
    later h x xs legal ok below unrejected started unfinished =
        let r = or_parts (is_event (rejects k) x) (list_any (is_event (rejects k)) xs) unrejected in
        let f = or_parts (is_event (finishes k) x) (list_any (is_event (finishes k)) xs) unfinished in
        let here : is_event (starts k) x ≡ false = unstarted_before L h k x ok below in
        (r.1, rw here at started, f.1)

waiting_is : (x : Stage) → is_waiting x ≡ true → x ≡ Waiting
waiting_is Waiting so = refl
waiting_is _ so = absurd cc

running_is : (x : Stage) → is_running x ≡ true → x ≡ Running
running_is Running so = refl
running_is _ so = absurd cc

some_grant : (o : Option Grant) → is_some o ≡ true → (g : Grant) × (o ≡ Some g)
some_grant None so = absurd cc
some_grant (Some g) so = (g, refl)

-- a task that was given a thread and isn't started waits
pub given_waits : (L : Limits) (xs : List RealmStep) (k : ℕ) → IsLegal L xs → given_in k xs ≡ true → started_in k xs ≡ false → stage (history_of xs) k ≡ Waiting
unfolding history_of IsLegal grant_in rejected_in started_in
given_waits L xs k lawful given unstarted =
    let parts = and_parts (is_some (grant_in k xs)) (not (rejected_in k xs)) given in
    let it = some_grant (grant_in k xs) parts.0 in
    waiting_is _ (granted_waits L fresh k k xs it.0 (legal_empty L fresh.base) lawful (omega arith) (granted_number fresh k xs it.0 it.1) it.1 (not-true (rejected_in k xs) parts.1) unstarted)

-- a task that was given a thread, and is started and not finished, runs
pub started_runs : (L : Limits) (xs : List RealmStep) (k : ℕ) → IsLegal L xs → given_in k xs ≡ true → started_in k xs ≡ true → finished_in k xs ≡ false → stage (history_of xs) k ≡ Running
unfolding history_of IsLegal grant_in rejected_in started_in
started_runs L xs k lawful given started unfinished =
    let parts = and_parts (is_some (grant_in k xs)) (not (rejected_in k xs)) given in
    let it = some_grant (grant_in k xs) parts.0 in
    running_is _ (granted_runs L fresh k k xs it.0 (legal_empty L fresh.base) lawful (omega arith) (granted_number fresh k xs it.0 it.1) it.1 (not-true (rejected_in k xs) parts.1) started (sym (finished_is k xs) ∙ unfinished))

-- tasks are numbered from 1
pub grant_number : (k : ℕ) (xs : List RealmStep) (g : Grant) → grant_in k xs ≡ Some g → 1 ≤ k
unfolding grant_in
grant_number k xs g at = granted_number fresh k xs g at

given_still : (k : ℕ) (seen whole : List RealmStep) → TellsAlike k seen whole → given_in k seen ≡ true → given_in k whole ≡ true
given_still k seen whole alike given =
    let parts = and_parts (is_some (grant_in k seen)) (not (rejected_in k seen)) given in
    let it = some_grant (grant_in k seen) parts.0 in
    rw (alike.grant it.0 it.1, alike.rejected) parts.1

-- a given ticket that isn't started waits, on the whole list
pub given_ticket_waits : (L : Limits) (k : ℕ) (seen whole : List RealmStep) → IsLegal L whole → Agrees (TicketOf k) seen whole → given_in k seen ≡ true → started_in k seen ≡ false → stage (history_of whole) k ≡ Waiting
given_ticket_waits L k seen whole lawful agrees given unstarted =
    let alike = seen_tells k seen whole agrees in
    given_waits L whole k lawful (given_still k seen whole alike given) (alike.started ∙ unstarted)

-- a started ticket that isn't finished runs, on the whole list
pub started_ticket_runs : (L : Limits) (k : ℕ) (seen whole : List RealmStep) → IsLegal L whole → Agrees (TicketOf k) seen whole → given_in k seen ≡ true → started_in k seen ≡ true → finished_in k seen ≡ false → stage (history_of whole) k ≡ Running
started_ticket_runs L k seen whole lawful agrees given started unfinished =
    let alike = seen_tells k seen whole agrees in
    started_runs L whole k lawful (given_still k seen whole alike given) (alike.started ∙ started) (ap is_some alike.end ∙ unfinished)
