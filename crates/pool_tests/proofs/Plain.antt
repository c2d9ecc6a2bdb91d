-- A realm in which no scope was opened stays so, and none of its scopes is cancelled.
use Rattle.std.proofs.Common.{◌≡◌, ℕ, ◌+◌, false, cond, None, Some, is_some, List, [], ◌∷◌, ◌++◌, length, refl, ap, ◌∙◌, arith}
use Rattle.std.specs.Option.{option_or}
use Rattle.scope_rules.specs.declared.types.events.Event.{Event}
use Rattle.scope_rules.specs.History.{History, before, opening, opening_of, opened_count, tasks, is_open, is_fork}
use Rattle.scope_rules.specs.Scopes.{outer}
use Rattle.scope_rules.specs.Chains.{first_cancel_by, chain_by, earliest_on}
use Rattle.scope_rules.specs.Cancels.{is_cancelled, first_cancel, own, own_at, own_cancel}
use Rattle.scope_rules.proofs.Openings.{numbered_within, opens_it}
use Rattle.scope_rules.proofs.Owing.{count_push}
use Rattle.scope_rules.proofs.Prefixes.{count_by-take-le, option_or-none}
use Rattle.scope_rules.proofs.Searching.{earliest_where}
use Rattle.atomic_table.specs.Seated.{TableId}
use Rattle.share_ledger.specs.declared.steps.RealmStep.{RealmStep}
use Rattle.share_ledger.specs.declared.steps.RealmStep.TheVariants.{Happened}
use Rattle.share_ledger.specs.Steps.{history_of}
use Rattle.share_ledger.specs.Tickets.{end_in, finished_in}
use Rattle.share_ledger.proofs.Histories.{history-push}
use Rattle.share_ledger.proofs.Told.{seen_tells, end_in-append}
use Rattle.share_ledger.specs.Values.{KeeperValue, OwnerValue, TicketValue, TicketAgrees}
use Rattle.pool_tests.specs.Tickets.{IsPlain}

unopened : (h : History) (s : ℕ) → opened_count h ≡ 0 → opening h s ≡ None
unfolding opening
unopened h s none =
    elim (opening h s) as (λ o. opening h s ≡ o → o ≡ None) [
      | None ↦ λ is. refl
      | Some o ↦ λ is. let it = numbered_within is_open opening_of h.base.scopes h.events s opens_it o is in absurd (omega (arith, it.1, none))
    ] refl

no_own_at : (h : History) (s i : ℕ) → opened_count h ≡ 0 → own_at h s i ≡ None
unfolding own_at
no_own_at h s i none =
    let fewer = count_by-take-le is_open h.events (i + 1) in
    rw (unopened (before h (i + 1)) s (omega (arith, fewer, none))) refl

no_own : (h : History) (s : ℕ) → opened_count h ≡ 0 → own h s ≡ None
unfolding own
no_own h s none =
    elim (own h s) as (λ o. own h s ≡ o → o ≡ None) [
      | None ↦ λ is. refl
      | Some w ↦ λ is. let it = earliest_where (own_at h s) w (length h.events) is in let no = no_own_at h s it.0 none in let yes = it.2 in absurd cc
    ] refl

none_on : (h : History) (ss : List ℕ) → opened_count h ≡ 0 → earliest_on (own_cancel h) ss ≡ None
none_on h [] none = refl
none_on h (s ∷ ss) none = rw (no_own h s none) (none_on h ss none)

-- where no scope was opened, none is cancelled
pub uncancelled : (h : History) (s : ℕ) → opened_count h ≡ 0 → is_cancelled h s ≡ false
unfolding is_cancelled first_cancel first_cancel_by
uncancelled h s none = rw (none_on h (chain_by (outer h) s) none) refl

-- the realm goes on by an event that opens no scope
pub plain_next : (name : TableId) (old new : KeeperValue) (main other : OwnerValue) (forked next : ℕ) (e : Event) → IsPlain name old main forked → new ≡ record old { steps = old.steps ++ Happened e ∷ [] } → other.table ≡ main.table → is_open e ≡ false → next ≡ forked + cond (is_fork e) 1 0 → IsPlain name new other next
plain_next name old new main other forked next e plain is same shut more =
    let history : history_of new.steps ≡ record { base = (history_of old.steps).base; events = (history_of old.steps).events ++ e ∷ [] } = ap (λ (k : KeeperValue). history_of k.steps) is ∙ history-push old.steps (Happened e) in
    let opened = count_push is_open (history_of old.steps).events e in
    let forks = count_push is_fork (history_of old.steps).events e in
    record {
      kept = ap (λ (k : KeeperValue). k.table) is ∙ plain.kept;
      owned = same ∙ plain.owned;
      counted = ap tasks history ∙ omega (arith, forks, plain.counted, more);
      unopened = ap opened_count history ∙ (opened ∙ rw shut (omega (arith, plain.unopened)));
    }

-- a ticket's task that has not ended goes on without an end
pub unended_next : (ticket : TicketValue) (old : KeeperValue) (x : RealmStep) → TicketAgrees ticket old → finished_in ticket.task ticket.seen ≡ false → end_in ticket.task (x ∷ []) ≡ None → finished_in ticket.task (old.steps ++ x ∷ []) ≡ false
unended_next ticket old x agrees none other =
    let told = (seen_tells ticket.task ticket.seen old.steps agrees.agrees).end in
    let both : end_in ticket.task (old.steps ++ x ∷ []) ≡ end_in ticket.task ticket.seen = end_in-append ticket.task old.steps (x ∷ []) ∙ (ap (option_or (end_in ticket.task old.steps)) other ∙ (option_or-none (end_in ticket.task old.steps) ∙ told)) in
    ap is_some both ∙ none
