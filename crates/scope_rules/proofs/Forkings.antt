-- Where tasks were forked, and what the row of their forking wanted.
use Rattle.std.proofs.Common.{ℕ, ◌+◌, ◌<◌, ◌==◌, ◌≡◌, None, Option, Some, arith, false, refl, subst, sym, true}
use Rattle.scope_rules.specs.{Forking, History.History, Legal.Legal, Limits, Opening, before, forked_count, forking, forking_of, is_fork, is_open, is_task_of, opening, opening_of, option_map_or}
use Rattle.scope_rules.proofs.Words.{eqb-true}
use Rattle.scope_rules.proofs.{Growing.forking_place, Growing.numbered_entry, Growing.opening_place, OneEventMore.opening_later, Openings.forks_it, Openings.numbered_within, PassedRows.ForkRow, PassedRows.IsActor}
use Rattle.scope_rules.proofs.{PassedRows.IsOwner, PassedRows.forker_passed, PassedRows.opener_passed}

-- a task with this number was forked
pub record IsForked (h : History) (k : ℕ) : Type 0 where
  pub forked : Forking
  pub is : forking h k ≡ Some forked

-- a task that was forked has one of the numbers that were given
pub forked_after : (h : History) (k : ℕ) (f : Forking) → forking h k ≡ Some f → (n : ℕ) × (n < forked_count h) × (h.base.tasks + 1 + n ≡ k)
unfolding forking
forked_after h k f is =
    let it = numbered_within is_fork forking_of h.base.tasks h.events k forks_it f is in
    (it.0, it.1, omega (arith, it.2))

-- main was never forked
pub main_unforked : (h : History) (a : ℕ) (f : Forking) → a ≡ 0 → forking h a ≡ Some f → ⊥
main_unforked h a f main is = let it = forked_after h a f is in absurd (omega (arith, it.2, main))

-- at a scope's opening its opener is main or runs
pub opening_row : (L : Limits) (h : History) (s : ℕ) (o : Opening) → Legal L h → opening h s ≡ Some o → IsActor (before h o.place) o.actor
unfolding opening Legal
opening_row L h s o legal is =
    let it = numbered_entry is_open opening_of h.base.scopes s h.events o is in
    let passed = (opener_passed L (before h it.0) it.0 it.1 o it.3 (legal it.0 it.1 it.2)).0 in
    subst (λ (n : ℕ). IsActor (before h n) o.actor) (sym (opening_place it.0 it.1 o it.3)) passed

-- at a task's forking its forker is main or runs, and owns the scope, which isn't closing
pub forking_row : (L : Limits) (h : History) (k : ℕ) (f : Forking) → Legal L h → forking h k ≡ Some f → ForkRow (before h f.place) f.actor f.scope
unfolding forking Legal
forking_row L h k f legal is =
    let it = numbered_entry is_fork forking_of h.base.tasks k h.events f is in
    let passed = (forker_passed L (before h it.0) it.0 it.1 f it.3 (legal it.0 it.1 it.2)).0 in
    subst (λ (n : ℕ). ForkRow (before h n) f.actor f.scope) (sym (forking_place it.0 it.1 f it.3)) passed

-- the forker of a task opened its scope
pub forker_owns : (L : Limits) (h : History) (k : ℕ) (f : Forking) → Legal L h → forking h k ≡ Some f → IsOwner h f.actor f.scope
forker_owns L h k f legal is =
    let owner = (forking_row L h k f legal is).owner in
    record { opened = owner.opened; is = opening_later h f.place f.scope owner.opened owner.is; by = owner.by }

-- a task that is one of a scope was forked in it
pub record IsTask (h : History) (s k : ℕ) : Type 0 where
  pub forked : Forking
  pub is : forking h k ≡ Some forked
  pub of : forked.scope ≡ s

task_by : (h : History) (s k : ℕ) (o : Option Forking) → forking h k ≡ o → option_map_or (λ (f : Forking). f.scope == s) o false ≡ true → IsTask h s k
task_by h s k None is so = absurd cc
task_by h s k (Some f) is so = record { forked = f; is = is; of = eqb-true f.scope s so }

pub task_there : (h : History) (s k : ℕ) → is_task_of h s k ≡ true → IsTask h s k
unfolding is_task_of
task_there h s k so = task_by h s k (forking h k) refl so
