-- The list is known step by step.
use Rattle.std.proofs.Common.{◌≡◌, ◌+◌, ℕ, false, List, [], ◌∷◌, ◌++◌, refl, sym, ap, subst}
use Rattle.scope_rules.specs.declared.types.values.Label.{Label}
use Rattle.scope_rules.specs.declared.types.events.Event.TheVariants.{Fork, Start}
use Rattle.scope_rules.specs.History.{tasks, opening}
use Rattle.scope_rules.specs.Scopes.{outer}
use Rattle.scope_rules.specs.Search.{earliest}
use Rattle.scope_rules.specs.Chains.{chain_by, first_cancel_by}
use Rattle.scope_rules.specs.Cancels.{is_cancelled, first_cancel, own, own_at}
use Rattle.share_ledger.specs.declared.steps.RealmStep.{RealmStep}
use Rattle.share_ledger.specs.declared.steps.RealmStep.TheVariants.{Happened}
use Rattle.share_ledger.specs.Steps.{history_of}
use Rattle.share_ledger.specs.Tickets.{finished_in, end_in}
use Rattle.share_ledger.specs.Values.{KeeperValue, TicketValue}
use Rattle.part_tests.proofs.Fresh.{first_is_next, first_is_live}
use Rattle.part_tests.proofs.parts.shares.two_ended.Goals as goal

pub fork-one-requires-clause-number : goal.fork-one-requires-clause-number
fork-one-requires-clause-number c = first_is_next _ c.requires.fresh

pub fork-one-requires-clause-live : goal.fork-one-requires-clause-live
fork-one-requires-clause-live c = first_is_live _ c.requires.fresh

one_fork : (a s : ℕ) (label : Label) (xs ys : List RealmStep) → xs ≡ [] → ys ≡ xs ++ Happened (Fork a s label) ∷ [] → 2 ≡ tasks (history_of ys) + 1
unfolding history_of
one_fork a s label xs ys none is = rw (is, none) refl

still_live : (a s : ℕ) (label : Label) (xs ys : List RealmStep) → xs ≡ [] → ys ≡ xs ++ Happened (Fork a s label) ∷ [] → is_cancelled (history_of ys) 1 ≡ false
unfolding history_of is_cancelled first_cancel first_cancel_by chain_by own earliest own_at opening outer
still_live a s label xs ys none is =
    subst (λ (zs : List RealmStep). is_cancelled (history_of zs) 1 ≡ false) (sym is)
    (subst (λ (zs : List RealmStep). is_cancelled (history_of (zs ++ Happened (Fork a s label) ∷ [])) 1 ≡ false) (sym none) refl)

pub fork-two-requires-clause-number : goal.fork-two-requires-clause-number
fork-two-requires-clause-number c = one_fork _ _ _ _ _ c.requires.fresh (ap (λ (k : KeeperValue). k.steps) c.fork-one.ensures.keeper)

pub fork-two-requires-clause-live : goal.fork-two-requires-clause-live
fork-two-requires-clause-live c = still_live _ _ _ _ _ c.requires.fresh (ap (λ (k : KeeperValue). k.steps) c.fork-one.ensures.keeper)

-- the lists, from the first on
second_unended : (a b s t m n : ℕ) (label other : Label) (ws xs ys zs us : List RealmStep) → ws ≡ [] → xs ≡ ws ++ Happened (Fork a s label) ∷ [] → ys ≡ xs ++ Happened (Fork b t other) ∷ [] → zs ≡ ys ++ Happened (Start m) ∷ [] → us ≡ zs ++ Happened (Start n) ∷ [] → finished_in 2 us ≡ false
unfolding end_in
second_unended a b s t m n label other ws xs ys zs us none one two three four = rw (four, three, two, one, none) refl

first_unended : (a b s t m : ℕ) (label other : Label) (ws xs ys zs : List RealmStep) → ws ≡ [] → xs ≡ ws ++ Happened (Fork a s label) ∷ [] → ys ≡ xs ++ Happened (Fork b t other) ∷ [] → zs ≡ ys ++ Happened (Start m) ∷ [] → finished_in 1 zs ≡ false
unfolding end_in
first_unended a b s t m label other ws xs ys zs none one two three = rw (three, two, one, none) refl

pub finish-requires-clause-unfinished : goal.finish-requires-clause-unfinished
finish-requires-clause-unfinished c =
    let steps : KeeperValue → List RealmStep = λ k. k.steps in
    subst (λ (t : TicketValue). finished_in t.task t.seen ≡ false) (sym c.start-second.ensures.ticket)
    (subst (λ (t : TicketValue). finished_in t.task c.start-second.new.self.steps ≡ false) (sym c.fork-two.ensures.ticket)
    (second_unended _ _ _ _ _ _ _ _ _ _ _ _ _ c.requires.fresh (ap steps c.fork-one.ensures.keeper) (ap steps c.fork-two.ensures.keeper) (ap steps c.start-first.ensures.keeper) (ap steps c.start-second.ensures.keeper)))

pub finish-requires-2-clause-unfinished : goal.finish-requires-2-clause-unfinished
finish-requires-2-clause-unfinished c =
    let steps : KeeperValue → List RealmStep = λ k. k.steps in
    subst (λ (t : TicketValue). finished_in t.task t.seen ≡ false) (sym c.start-first.ensures.ticket)
    (subst (λ (t : TicketValue). finished_in t.task c.start-first.new.self.steps ≡ false) (sym c.fork-one.ensures.ticket)
    (first_unended _ _ _ _ _ _ _ _ _ _ _ c.requires.fresh (ap steps c.fork-one.ensures.keeper) (ap steps c.fork-two.ensures.keeper) (ap steps c.start-first.ensures.keeper)))
