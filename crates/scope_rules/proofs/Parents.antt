-- In a legal history a scope's parent has a smaller number.
use Rattle.std.proofs.Common.{ℕ, ◌&&◌, ◌+◌, ◌<◌, ◌==◌, ◌∙◌, ◌≡◌, ◌≤◌, None, Option, Some, arith, cond, not, option_map, refl}
use Rattle.scope_rules.specs.{Forking, History.History, History.scopes, Legal.Legal, Limits, Opening, around, before, closed, forked_in, forking, innermost, opened_count, opening, option_or, parent, surrounding, unclosed_of}
use Rattle.scope_rules.proofs.Words.{same_Some}
use Rattle.scope_rules.proofs.{BindingRows.fork_opened, Earlier.opening_since, Earlier.scope_given, Growing.opening_number, Inherited.fork_was_accepted, Nesting.legal_before, Openings.and_then_some, Openings.if_some}
use Rattle.scope_rules.proofs.{Searching.latest_where}

-- an actor's innermost scope has a number of those given
pub innermost_given : (h : History) (a p : ℕ) → innermost h a ≡ Some p → (0 < p) × (p ≤ scopes h)
unfolding innermost
innermost_given h a p found =
    let there = latest_where (unclosed_of h a) p (opened_count h) found in
    let s = h.base.scopes + 1 + there.0 in
    let entry = and_then_some (λ (o : Opening). cond ((o.actor == a) && not (closed h s)) (Some s) None) (opening h s) p there.2 in
    let test = if_some ((entry.0.actor == a) && not (closed h s)) (Some s) p entry.2 in
    let same : s ≡ p = same_Some s p test.1 in
    (omega (arith, same), omega (arith, same, there.1))

forked_given : (L : Limits) (h : History) (a p : ℕ) (o : Option Forking) → Legal L h → forking h a ≡ o → option_map (λ (f : Forking). f.scope) o ≡ Some p → (0 < p) × (p ≤ scopes h)
forked_given L h a p None legal is found = absurd cc
forked_given L h a p (Some f) legal is found =
    let it = fork_opened L (before h f.place) f (fork_was_accepted L h a f legal is) in
    let given = scope_given h f.scope it.opened (opening_since h f.scope f.place it.opened it.is) in
    let same : f.scope ≡ p = same_Some f.scope p found in
    (omega (arith, given.0, same), omega (arith, given.1, same))

surrounding_by : (L : Limits) (h : History) (a p : ℕ) (o : Option ℕ) → Legal L h → innermost h a ≡ o → option_or o (forked_in h a) ≡ Some p → (0 < p) × (p ≤ scopes h)
surrounding_by L h a p None legal is found = forked_given L h a p (forking h a) legal refl found
surrounding_by L h a p (Some q) legal is found = innermost_given h a p (is ∙ found)

-- what surrounds an actor has a number of those given
pub surrounding_given : (L : Limits) (h : History) (a p : ℕ) → Legal L h → surrounding h a ≡ Some p → (0 < p) × (p ≤ scopes h)
unfolding surrounding
surrounding_given L h a p legal found = surrounding_by L h a p (innermost h a) legal refl found

-- a parent has a smaller number
pub parent_smaller : (L : Limits) (h : History) (s p : ℕ) → Legal L h → parent h s ≡ Some p → (0 < p) × (p < s)
unfolding parent
parent_smaller L h s p legal is =
    let there = and_then_some (around h) (opening h s) p is in
    let o = there.0 in
    let given = surrounding_given L (before h o.place) o.actor p (legal_before L h o.place legal) there.2 in
    let number = opening_number h s o there.1 in
    (given.0, omega (arith, given.1, number))
