-- Of a scope that was never opened, and of a task that was never forked, nothing is said.
use Rattle.std.proofs.Common.{ℕ, ◌&&◌, ◌+◌, ◌==◌, ◌∙◌, ◌≡◌, Bool, None, Option, Some, ap, arith, false, length, nat_lt, not, refl, sym, true}
use Rattle.realm_state.specs.{Counts, Forking, History, Legal, Limits, Never, Opening, Running, Waiting, before, bound_as_at, bound_as_opened, closed, closing, counts, forking, holds_last, innermost, joined, level, next_level}
use Rattle.realm_state.specs.{opened_as_high, opening, option_map_or, settled, stack, stage, stage_of, surrounding}
use Rattle.realm_state.proofs.Words.{HasNoTask, closed_opened, closing_opened, false_by, forked_opened, held_by_innermost, is_held, joined_opened, nat_tests, never, no_tally, settled_by_counts, stack_then}

pub unjoined : (L : Limits) (h : History) (s : ℕ) → Legal L h → opening h s ≡ None → joined h s ≡ false
unjoined L h s legal none = false_by (joined h s) (λ is. never h s none (joined_opened L h s legal is))

pub not_closing : (L : Limits) (h : History) (s : ℕ) → Legal L h → opening h s ≡ None → closing h s ≡ false
not_closing L h s legal none = false_by (closing h s) (λ is. never h s none (closing_opened L h s legal is))

pub unclosed : (L : Limits) (h : History) (s : ℕ) → Legal L h → opening h s ≡ None → closed h s ≡ false
unclosed L h s legal none = false_by (closed h s) (λ is. never h s none (closed_opened L h s legal is))

no_task_in : (L : Limits) (h : History) (s : ℕ) → Legal L h → opening h s ≡ None → HasNoTask h s
no_task_in L h s legal none k f is same = never h s none (let it = forked_opened L h k f legal is in record { opened = it.opened; is = ap (opening h) (sym same) ∙ it.is })

by_counts : (w r : ℕ) → (nat_lt 0 (w + r)) ≡ not ((w == 0) && (r == 0))
by_counts w r = grind (arith, nat_tests)

-- a scope is settled where none of its tasks waits and none runs
pub settled_where : (h : History) (s : ℕ) (c : Counts) → counts h s ≡ c → settled h s ≡ ((c.waiting == 0) && (c.running == 0))
settled_where h s c is =
    settled_by_counts h s ∙ (ap (λ (x : Counts). not (nat_lt 0 (x.waiting + x.running))) is ∙ (ap not (by_counts c.waiting c.running) ∙ twice ((c.waiting == 0) && (c.running == 0))))
  where
    twice : (b : Bool) → not (not b) ≡ b
    twice true = refl
    twice false = refl

pub settled_alone : (L : Limits) (h : History) (s : ℕ) → Legal L h → opening h s ≡ None → settled h s ≡ true
unfolding counts
settled_alone L h s legal none =
    let no_one = no_task_in L h s legal none in
    let w = no_tally h s Waiting no_one in
    let r = no_tally h s Running no_one in
    let none : (counts h s).waiting + (counts h s).running ≡ 0 = omega (arith, w, r) in
    settled_by_counts h s ∙ ap (λ n. not (nat_lt 0 n)) none

pub never_staged : (h : History) (k : ℕ) → forking h k ≡ None → stage h k ≡ Never
unfolding stage
never_staged h k none = ap (λ (o : Option Forking). option_map_or (stage_of h k) o Never) none

-- ---- what is opened next

pub next_level_in : (h : History) (a s : ℕ) → surrounding h a ≡ Some s → next_level h a ≡ level h s + 1
unfolding next_level
next_level_in h a s is = ap (λ (o : Option ℕ). option_map_or (λ p. level h p + 1) o 1) is

pub held_where : (L : Limits) (h : History) (a s : ℕ) → Legal L h → innermost h a ≡ Some s → holds_last h a ≡ opened_as_high h a s
held_where L h a s legal is = held_by_innermost L h a legal ∙ ap (is_held h a) is

pub held_by_none : (L : Limits) (h : History) (a : ℕ) → Legal L h → innermost h a ≡ None → holds_last h a ≡ false
held_by_none L h a legal is = held_by_innermost L h a legal ∙ ap (is_held h a) is

pub unbound_alone : (h : History) (a s : ℕ) → opening h s ≡ None → bound_as_opened h a s ≡ false
unfolding bound_as_opened
unbound_alone h a s none = ap (λ (o : Option Opening). option_map_or (bound_as_at h a) o false) none

-- heights that are kept are compared as those of the stacks
pub same_height : (h : History) (a : ℕ) (o : Opening) (now then : ℕ) → now ≡ length (stack h a) → length (stack (before h o.place) o.actor) ≡ then → o.actor ≡ a → (now == then) ≡ (length (stack h a) == length (stack_then h o))
same_height h a o now then is was owner = ap (λ n. n == then) is ∙ ap (λ n. length (stack h a) == n) (sym was)
