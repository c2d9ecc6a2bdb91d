-- What the checks of bindings ask, by heights of stacks alone: while a scope that an actor opened isn't
-- closed, the pairs that the actor had then still stand.
use Rattle.std.proofs.Common.{ℕ, ◌+◌, ◌-◌, ◌<◌, ◌==◌, ◌∙◌, ◌≡◌, ◌≤◌, ◌⊎◌, Bool, List, None, Option, Some, ap, arith, false, inl, inr, length, nat_le, refl, suc, sym, take, true, zero, zero-add}
use Rattle.scope_rules.specs.{Binding, History.History, Legal.Legal, Limits, Opening, before, bound_as_opened, closed, holds_last, innermost, opening, option_map_or, stack, stacked}
use Rattle.scope_rules.proofs.Words.{cases_lt, eq-eqb, eqb-true, le-leb, leb-true, length-take, take_all}
use Rattle.scope_rules.proofs.{Accepted.entry_at, Earlier.opening_within, Heights.HoldsLast, Heights.found_by_test, Heights.stack_above, Heights.test_finds, Inherited.bound_as_opened_own, InnermostEnds.opened_first}
use Rattle.scope_rules.proofs.{Innermosts.innermost_none, Innermosts.innermost_unclosed, Innermosts.unclosed_innermost, Pushing.before_all, StackEvents.stacked_keeps, Stacks.stack_more, Stacks.stack_whole}

-- the actor's stack at the opening
abbrev pub stack_then : History → Opening → List Binding
stack_then h o = stack (before h o.place) o.actor

keeps_step : (L : Limits) (h : History) (s i : ℕ) (o : Opening) → Legal L h → opening h s ≡ Some o → closed h s ≡ false → o.place ≤ i → (i < length h.events) ⊎ (length h.events ≤ i)
    → take (length (stack_then h o)) (stack (before h i) o.actor) ≡ stack_then h o → take (length (stack_then h o)) (stack (before h (i + 1)) o.actor) ≡ stack_then h o
keeps_step L h s i o legal is unclosed later (inl within) so =
    let here = entry_at h.events i within in
    let low = stack_above L h s i o legal is unclosed later in
    let high = stack_above L h s (i + 1) o legal is unclosed (omega (arith, later)) in
    let step = stack_more h o.actor i here.0 here.1 in
    let tall : length (stack_then h o) ≤ length (stacked o.actor (stack (before h i) o.actor) here.0) = omega (arith, high, ap length step) in
    ap (take (length (stack_then h o))) step ∙ (stacked_keeps o.actor (length (stack_then h o)) (stack (before h i) o.actor) here.0 low tall ∙ so)
keeps_step L h s i o legal is unclosed later (inr past) so =
    ap (take (length (stack_then h o))) (stack_whole h o.actor (i + 1) (omega (arith, past)) ∙ sym (stack_whole h o.actor i past)) ∙ so

keeps_from_opening : (L : Limits) (h : History) (s d : ℕ) (o : Opening) → Legal L h → opening h s ≡ Some o → closed h s ≡ false
    → take (length (stack_then h o)) (stack (before h (d + o.place)) o.actor) ≡ stack_then h o
keeps_from_opening L h s zero o legal is unclosed = rw zero-add (take_all (length (stack_then h o)) (stack_then h o) (omega arith))
keeps_from_opening L h s (suc d) o legal is unclosed =
    let next : (d + o.place) + 1 ≡ suc d + o.place = omega arith in
    rw next at (keeps_step L h s (d + o.place) o legal is unclosed (omega arith) (cases_lt (d + o.place) (length h.events)) (keeps_from_opening L h s d o legal is unclosed))

-- while a scope isn't closed, the pairs that its owner had at the opening are the first of its stack
pub stack_keeps : (L : Limits) (h : History) (s : ℕ) (o : Opening) → Legal L h → opening h s ≡ Some o → closed h s ≡ false → take (length (stack_then h o)) (stack h o.actor) ≡ stack_then h o
stack_keeps L h s o legal is unclosed =
    let within = opening_within h s o is in
    let gap : (length h.events - o.place) + o.place ≡ length h.events = omega (arith, within) in
    ap (λ (g : History). take (length (stack_then h o)) (stack g o.actor)) (sym (before_all h (length h.events) (omega arith)))
    ∙ (rw gap at (keeps_from_opening L h s (length h.events - o.place) o legal is unclosed))

same_height : (xs ys : List Binding) (b : Bool) → take (length ys) xs ≡ ys → (length xs == length ys) ≡ b → (xs ≡ ys → b ≡ true) × (b ≡ true → xs ≡ ys)
same_height xs ys b kept is = (
  λ same. sym is ∙ eq-eqb (length xs) (length ys) (ap length same),
  λ tall. let n : length xs ≡ length ys = eqb-true (length xs) (length ys) (is ∙ tall) in sym (take_all (length ys) xs (omega (arith, n))) ∙ kept,
)

pub some_same : {A : Type 0} (x y : A) → Some x ≡ Some y → x ≡ y
some_same x y same = cc

pub same_truth : (b c : Bool) → (b ≡ true → c ≡ true) → (c ≡ true → b ≡ true) → b ≡ c
same_truth true c one other = sym (one refl)
same_truth false true one other = other refl
same_truth false false one other = refl

-- the bindings are those of the opening if the stack is as high as then
pub bound_by_height : (L : Limits) (h : History) (s : ℕ) (o : Opening) → Legal L h → opening h s ≡ Some o → closed h s ≡ false
    → bound_as_opened h o.actor s ≡ (length (stack h o.actor) == length (stack_then h o))
bound_by_height L h s o legal is unclosed =
    let decides = bound_as_opened_own h o.actor s o is in
    let height = same_height (stack h o.actor) (stack_then h o) (length (stack h o.actor) == length (stack_then h o)) (stack_keeps L h s o legal is unclosed) refl in
    same_truth (bound_as_opened h o.actor s) (length (stack h o.actor) == length (stack_then h o)) (λ so. height.0 (decides.0 so)) (λ so. decides.1 (height.1 so))

-- whether the actor's innermost scope was opened above its last pair
abbrev pub is_held : History → ℕ → Option ℕ → Bool
is_held h a i = option_map_or (λ s. option_map_or (λ (o : Opening). nat_le (length (stack h a)) (length (stack_then h o))) (opening h s) false) i false

lower_by : (L : Limits) (h : History) (a s t : ℕ) (o : Opening) (it : HoldsLast h a t) → Legal L h → opening h s ≡ Some o → o.actor ≡ a → t ≤ s → (t < s) ⊎ (s ≤ t)
    → length (stack (before h it.opened.place) a) ≤ length (stack (before h o.place) a)
lower_by L h a s t o it legal opened by within (inl less) =
    let first = opening_within (before h o.place) t it.opened (opened_first L h t s it.opened o legal it.is opened less) in
    let size : length (take o.place h.events) ≤ o.place = rw length-take (omega arith) in
    rw it.owner at (stack_above L h t o.place it.opened legal it.is it.unclosed (omega (arith, first, size)))
lower_by L h a s t o it legal opened by within (inr more) =
    let same : t ≡ s = omega (arith, within, more) in
    let one : Some it.opened ≡ Some o = sym it.is ∙ (ap (opening h) same ∙ opened) in
    let place : it.opened.place ≡ o.place = ap (λ (x : Opening). x.place) (some_same it.opened o one) in
    rw place (omega arith)

-- a scope that holds the actor's last pair was opened no higher than the innermost
lower : (L : Limits) (h : History) (a s t : ℕ) (o : Opening) (it : HoldsLast h a t) → Legal L h → innermost h a ≡ Some s → opening h s ≡ Some o → o.actor ≡ a
    → length (stack (before h it.opened.place) a) ≤ length (stack_then h o)
lower L h a s t o it legal is opened by =
    let found = unclosed_innermost h a t (record { opened = it.opened; is = it.is; by = it.owner; unclosed = it.unclosed }) in
    let same : found.scope ≡ s = some_same found.scope s (sym found.is ∙ is) in
    rw by (lower_by L h a s t o it legal opened by (omega (arith, found.least, same)) (cases_lt t s))

held_by : (L : Limits) (h : History) (a : ℕ) (i : Option ℕ) → Legal L h → innermost h a ≡ i → (holds_last h a ≡ true → is_held h a i ≡ true) × (is_held h a i ≡ true → holds_last h a ≡ true)
held_by L h a None legal is = (
  λ held. let it = (found_by_test h a held).1 in absurd (cc (innermost_none h a (found_by_test h a held).0 it.opened is it.is it.owner, it.unclosed)),
  λ none. absurd cc,
)
held_by L h a (Some s) legal is =
    let own = innermost_unclosed h a s is in
    let o = own.opened in (
      λ held.
          let found = found_by_test h a held in
          let t = found.0 in
          let it = found.1 in
          let below = lower L h a s t o it legal is own.is own.by in
          rw own.is (le-leb _ _ (omega (arith, it.height, below))),
      λ tall.
          let low : nat_le (length (stack h a)) (length (stack_then h o)) ≡ true = rw own.is at tall in
          test_finds h a s (record { opened = o; is = own.is; owner = own.by; unclosed = own.unclosed; height = rw own.by at (leb-true _ _ low) }),
    )

-- a scope holds the actor's last pair if its innermost one does
pub held_by_innermost : (L : Limits) (h : History) (a : ℕ) → Legal L h → holds_last h a ≡ is_held h a (innermost h a)
held_by_innermost L h a legal =
    let both = held_by L h a (innermost h a) legal refl in
    same_truth (holds_last h a) (is_held h a (innermost h a)) both.0 both.1
