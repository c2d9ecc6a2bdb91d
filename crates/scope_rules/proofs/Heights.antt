-- While a scope isn't closed, its owner's stack is no lower than at the opening.
use Rattle.std.proofs.Common.{[], ℕ, ◌&&◌, ◌+◌, ◌-◌, ◌<◌, ◌==◌, ◌∙◌, ◌∷◌, ◌≡◌, ◌≤◌, ◌⊎◌, Bool, List, None, Option, Some, ap, arith, false, inl, inr, length, nat_le, not, refl, slice_get, suc, sym, true, zero, zero-add}
use Rattle.scope_rules.specs.{History.History, Legal.Legal, Limits, Opening, Unbind, before, closed, declared.types.events.Event.TheVariants.Open, holds_last, list_any, opened_above, opened_count, opening, option_map_or}
use Rattle.scope_rules.specs.{range_with_len, stack}
use Rattle.scope_rules.proofs.Words.{and_from, and_parts, both_ways, cases_lt, eq-eqb, eqb-true, le-leb, leb-true, not-true, not_from_false, or_cases, or_left, or_right}
use Rattle.scope_rules.proofs.{Accepted.entry_at, BindingRows.unbind_free, Earlier.before_of_before, Earlier.opening_before, Earlier.opening_event, Earlier.scope_number, Earlier.unclosed_before, StackEvents.height_kept}
use Rattle.scope_rules.proofs.{Stacks.height_more, Stacks.stack_whole}

pub range_any : (test : ℕ → Bool) (a k j : ℕ) → j < k → test (a + j) ≡ true → list_any test (range_with_len a k) ≡ true
range_any test a zero j within is = absurd (omega arith)
range_any test a (suc k) zero within is =
    let same : a + 0 ≡ a = omega arith in
    or_left (test a) (list_any test (range_with_len (a + 1) k)) (ap test (sym same) ∙ is)
range_any test a (suc k) (suc j) within is =
    let same : (a + 1) + j ≡ a + suc j = omega arith in
    or_right (test a) (list_any test (range_with_len (a + 1) k)) (range_any test (a + 1) k j (omega arith) (ap test same ∙ is))

any_split : (test : ℕ → Bool) (n : ℕ) (ns : List ℕ) → (test n ≡ true) ⊎ (list_any test ns ≡ true) → (list_any test ns ≡ true → (m : ℕ) × (test m ≡ true)) → (m : ℕ) × (test m ≡ true)
any_split test n ns (inl here) rest = (n, here)
any_split test n ns (inr there) rest = rest there

pub any_where : (test : ℕ → Bool) (ns : List ℕ) → list_any test ns ≡ true → (n : ℕ) × (test n ≡ true)
any_where test [] found = absurd cc
any_where test (n ∷ ns) found = any_split test n ns (or_cases (test n) (list_any test ns) found) (any_where test ns)

-- a scope that holds the actor's last pair: it isn't closed, and at its opening there were as many pairs
pub record HoldsLast (h : History) (a s : ℕ) : Type 0 where
  pub opened : Opening
  pub is : opening h s ≡ Some opened
  pub owner : opened.actor ≡ a
  pub unclosed : closed h s ≡ false
  pub height : length (stack h a) ≤ length (stack (before h opened.place) a)

above_by : (h : History) (a s : ℕ) (o : Option Opening) → opening h s ≡ o
    → option_map_or (λ (x : Opening). (x.actor == a) && not (closed h s) && nat_le (length (stack h a)) (length (stack (before h x.place) a))) o false ≡ true → HoldsLast h a s
above_by h a s None is told = absurd cc
above_by h a s (Some o) is told =
    let last = and_parts ((o.actor == a) && not (closed h s)) (nat_le (length (stack h a)) (length (stack (before h o.place) a))) told in
    let first = and_parts (o.actor == a) (not (closed h s)) last.0 in
    record {
      opened = o;
      is = is;
      owner = eqb-true o.actor a first.0;
      unclosed = not-true (closed h s) first.1;
      height = leb-true _ _ last.1;
    }

-- what the test of an unbind has found
pub found_by_test : (h : History) (a : ℕ) → holds_last h a ≡ true → (s : ℕ) × HoldsLast h a s
unfolding holds_last
found_by_test h a told =
    let it = any_where (opened_above h a) _ told in
    (it.0, above_by h a it.0 (opening h it.0) refl it.1)

above_from : (h : History) (a s : ℕ) (it : HoldsLast h a s) → opened_above h a s ≡ true
above_from h a s it =
    let o = it.opened in
    let inner : ((o.actor == a) && not (closed h s) && nat_le (length (stack h a)) (length (stack (before h o.place) a))) ≡ true =
    and_from _ _ (and_from _ _ (eq-eqb o.actor a it.owner) (not_from_false _ it.unclosed)) (le-leb _ _ it.height) in
    ap (λ x. option_map_or (λ (y : Opening). (y.actor == a) && not (closed h s) && nat_le (length (stack h a)) (length (stack (before h y.place) a))) x false) it.is ∙ inner

-- a scope that holds the last pair is found by the test
pub test_finds : (h : History) (a s : ℕ) → HoldsLast h a s → holds_last h a ≡ true
unfolding holds_last
test_finds h a s it =
    let number = scope_number h s it.opened it.is in
    let same : (h.base.scopes + 1) + number.0 ≡ s = omega (arith, number.2) in
    range_any (opened_above h a) (h.base.scopes + 1) (opened_count h) number.0 number.1 (ap (opened_above h a) same ∙ above_from h a s it)

-- if nothing holds the last pair, the stack is higher than at the opening of a scope that isn't closed
pub not_held : (h : History) (a s : ℕ) (o : Opening) → holds_last h a ≡ false → opening h s ≡ Some o → o.actor ≡ a → closed h s ≡ false → length (stack (before h o.place) a) < length (stack h a)
not_held h a s o free is owner unclosed =
    elim (cases_lt (length (stack (before h o.place) a)) (length (stack h a))) [
      | inl more ↦ more
      | inr less ↦
          let found = test_finds h a s (record { opened = o; is = is; owner = owner; unclosed = unclosed; height = less }) in
          absurd (both_ways (holds_last h a) free found)
    ]

-- an accepted unbind leaves the stack as high as at the opening of a scope that isn't closed
unbind_above : (L : Limits) (h : History) (s i : ℕ) (o : Opening) → Legal L h → opening h s ≡ Some o → closed h s ≡ false → o.place ≤ i → slice_get h.events i ≡ Some (Unbind o.actor)
    → length (stack (before h o.place) o.actor) + 1 ≤ length (stack (before h i) o.actor)
unfolding Legal
unbind_above L h s i o legal is unclosed later at =
    elim (cases_lt o.place i) [
      | inl after ↦
          let free = (unbind_free L (before h i) o.actor (legal i (Unbind o.actor) at)).1 in
          let more = not_held (before h i) o.actor s o free (opening_before h s i o is after) refl (unclosed_before h s i unclosed) in
          let same = ap (λ (g : History). length (stack g o.actor)) (before_of_before h i o.place (omega (arith, after))) in
          omega (arith, more, same)
      | inr there ↦
          let place : o.place ≡ i = omega (arith, later, there) in
          let event : Some (Open o.actor o.policy o.options) ≡ Some (Unbind o.actor) = sym (opening_event h s o is) ∙ (ap (slice_get h.events) place ∙ at) in
          absurd (cc (event))
    ]

above_step : (L : Limits) (h : History) (s i : ℕ) (o : Opening) → Legal L h → opening h s ≡ Some o → closed h s ≡ false → o.place ≤ i → (i < length h.events) ⊎ (length h.events ≤ i)
    → length (stack (before h o.place) o.actor) ≤ length (stack (before h i) o.actor) → length (stack (before h o.place) o.actor) ≤ length (stack (before h (i + 1)) o.actor)
above_step L h s i o legal is unclosed later (inl within) so =
    let here = entry_at h.events i within in
    let step = height_more h o.actor i (length (stack (before h i) o.actor)) here.0 here.1 refl in
    let kept = height_kept o.actor (length (stack (before h o.place) o.actor)) (length (stack (before h i) o.actor)) here.0 so (λ unbind. unbind_above L h s i o legal is unclosed later (here.1 ∙ ap Some unbind)) in
    omega (arith, step, kept)
above_step L h s i o legal is unclosed later (inr past) so =
    let first = ap length (stack_whole h o.actor i past) in
    let second = ap length (stack_whole h o.actor (i + 1) (omega (arith, past))) in
    omega (arith, first, second, so)

above_from_opening : (L : Limits) (h : History) (s d : ℕ) (o : Opening) → Legal L h → opening h s ≡ Some o → closed h s ≡ false
    → length (stack (before h o.place) o.actor) ≤ length (stack (before h (d + o.place)) o.actor)
above_from_opening L h s zero o legal is unclosed = rw zero-add (omega arith)
above_from_opening L h s (suc d) o legal is unclosed =
    let next : (d + o.place) + 1 ≡ suc d + o.place = omega arith in
    rw next at (above_step L h s (d + o.place) o legal is unclosed (omega arith) (cases_lt (d + o.place) (length h.events)) (above_from_opening L h s d o legal is unclosed))

-- while a scope isn't closed, its owner's stack is no lower than at the opening
pub stack_above : (L : Limits) (h : History) (s j : ℕ) (o : Opening) → Legal L h → opening h s ≡ Some o → closed h s ≡ false → o.place ≤ j
    → length (stack (before h o.place) o.actor) ≤ length (stack (before h j) o.actor)
stack_above L h s j o legal is unclosed later =
    let gap : (j - o.place) + o.place ≡ j = omega (arith, later) in
    rw gap at (above_from_opening L h s (j - o.place) o legal is unclosed)
