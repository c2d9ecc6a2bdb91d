-- Where an actor's last pair was bound, and which scopes hold it.
use Rattle.std.proofs.Common.{[], ℕ, ◌++◌, ◌+◌, ◌<◌, ◌↔◌, ◌∙◌, ◌∷◌, ◌≡◌, ◌≤◌, ◌⊎◌, IsTrue, Some, add-one, ap, arith, inl, inr, length, length-append, slice_get, subst, suc, sym, take, zero}
use Rattle.scope_rules.specs.{BeganWithAll, Bind, Binding, Event, HasOpenedSince, History.History, IsLastBound, Legal.Legal, Limits, before, first_stack, holds_last, stack, stacked}
use Rattle.scope_rules.proofs.Words.{cases_lt, cases_order, slice_get_within, take_all}
use Rattle.scope_rules.proofs.{Accepted.entry_at, Earlier.opening_within, Heights.HoldsLast, Heights.found_by_test, Heights.stack_above, Heights.test_finds, Pushing.before_all, StackEvents.Heightens, StackEvents.stacked_bind}
use Rattle.scope_rules.proofs.{StackEvents.stacked_heightens, StackEvents.stacked_keeps, Stacks.stack_more, Stacks.stack_none}

-- the first n pairs that the actor has before place k are those it began with, and it has had as many
-- ever since
pub record Began (h : History) (a n k : ℕ) : Type 0 where
  pub begun : take n (stack (before h k) a) ≡ take n (first_stack h a)
  pub stands : (j : ℕ) → j ≤ k → n ≤ length (stack (before h j) a)

-- the n-th pair that the actor has before place k was bound at place i, and it has had as many ever since
pub record BoundAt (h : History) (a n k i : ℕ) : Type 0 where
  pub pair : Binding
  pub bound : slice_get h.events i ≡ Some (Bind a pair)
  pub last : take n (stack (before h k) a) ≡ stack (before h i) a ++ pair ∷ []
  pub stands : (j : ℕ) → i < j → j ≤ k → n ≤ length (stack (before h j) a)

-- one of the two
abbrev pub Placed : History → ℕ → ℕ → ℕ → Type 0
Placed h a n k = Began h a n k ⊎ ((i : ℕ) × BoundAt h a n k i)

last_or_sooner : (P : ℕ → Type 0) (j k : ℕ) → j ≤ k + 1 → (j ≤ k → P j) → P (k + 1) → P j
last_or_sooner P j k within sooner last =
    elim (cases_lt k j) [
      | inl after ↦ let same : k + 1 ≡ j = omega (arith, within, after) in subst P same last
      | inr before_it ↦ sooner before_it
    ]

began_more : (h : History) (a n k : ℕ) → n ≤ length (stack (before h (k + 1)) a) → take n (stack (before h (k + 1)) a) ≡ take n (stack (before h k) a) → Began h a n k → Began h a n (k + 1)
began_more h a n k high same it = record {
  begun = same ∙ it.begun;
  stands = λ j within. last_or_sooner (λ (m : ℕ). n ≤ length (stack (before h m) a)) j k within (it.stands j) high;
}

bound_more : (h : History) (a n k i : ℕ) → n ≤ length (stack (before h (k + 1)) a) → take n (stack (before h (k + 1)) a) ≡ take n (stack (before h k) a) → BoundAt h a n k i → BoundAt h a n (k + 1) i
bound_more h a n k i high same it = record {
  pair = it.pair;
  bound = it.bound;
  last = same ∙ it.last;
  stands = λ j later within. last_or_sooner (λ (m : ℕ). n ≤ length (stack (before h m) a)) j k within (it.stands j later) high;
}

placed_more : (h : History) (a n k : ℕ) → n ≤ length (stack (before h (k + 1)) a) → take n (stack (before h (k + 1)) a) ≡ take n (stack (before h k) a) → Placed h a n k → Placed h a n (k + 1)
placed_more h a n k high same (inl it) = inl (began_more h a n k high same it)
placed_more h a n k high same (inr it) = inr (it.0, bound_more h a n k it.0 high same it.1)

placed_here : (h : History) (a n k : ℕ) (e : Event) → slice_get h.events k ≡ Some e → n ≤ length (stack (before h (k + 1)) a) → Heightens a n (stack (before h k) a) e → Placed h a n (k + 1)
placed_here h a n k e at high it =
    let bound : slice_get h.events k ≡ Some (Bind a it.pair) = at ∙ ap Some it.is in
    let after : stack (before h (k + 1)) a ≡ stack (before h k) a ++ it.pair ∷ [] = stack_more h a k (Bind a it.pair) bound ∙ stacked_bind a (stack (before h k) a) it.pair in
    let size = ap length after ∙ length-append (stack (before h k) a) (it.pair ∷ []) in
    inr (
      k,
      record {
        pair = it.pair;
        bound = bound;
        last = take_all n (stack (before h (k + 1)) a) (omega (arith, size, it.by_one)) ∙ after;
        stands = λ j later within. last_or_sooner (λ (m : ℕ). n ≤ length (stack (before h m) a)) j k within (λ sooner. absurd (omega (arith, later, sooner))) high;
      },
    )

placed_step : (h : History) (a n k : ℕ) (e : Event) → slice_get h.events k ≡ Some e → n ≤ length (stack (before h (k + 1)) a) → (n ≤ length (stack (before h k) a) → Placed h a n k) → Placed h a n (k + 1)
placed_step h a n k e at high rest =
    let step = stack_more h a k e at in
    let after : n ≤ length (stacked a (stack (before h k) a) e) = omega (arith, high, ap length step) in
    elim (cases_lt (length (stack (before h k) a)) n) [
      | inl below ↦ placed_here h a n k e at high (stacked_heightens a n (stack (before h k) a) e below after)
      | inr within ↦ placed_more h a n k high (ap (take n) step ∙ stacked_keeps a n (stack (before h k) a) e within after) (rest within)
    ]

-- each pair that an actor has is one that it began with, or was bound at some place
pub placed : (h : History) (a n k : ℕ) → k ≤ length h.events → n ≤ length (stack (before h k) a) → Placed h a n k
placed h a n zero inside high = inl (record {
  begun = ap (take n) (stack_none h a);
  stands = λ j within. let same : 0 ≡ j = omega (arith, within) in subst (λ (m : ℕ). n ≤ length (stack (before h m) a)) same high;
})
placed h a n (suc k) inside high =
    let here = entry_at h.events k (omega (arith, inside)) in
    rw (add-one k) at (placed_step h a n k here.0 here.1 (rw add-one high) (placed h a n k (omega (arith, inside))))

whole_stack : (h : History) (a : ℕ) → stack h a ≡ take (length (stack h a)) (stack (before h (length h.events)) a)
whole_stack h a =
    sym (take_all (length (stack h a)) (stack h a) (omega arith))
    ∙ ap (λ (g : History). take (length (stack h a)) (stack g a)) (sym (before_all h (length h.events) (omega arith)))

began_with_all : (h : History) (a : ℕ) → Began h a (length (stack h a)) (length h.events) → BeganWithAll h a
began_with_all h a it = record { begun = whole_stack h a ∙ it.begun; stands = it.stands }

last_bound : (h : History) (a i : ℕ) → BoundAt h a (length (stack h a)) (length h.events) i → IsLastBound h a i
last_bound h a i it = record {
  pair = it.pair;
  bound = it.bound;
  last = whole_stack h a ∙ it.last;
  stands = it.stands;
}

-- an actor's last pair is one that it began with, or was bound at some place
pub last_was_bound : (h : History) (a : ℕ) → BeganWithAll h a ⊎ ((i : ℕ) × IsLastBound h a i)
last_was_bound h a =
    let same = ap (λ (g : History). length (stack g a)) (before_all h (length h.events) (omega arith)) in
    elim (placed h a (length (stack h a)) (length h.events) (omega arith) (omega (arith, same))) [
      | inl it ↦ inl (began_with_all h a it)
      | inr it ↦ inr (it.0, last_bound h a it.0 it.1)
    ]

-- before its last pair was bound the actor had one pair fewer
pub lower_before : (h : History) (a i : ℕ) → IsLastBound h a i → length (stack h a) ≡ length (stack (before h i) a) + 1
lower_before h a i last = ap length last.last ∙ length-append (stack (before h i) a) (last.pair ∷ [])

bound_inside : (h : History) (a i : ℕ) → IsLastBound h a i → i < length h.events
bound_inside h a i last = slice_get_within h.events i (Bind a last.pair) last.bound

not_both : (h : History) (a i : ℕ) → IsLastBound h a i → BeganWithAll h a → ⊥
not_both h a i last began = omega (arith, lower_before h a i last, began.stands i (omega (arith, bound_inside h a i last)))

not_sooner : (h : History) (a i j : ℕ) → IsLastBound h a i → IsLastBound h a j → i < j → ⊥
not_sooner h a i j last other sooner = omega (arith, lower_before h a j other, last.stands j sooner (omega (arith, bound_inside h a j other)))

-- the place is one, and there is none if the actor began with its pairs
pub last_bound_once : (h : History) (a i j : ℕ) → IsLastBound h a i → (BeganWithAll h a → ⊥) × (IsLastBound h a j → i ≡ j)
last_bound_once h a i j last = (
  λ began. not_both h a i last began,
  λ other.
      elim (cases_order i j) [
        | inl same ↦ same
        | inr (inl sooner) ↦ absurd (not_sooner h a i j last other sooner)
        | inr (inr later) ↦ absurd (not_sooner h a j i other last later)
      ],
)

opened_after : (L : Limits) (h : History) (a i s : ℕ) → Legal L h → IsLastBound h a i → HoldsLast h a s → HasOpenedSince h a (i + 1)
opened_after L h a i s legal last it =
    let o = it.opened in
    let size = lower_before h a i last in
    elim (cases_lt i o.place) [
      | inl after ↦ record { scope = s; opened = o; is = it.is; owner = it.owner; unclosed = it.unclosed; later = omega (arith, after) }
      | inr sooner ↦
          let above = subst (λ (b : ℕ). length (stack (before h o.place) b) ≤ length (stack (before h i) b)) it.owner (stack_above L h s i o legal it.is it.unclosed sooner) in
          absurd (omega (arith, above, it.height, size))
    ]

-- a scope that was opened since then holds the last pair, if there were as many pairs at its opening
since_holds : (h : History) (a n : ℕ) (since : HasOpenedSince h a n) → length (stack h a) ≤ length (stack (before h since.opened.place) a) → IsTrue (holds_last h a)
since_holds h a n since height = test_finds h a since.scope (record { opened = since.opened; is = since.is; owner = since.owner; unclosed = since.unclosed; height = height })

-- the test of an unbind says that a scope which was opened after the last pair was bound isn't closed
pub held_by_later : (L : Limits) (h : History) (a i : ℕ) → Legal L h → IsLastBound h a i → IsTrue (holds_last h a) ↔ HasOpenedSince h a (i + 1)
held_by_later L h a i legal last = (
  λ told. let it = found_by_test h a told in opened_after L h a i it.0 legal last it.1,
  λ since.
      let inside = opening_within h since.scope since.opened since.is in
      since_holds h a (i + 1) since (last.stands since.opened.place (omega (arith, since.later)) (omega (arith, inside))),
)

-- if the actor began with its last pair, each of its scopes came later
pub held_by_any : (h : History) (a : ℕ) → BeganWithAll h a → IsTrue (holds_last h a) ↔ HasOpenedSince h a 0
held_by_any h a began = (
  λ told.
      let it = found_by_test h a told in
      record { scope = it.0; opened = it.1.opened; is = it.1.is; owner = it.1.owner; unclosed = it.1.unclosed; later = omega arith },
  λ since.
      let inside = opening_within h since.scope since.opened since.is in
      since_holds h a 0 since (began.stands since.opened.place (omega (arith, inside))),
)
