-- What lies inside a scope was opened in it, and lies there alone.
use Rattle.std.proofs.Common.{ℕ, ◌&&◌, ◌+◌, ◌<◌, ◌==◌, ◌∙◌, ◌≡◌, ◌≤◌, ◌⊎◌, Bool, None, Option, Some, ap, arith, cond, false, if◌then◌else◌, inl, inr, nat_lt, not, option_map, refl, subst, suc, sym, true, zero}
use Rattle.tree_dump.specs.{Forking, History, Legal, Limits, Opening, around, before, closed, earliest, forked_in, forking, inner, innermost, is_running, next_unclosed, opened_count, opening, option_and_then, option_or, outermost}
use Rattle.tree_dump.specs.{parent, stage, surrounding, unclosed_after, unclosed_of}
use Rattle.tree_dump.proofs.Lemmas.{HasUnclosed, IsActor, and_then_some, cases_eq, cases_lt, earliest_first, eq-eqb, eqb-true, forking_since, if_some, innermost_later, innermost_none, innermost_unclosed, lt-ltb, ltb-true}
use Rattle.tree_dump.proofs.Lemmas.{main_unforked, opened_after, opened_first, opening_number, opening_row, opening_since, outermost_is, parent_smaller, running_forked, scope_given, unclosed_around, unclosed_before}

-- ---- what is next

none_below : {A : Type 0} (f : ℕ → Option A) (n : ℕ) → earliest f n ≡ None → (j : ℕ) → j < n → f j ≡ None
unfolding earliest
none_below f zero none j less = absurd (omega (arith, less))
none_below f (suc n) none j less = by (earliest f n) refl (none_below f n)
  where
    by : (o : Option _) → earliest f n ≡ o → (earliest f n ≡ None → (i : ℕ) → i < n → f i ≡ None) → f j ≡ None
    by None at below =
        elim (cases_lt j n) [
          | inl small ↦ below at j small
          | inr more ↦ let same : n ≡ j = omega (arith, less, more) in ap f (sym same) ∙ (sym (ap (λ o. option_or o (f n)) at) ∙ none)
        ]
    by (Some x) at below = let found : Some x ≡ None = sym (ap (λ o. option_or o (f n)) at) ∙ none in absurd cc

not_is : (b : Bool) → not b ≡ true → b ≡ false
not_is true so = absurd cc
not_is false so = refl

both_are : (a b : Bool) → (a && b) ≡ true → (a ≡ true) × (b ≡ true)
both_are true b so = (refl, so)
both_are false b so = absurd cc

-- the first of the actor's unclosed scopes after scope s
pub record IsNext (h : History) (a s p : ℕ) : Type 0 where
  pub unclosed : HasUnclosed h a p
  pub after : s < p
  pub first : (u : ℕ) → HasUnclosed h a u → s < u → p ≤ u

unclosed_there : (h : History) (a n p : ℕ) → unclosed_of h a n ≡ Some p → (h.base.scopes + 1 + n ≡ p) × HasUnclosed h a p
unclosed_there h a n p found =
    let at = h.base.scopes + 1 + n in
    let it = and_then_some (λ (o : Opening). if (o.actor == a) && not (closed h at) then Some at else None) (opening h at) p found in
    let test = if_some ((it.0.actor == a) && not (closed h at)) (Some at) p it.2 in
    let parts = both_are (it.0.actor == a) (not (closed h at)) test.0 in
    let same : at ≡ p = let x = test.1 in cc in
    (same, subst (HasUnclosed h a) same (record { opened = it.0; is = it.1; by = eqb-true it.0.actor a parts.0; unclosed = not_is (closed h at) parts.1 }))

pub is_next : (h : History) (a s p : ℕ) → next_unclosed h a s ≡ Some p → IsNext h a s p
unfolding next_unclosed
is_next h a s p found =
    let at = earliest_first (unclosed_after h a s) p (opened_count h) found in
    let test = if_some (nat_lt s (h.base.scopes + 1 + at.0)) (unclosed_of h a at.0) p at.2 in
    let it = unclosed_there h a at.0 p test.1 in
    record {
      unclosed = it.1;
      after = subst (λ n. s < n) it.0 (ltb-true s (h.base.scopes + 1 + at.0) test.0);
      first = λ u other later.
          elim (cases_lt u p) [
            | inr upto ↦ upto
            | inl less ↦
                let there = opened_after h u other.opened other.is in
                let none = none_below (unclosed_after h a s) at.0 at.3 there.0 (omega (arith, less, it.0, there.2)) in
                let same : h.base.scopes + 1 + there.0 ≡ u = there.2 in
                let found_it : unclosed_after h a s there.0 ≡ Some u =
                ap (λ n. cond (nat_lt s n) (option_and_then (λ (o : Opening). if (o.actor == a) && not (closed h n) then Some n else None) (opening h n)) None) same
                ∙ (ap (λ b. cond b (option_and_then (λ (o : Opening). if (o.actor == a) && not (closed h u) then Some u else None) (opening h u)) None) (lt-ltb s u later)
                ∙ (ap (option_and_then (λ (o : Opening). if (o.actor == a) && not (closed h u) then Some u else None)) other.is
                ∙ (ap (λ b. cond (b && not (closed h u)) (Some u) None) (eq-eqb other.opened.actor a other.by) ∙ ap (λ b. cond (not b) (Some u) None) other.unclosed))) in
                absurd (never_both u (unclosed_after h a s there.0) none found_it)
          ];
    }
  where
    never_both : (x : ℕ) (o : Option ℕ) → o ≡ None → o ≡ Some x → ⊥
    never_both x o none some = absurd cc

-- ---- what lies in a scope has it as its parent

never_true : (b : Bool) → b ≡ true → b ≡ false → ⊥
never_true b one other = absurd cc

module _ (L : Limits) (h : History) (legal : Legal L h) where
  earlier_number : (p u : ℕ) (o x : Opening) → opening h p ≡ Some o → opening (before h o.place) u ≡ Some x → u < p
  earlier_number p u o x is there =
      let bound = scope_given (before h o.place) u x there in
      omega (arith, opening_number h p o is, bound.1)

  -- the outermost scope of a task was opened in the scope of the task
  pub outermost_parent : (k p : ℕ) (f : Forking) → forking h k ≡ Some f → outermost h k ≡ Some p → parent h p ≡ Some f.scope
  unfolding parent surrounding
  outermost_parent k p f is found =
      let next = is_next h k 0 p (outermost_is h k ∙ found) in
      let it = next.unclosed in
      let o = it.opened in
      let none = alone (innermost (before h o.place) k) refl in
      let forked = ran (opening_row L h p o legal it.is) in
      ap (option_and_then (around h)) it.is
      ∙ (ap (λ a. option_or (innermost (before h o.place) a) (forked_in (before h o.place) a)) it.by
      ∙ (ap (λ w. option_or w (forked_in (before h o.place) k)) none ∙ forked))
    where
      next_of : IsNext h k 0 p
      next_of = is_next h k 0 p (outermost_is h k ∙ found)

      o_of : Opening
      o_of = next_of.unclosed.opened

      alone : (w : Option ℕ) → innermost (before h o_of.place) k ≡ w → innermost (before h o_of.place) k ≡ None
      alone None at = at
      alone (Some u) at =
          let inside = innermost_unclosed (before h o_of.place) k u at in
          let still = unclosed_around L h p u o_of legal next_of.unclosed.is next_of.unclosed.unclosed (subst (λ a. HasUnclosed (before h o_of.place) a u) (sym next_of.unclosed.by) inside) in
          let there = opening_since h u o_of.place inside.opened inside.is in
          let first = next_of.first u (record { opened = inside.opened; is = there; by = inside.by; unclosed = still }) (scope_given h u inside.opened there).0 in
          absurd (omega (arith, first, earlier_number p u o_of inside.opened next_of.unclosed.is inside.is))

      ran : IsActor (before h o_of.place) o_of.actor → forked_in (before h o_of.place) k ≡ Some f.scope
      ran (inl main) = absurd (main_unforked h k f (sym next_of.unclosed.by ∙ main) is)
      ran (inr runs) =
          let forked = running_forked (before h o_of.place) k (subst (λ a. is_running (stage (before h o_of.place) a) ≡ true) next_of.unclosed.by runs) in
          let same : Some forked.forked ≡ Some f = sym (forking_since h k o_of.place forked.forked forked.is) ∙ is in
          let one : forked.forked ≡ f = cc in
          ap (option_map (λ (g : Forking). g.scope)) forked.is ∙ ap (λ (g : Forking). Some g.scope) one

  -- what lies inside an unclosed scope of the same owner was opened in it
  pub inner_parent : (s p : ℕ) (o : Opening) → opening h s ≡ Some o → closed h s ≡ false → inner h s ≡ Some p → (parent h p ≡ Some s) × IsNext h o.actor s p
  unfolding parent surrounding inner
  inner_parent s p o is live found = (
    ap (option_and_then (around h)) next_of.unclosed.is
        ∙ (ap (λ a. option_or (innermost (before h q.place) a) (forked_in (before h q.place) a)) next_of.unclosed.by
        ∙ ap (λ w. option_or w (forked_in (before h q.place) o.actor)) (inside (innermost (before h q.place) o.actor) refl)),
    next_of,
  )
    where
      next_of : IsNext h o.actor s p
      next_of = is_next h o.actor s p (sym (ap (option_and_then (λ (x : Opening). next_unclosed h x.actor s)) is) ∙ found)

      q : Opening
      q = next_of.unclosed.opened

      stood : opening (before h q.place) s ≡ Some o
      stood = opened_first L h s p o q legal is next_of.unclosed.is next_of.after

      inside : (w : Option ℕ) → innermost (before h q.place) o.actor ≡ w → innermost (before h q.place) o.actor ≡ Some s
      inside None at = absurd (never_true (closed (before h q.place) s) (innermost_none (before h q.place) o.actor s o at stood refl) (unclosed_before h s q.place live))
      inside (Some u) at =
          let it = innermost_unclosed (before h q.place) o.actor u at in
          let still = unclosed_around L h p u q legal next_of.unclosed.is next_of.unclosed.unclosed (subst (λ a. HasUnclosed (before h q.place) a u) (sym next_of.unclosed.by) it) in
          let there = opening_since h u q.place it.opened it.is in
          elim (cases_lt s u) [
            | inl more ↦
                let first = next_of.first u (record { opened = it.opened; is = there; by = it.by; unclosed = still }) more in
                absurd (omega (arith, first, earlier_number p u q it.opened next_of.unclosed.is it.is))
            | inr upto ↦
                elim (cases_eq u s) [
                  | inl same ↦ at ∙ ap Some same
                  | inr apart ↦ absurd (never_true (closed (before h q.place) s) (innermost_later (before h q.place) o.actor u s o at stood refl (omega (arith, upto, apart))) (unclosed_before h s q.place live))
                ]
          ]

-- ---- chains of parents

-- scope p is t, or t lies inside it
pub data OnChain (h : History) (t : ℕ) : ℕ → Type 0 where
  itself : OnChain h t t
  up : {p q : ℕ} → OnChain h t p → parent h p ≡ Some q → OnChain h t q

module _ (L : Limits) (h : History) (legal : Legal L h) where
  pub smaller : (t p : ℕ) → OnChain h t p → p ≤ t
  smaller t _ itself = omega arith
  smaller t _ (up {p} {q} chain is) = let rest = smaller t p chain in omega (arith, rest, (parent_smaller L h p q legal is).1)

  -- what lies around a scope is the scope, or lies around its parent
  pub first_up : (p q s : ℕ) → OnChain h p q → parent h p ≡ Some s → (p ≡ q) ⊎ OnChain h s q
  first_up p _ s itself is = inl refl
  first_up p _ s (up {p = z} {q} chain next) is =
      elim (first_up p z s chain is) [
        | inl same ↦ let one : Some q ≡ Some s = sym next ∙ (ap (parent h) (sym same) ∙ is) in let equal : q ≡ s = cc in inr (subst (OnChain h s) (sym equal) itself)
        | inr on ↦ inr (up on next)
      ]

  -- a chain goes one way
  one_way : (t a b : ℕ) → OnChain h t a → OnChain h t b → (OnChain h a b) ⊎ (OnChain h b a)
  one_way t _ b itself other = inl other
  one_way t _ b (up {p} {q} chain is) other =
      elim (one_way t p b chain other) [
        | inr below ↦ inr (up below is)
        | inl further ↦ elim (first_up p b q further is) [ inl same ↦ inr (subst (λ z. OnChain h z q) same (up itself is)) | inr on ↦ inl on ]
      ]

  same_up : (a b s : ℕ) → OnChain h a b → parent h a ≡ Some s → parent h b ≡ Some s → a ≡ b
  same_up a b s chain one other =
      elim (first_up a b s chain one) [
        | inl same ↦ same
        | inr on ↦ let low = smaller s b on in absurd (omega (arith, low, (parent_smaller L h b s legal other).1))
      ]

  -- of those that lie in one scope one lies around a scope
  pub only_one : (t a b s : ℕ) → OnChain h t a → OnChain h t b → parent h a ≡ Some s → parent h b ≡ Some s → a ≡ b
  only_one t a b s one other a_in b_in =
      elim (one_way t a b one other) [ inl chain ↦ same_up a b s chain a_in b_in | inr chain ↦ sym (same_up b a s chain b_in a_in) ]
