-- The nearer of two, scope by scope, is the earliest of all.
use Rattle.std.proofs.Common.{[], ℕ, ◌<◌, ◌∙◌, ◌∷◌, ◌≡◌, ◌≤◌, List, None, Option, Some, ap, arith, cond, get_or, inl, inr, leb, length, refl, subst, suc, sym, zero}
use Rattle.scope_rules.specs.{FirstCancel, IsEarliest, IsEarliestAt, chain_by, earliest_on, first_cancel_by, nearer}
use Rattle.scope_rules.proofs.Words.{cases_Bool, leb-false, leb-true, same_Some}

pub some_none : {A : Type 0} (x : A) → None ≡ Some x → ⊥
some_none x e = cc

module _ (own : ℕ → Option FirstCancel) (s : ℕ) (ss : List ℕ) where
  none_more : own s ≡ None → ((j : ℕ) → j < length ss → own (get_or ss j 0) ≡ None) → (j : ℕ) → j < length (s ∷ ss) → own (get_or (s ∷ ss) j 0) ≡ None
  none_more here rest zero h = here
  none_more here rest (suc j) h = rest j (omega arith)

  -- the first has none, or a later one: what stands farther out stays the earliest
  farther_earlier : (c : FirstCancel) (i : ℕ) → ((o : FirstCancel) → own s ≡ Some o → c.place < o.place) → IsEarliestAt own ss c i → IsEarliestAt own (s ∷ ss) c (suc i)
  farther_earlier c i later e = record {
    within = omega (arith, e.within);
    stands = e.stands;
    none_earlier = earlier;
    none_nearer = nearest;
  }
    where
      earlier : (j : ℕ) (o : FirstCancel) → j < length (s ∷ ss) → own (get_or (s ∷ ss) j 0) ≡ Some o → c.place ≤ o.place
      earlier zero o h at = (let l : c.place < o.place = later o at in omega arith)
      earlier (suc j) o h at = e.none_earlier j o (omega arith) at

      nearest : (j : ℕ) (o : FirstCancel) → j < suc i → own (get_or (s ∷ ss) j 0) ≡ Some o → c.place < o.place
      nearest zero o h at = later o at
      nearest (suc j) o h at = e.none_nearer j o (omega arith) at

  -- the first has one, and none farther out is earlier
  first_earliest : (c : FirstCancel) → own s ≡ Some c → ((j : ℕ) (o : FirstCancel) → j < length ss → own (get_or ss j 0) ≡ Some o → c.place ≤ o.place) → IsEarliestAt own (s ∷ ss) c 0
  first_earliest c here rest = record {
    within = omega arith;
    stands = here;
    none_earlier = earlier;
    none_nearer = λ j o h at. absurd (omega arith);
  }
    where
      earlier : (j : ℕ) (o : FirstCancel) → j < length (s ∷ ss) → own (get_or (s ∷ ss) j 0) ≡ Some o → c.place ≤ o.place
      earlier zero o h at = (let same : c ≡ o = same_Some c o (sym here ∙ at) in subst (λ (x : FirstCancel). c.place ≤ x.place) same (omega arith))
      earlier (suc j) o h at = rest j o (omega arith) at

  more : (a b : Option FirstCancel) → own s ≡ a → IsEarliest own ss b → IsEarliest own (s ∷ ss) (nearer a b)
  more None None here far = none_more here far
  more None (Some f) here far = (suc far.0, farther_earlier f far.0 (λ o e. absurd (some_none o (sym here ∙ e))) far.1)
  more (Some n) None here far = (0, first_earliest n here (λ j o h at. absurd (some_none o (sym (far j h) ∙ at))))
  more (Some n) (Some f) here far =
      elim (cases_Bool (leb n.place f.place)) [
        | inl w ↦ subst (IsEarliest own (s ∷ ss)) (sym (ap (λ b. cond b (Some n) (Some f)) w))
            (0, first_earliest n here (λ j o h at. let l : n.place ≤ f.place = leb-true n.place f.place w in let k : f.place ≤ o.place = far.1.none_earlier j o h at in omega arith))
        | inr w ↦ subst (IsEarliest own (s ∷ ss)) (sym (ap (λ b. cond b (Some n) (Some f)) w))
            (suc far.0, farther_earlier f far.0 (λ o e. let same : n ≡ o = same_Some n o (sym here ∙ e) in subst (λ (x : FirstCancel). f.place < x.place) same (leb-false n.place f.place w)) far.1)
      ]

pub earliest_is : (own : ℕ → Option FirstCancel) (ss : List ℕ) → IsEarliest own ss (earliest_on own ss)
earliest_is own [] = λ j h. absurd (omega arith)
earliest_is own (s ∷ ss) = more own s ss (own s) (earliest_on own ss) refl (earliest_is own ss)

pub cancel_earliest : (outer : ℕ → Option ℕ) (own : ℕ → Option FirstCancel) (s : ℕ) → IsEarliest own (chain_by outer s) (first_cancel_by outer own s)
unfolding first_cancel_by
cancel_earliest outer own s = earliest_is own (chain_by outer s)
