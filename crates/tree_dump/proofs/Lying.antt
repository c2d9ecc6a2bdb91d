-- What the tree shows of a scope is all that lies in it and is not closed.
use Rattle.std.proofs.lemmas.Option.{same_Some}
use Rattle.std.proofs.Common.{[], ℕ, ◌&&◌, ◌++◌, ◌+◌, ◌<◌, ◌==◌, ◌||◌, ◌∙◌, ◌≡◌, ◌≤◌, ◌⊎◌, Bool, List, None, Option, Some, ap, append_assoc, arith, codes, cond, false, inl, inr, not, refl, subst, suc, sym, true, zero}
use Rattle.tree_dump.specs.{Clock, Forking, History, IsTreeOf, Legal, Limits, Line, Opening, TextTree.nested, TextTree.open_text, TreeShowsEachOnce, chain_by, closed, flat_map, forking, inner, level, lies_in, line_text, lines_at, list_any}
use Rattle.tree_dump.specs.{moment, moment_line, onward, opening, option_map_or, outermost, parent, tasks_of, tree_by, tree_lines}
use Rattle.tree_dump.proofs.Lemmas.{append-nil, cases_eq, chain_law, eq-eqb, forked_opened, level_by_parent, level_within, ne_eqb, outermost_is, parent_inward, parent_smaller}
use Rattle.tree_dump.proofs.{Insides.OnChain, Insides.first_up, Insides.is_next, Insides.itself, Insides.up, Listed.some_or_none, Listed.sum_least, Listed.unit}
use Rattle.tree_dump.proofs.{Once.as_its_scope, Once.most_once, Once.no_place, Once.shows_below, Once.split, Once.times, Shows.child_of, Shows.parent_lives, Shows.root_is}

module _ (L : Limits) (h : History) (legal : Legal L h) (s : ℕ) where
  -- ---- the chain

  chain_is : (t : ℕ) → lies_in h s t ≡ ((t == s) || list_any (λ p. p == s) (onward (parent h t) (chain_by (parent h))))
  chain_is t = ap (list_any (λ p. p == s)) (chain_law (parent h) (parent_inward L h legal) t)

  below_it : (t p : ℕ) → OnChain h p s → parent h t ≡ Some p → OnChain h t s
  below_it t p chain is = by p s chain is
    where
      by : (p q : ℕ) → OnChain h p q → parent h t ≡ Some p → OnChain h t q
      by p _ itself is = up itself is
      by p _ (up {p = a} {q} chain next) is = up (by p a chain is) next

  only_itself : (t q : ℕ) → OnChain h t q → parent h t ≡ None → t ≡ q
  only_itself t _ itself none = refl
  only_itself t _ (up {p} {q} chain is) none = let same = only_itself t p chain none in let fails : None ≡ Some q = sym none ∙ (ap (parent h) same ∙ is) in absurd cc

  to_chain : (m t : ℕ) → t < m → lies_in h s t ≡ true → OnChain h t s
  to_chain zero t less lies = absurd (omega (arith, less))
  to_chain (suc m) t less lies = by (cases_eq t s) (parent h t) refl (to_chain m)
    where
      whole : ((t == s) || list_any (λ p. p == s) (onward (parent h t) (chain_by (parent h)))) ≡ true
      whole = sym (chain_is t) ∙ lies

      by : (t ≡ s) ⊎ (t ≡ s → ⊥) → (x : Option ℕ) → parent h t ≡ x → ((p : ℕ) → p < m → lies_in h s p ≡ true → OnChain h p s) → OnChain h t s
      by (inl same) x at before_it = subst (λ z. OnChain h t z) same itself
      by (inr apart) None at before_it =
          let nothing : false ≡ true = sym (ap (λ b. b || list_any (λ p. p == s) (onward (parent h t) (chain_by (parent h)))) (ne_eqb t s apart) ∙ ap (λ x. list_any (λ p. p == s) (onward x (chain_by (parent h)))) at) ∙ whole in
          absurd cc
      by (inr apart) (Some p) at before_it =
          let further : lies_in h s p ≡ true = sym (ap (λ b. b || list_any (λ p. p == s) (onward (parent h t) (chain_by (parent h)))) (ne_eqb t s apart) ∙ ap (λ x. list_any (λ p. p == s) (onward x (chain_by (parent h)))) at) ∙ whole in
          let smaller = parent_smaller L h t p legal at in
          below_it t p (before_it p (omega (arith, smaller.1, less)) further) at

  from_chain : (m t : ℕ) → t < m → OnChain h t s → lies_in h s t ≡ true
  from_chain zero t less chain = absurd (omega (arith, less))
  from_chain (suc m) t less chain = by (parent h t) refl (from_chain m)
    where
      here : t ≡ s → lies_in h s t ≡ true
      here same = chain_is t ∙ ap (λ b. b || list_any (λ p. p == s) (onward (parent h t) (chain_by (parent h)))) (eq-eqb t s same)

      or_true : (b : Bool) → (b || true) ≡ true
      or_true true = refl
      or_true false = refl

      by : (x : Option ℕ) → parent h t ≡ x → ((p : ℕ) → p < m → OnChain h p s → lies_in h s p ≡ true) → lies_in h s t ≡ true
      by None at before_it = here (only_itself t s chain at)
      by (Some p) at before_it =
          elim (first_up L h legal t s p chain at) [
            | inl same ↦ here same
            | inr on ↦
                let smaller = parent_smaller L h t p legal at in
                let further = before_it p (omega (arith, smaller.1, less)) on in
                chain_is t ∙ (ap (λ x. (t == s) || list_any (λ p. p == s) (onward x (chain_by (parent h)))) at ∙ (ap (λ b. (t == s) || b) further ∙ or_true (t == s)))
          ]

  -- ---- what lies in it has its line

  record Stands (t p : ℕ) : Type 0 where
    opened : Opening
    is : opening h p ≡ Some opened
    live : closed h p ≡ false
    upto : level h p ≤ level h t

  -- what an unclosed scope lies in is not closed
  stands : (t p : ℕ) (o : Opening) → opening h t ≡ Some o → closed h t ≡ false → OnChain h t p → Stands t p
  stands t _ o is live itself = record { opened = o; is = is; live = live; upto = omega arith }
  stands t _ o is live (up {p} {q} chain inside) =
      let it = stands t p o is live chain in
      let next = parent_lives L h legal p q it.opened it.is it.live inside in
      let upto = it.upto in
      record { opened = next.0; is = next.1; live = next.2; upto = omega (arith, upto, next.3) }

  has_line : (t p : ℕ) (o : Opening) → opening h t ≡ Some o → closed h t ≡ false → OnChain h t p → (n depth : ℕ) → level h t < level h p + n → 0 < times t (lines_at h n depth (Some p))
  has_line t p o is live chain zero depth less = let it = stands t p o is live chain in let upto = it.upto in absurd (omega (arith, upto, less))
  has_line t _ o is live itself (suc m) depth less = let parts = split h m depth t t o is in let here : unit (t == t) ≡ 1 = ap unit (eq-eqb t t refl) in omega (arith, parts, here)
  has_line t _ o is live (up {p} {q} chain inside) (suc m) depth less =
      let below = stands t p o is live chain in
      let next = parent_lives L h legal p q below.opened below.is below.live inside in
      let parts = split h m depth q t next.0 next.1 in
      elim (child_of L h legal p q below.opened below.is below.live inside) [
        | inl at ↦
            let there = has_line t p o is live chain m (depth + 1) (omega (arith, less, next.3)) in
            let same : times t (lines_at h m (depth + 1) (inner h q)) ≡ times t (lines_at h m (depth + 1) (Some p)) = ap (λ x. times t (lines_at h m (depth + 1) x)) at in
            omega (arith, parts, there, same)
        | inr at ↦
            let there = has_line t p o is live chain m (depth + 1 + 1) (omega (arith, less, next.3)) in
            let one = sum_least (λ x. times t (lines_at h m (depth + 1 + 1) (outermost h x))) (tasks_of h q) at.0 at.1 at.2 in
            let same : times t (lines_at h m (depth + 1 + 1) (outermost h at.1)) ≡ times t (lines_at h m (depth + 1 + 1) (Some p)) = ap (λ x. times t (lines_at h m (depth + 1 + 1) x)) at.3 in
            omega (arith, parts, there, one, same)
      ]

  low_enough : (t : ℕ) (o : Opening) → opening h t ≡ Some o → level h t < level h s + 16
  low_enough t o is = by (parent h s) (level_by_parent L h s legal)
    where
      by : (x : Option ℕ) → level h s ≡ option_map_or (λ p. level h p + 1) x 1 → level h t < level h s + 16
      by None at = omega (arith, at, level_within L h t legal (record { opened = o; is = is }))
      by (Some p) at = omega (arith, at, level_within L h t legal (record { opened = o; is = is }))

  abbrev all : List Line
  all = lines_at h 16 0 (Some s)

  pub lying : closed h s ≡ false → (t : ℕ) (o : Opening) → opening h t ≡ Some o → times t all ≡ cond (not (closed h t) && lies_in h s t) 1 0
  lying stood t o is = by (closed h t) refl (lies_in h s t) refl
    where
      most : times t all ≤ 1
      most = most_once L h legal 16 t 0 s stood

      none : (0 < times t all → ⊥) → times t all ≡ 0
      none never_some = elim (some_or_none (times t all)) [ inl some ↦ absurd (never_some some) | inr nothing ↦ nothing ]

      by : (b : Bool) → closed h t ≡ b → (d : Bool) → lies_in h s t ≡ d → times t all ≡ cond (not b && d) 1 0
      by true ended d lies = none (λ some. let it = shows_below L h legal 16 t 0 s stood some in let fails : true ≡ false = sym ended ∙ it.1 in absurd cc)
      by false live false lies = none (λ some. let it = shows_below L h legal 16 t 0 s stood some in let fails : false ≡ true = sym lies ∙ from_chain (suc t) t (omega arith) it.0 in absurd cc)
      by false live true lies = let some = has_line t s o is live (to_chain (suc t) t (omega arith) lies) 16 0 (low_enough t o is) in omega (arith, some, most)

-- ---- the tree

module _ (L : Limits) (h : History) (legal : Legal L h) where
  -- a scope that is not closed lies in main's outermost one
  to_root : (m t : ℕ) (o : Opening) → t < m → opening h t ≡ Some o → closed h t ≡ false → (root : ℕ) × (outermost h 0 ≡ Some root) × OnChain h t root
  to_root zero t o less is live = absurd (omega (arith, less))
  to_root (suc m) t o less is live = by (parent h t) refl (to_root m)
    where
      by : (x : Option ℕ) → parent h t ≡ x → ((p : ℕ) (q : Opening) → p < m → opening h p ≡ Some q → closed h p ≡ false → (root : ℕ) × (outermost h 0 ≡ Some root) × OnChain h p root) → (root : ℕ) × (outermost h 0 ≡ Some root) × OnChain h t root
      by None alone before_it = (t, root_is L h legal t o is live alone, itself)
      by (Some p) inside before_it =
          let next = parent_lives L h legal t p o is live inside in
          let it = before_it p next.0 (let smaller = parent_smaller L h t p legal inside in omega (arith, smaller.1, less)) next.1 next.2 in
          (it.0, it.1, below_it L h legal it.0 t p it.2 inside)

  counted : (t : ℕ) (o : Opening) → opening h t ≡ Some o → times t (tree_lines h) ≡ cond (closed h t) 0 1
  counted t o is = by (outermost h 0) refl (closed h t) refl
    where
      inside : closed h t ≡ false → (root : ℕ) × (outermost h 0 ≡ Some root) × OnChain h t root
      inside live = to_root (suc t) t o (omega arith) is live

      by : (r : Option ℕ) → outermost h 0 ≡ r → (b : Bool) → closed h t ≡ b → times t (lines_at h 16 0 r) ≡ cond b 0 1
      by None at true ended = no_place h 16 0 t
      by None at false live = let it = (inside live).1 in absurd cc
      by (Some root) at b same = lying L h legal root (is_next h 0 0 root (outermost_is h 0 ∙ at)).unclosed.unclosed t o is ∙ each b same
        where
          each : (d : Bool) → closed h t ≡ d → unit (not (closed h t) && lies_in h root t) ≡ cond d 0 1
          each true ended = ap (λ x. unit (not x && lies_in h root t)) ended
          each false live =
              let it = inside live in
              let one : it.0 ≡ root = same_Some it.0 root (sym it.1 ∙ at) in
              ap (λ x. unit (not x && lies_in h root t)) live ∙ ap unit (from_chain L h legal root (suc t) t (omega arith) (subst (OnChain h t) one it.2))

root_lines : (c : Clock) (h : History) (o : Option ℕ) → (first : List ℕ) × (open_text c h o ≡ first ++ flat_map (line_text c h) (lines_at h 16 0 o))
unfolding nested
root_lines c h None = (codes "nothing is open\n", sym (append-nil (codes "nothing is open\n")))
root_lines c h (Some s) = ([], refl)

pub tree_is : (L : Limits) (c : Clock) (h : History) → Legal L h → IsTreeOf c h (tree_lines h)
unfolding tree_by
tree_is L c h legal =
    let it = root_lines c h (outermost h 0) in
    record {
      first = moment_line (moment h) c.now c.main ++ it.0;
      text = ap (λ l. moment_line (moment h) c.now c.main ++ l) it.1 ∙ sym (append_assoc (moment_line (moment h) c.now c.main) it.0 (flat_map (line_text c h) (tree_lines h)));
      scopes = λ s o is. counted L h legal s o is;
      tasks = λ k f is. as_its_scope h k f is 16 0 (outermost h 0) ∙ scope_of_task k f is;
    }
  where
    scope_of_task : (k : ℕ) (f : Forking) → forking h k ≡ Some f → times f.scope (tree_lines h) ≡ cond (closed h f.scope) 0 1
    scope_of_task k f is = let it = forked_opened L h k f legal is in counted L h legal f.scope it.opened it.is

pub shows_once : TreeShowsEachOnce
shows_once L c h legal = tree_is L c h legal
