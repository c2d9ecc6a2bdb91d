-- What is kept stays right when a scope is added.
use Rattle.std.proofs.Common.{[], ℕ, ◌++◌, ◌+◌, ◌-◌, ◌<◌, ◌∙◌, ◌∷◌, ◌≡◌, ◌≤◌, ◌⊎◌, Bool, List, None, Option, Some, ap, arith, cond, false, get_or, inl, inr, length, refl, slice_get, subst, suc, sym, true, zero}
use Rattle.cancel_tree.specs.{AreColumns, AreLed, FirstCancel, IfSome, IsAdded, IsInward, Links, ScopeNode, cancel_of, chain_by, is_scope, last_inner, led, level_in, level_of, nearer, new_row, onward, option_and_then, outer}
use Rattle.cancel_tree.specs.{outer_of, own_of, parent_of, row}
use Rattle.cancel_tree.proofs.Words.{cancel_kept, cancel_law, cases_eq, cases_lt, chain_kept, chain_law, eq-eqb, get_push, length-set, ne_eqb, same_Some, slice_get-get_or, slice_get_past, slice_get_within, some_none}
use Rattle.cancel_tree.proofs.{ReachLaws.last_inner_found, RowLaws.outer_inward, SpreadLaws.slice_get-set}

-- ---- one more at the end

pub push_here : {A : Type 0} (xs : List A) (x : A) → slice_get (xs ++ x ∷ []) (length xs) ≡ Some x
push_here [] x = refl
push_here (y ∷ xs) x = push_here xs x

pub push_length : {A : Type 0} (xs : List A) (x : A) → length (xs ++ x ∷ []) ≡ suc (length xs)
push_length [] x = refl
push_length (y ∷ xs) x = ap suc (push_length xs x)

-- what stands in a list with one more is the one, or stood there before
pub push_cases : {A : Type 0} (xs : List A) (x : A) (i : ℕ) (y : A) → slice_get (xs ++ x ∷ []) i ≡ Some y → ((i ≡ length xs) × (y ≡ x)) ⊎ ((i < length xs) × (slice_get xs i ≡ Some y))
push_cases xs x i y e =
    elim (cases_lt i (length xs)) [
      | inl lt ↦ inr (lt, sym (get_push xs x i lt) ∙ e)
      | inr ge ↦ (let k : i < length (xs ++ x ∷ []) = slice_get_within (xs ++ x ∷ []) i y e in
          let is : i ≡ length xs = omega (arith, push_length xs x) in
          inl (is, same_Some y x (sym e ∙ ap (slice_get (xs ++ x ∷ [])) is ∙ push_here xs x)))
    ]

get_or_before : {A : Type 0} (xs : List A) (x : A) (i : ℕ) (d : A) → i < length xs → get_or (xs ++ x ∷ []) i d ≡ get_or xs i d
get_or_before [] x i d h = absurd (omega arith)
get_or_before (y ∷ xs) x zero d h = refl
get_or_before (y ∷ xs) x (suc i) d h = get_or_before xs x i d (omega arith)

-- ---- the links with a new one, to which the scope outside leads

abbrev pub relinked : Option ℕ → List Links → Links → Links → List Links
relinked o links link d = led (links ++ link ∷ []) o (suc (length links)) d

pub relinked_length : (o : Option ℕ) (links : List Links) (link d : Links) → length (relinked o links link d) ≡ suc (length links)
relinked_length None links link d = push_length links link
relinked_length (Some p) links link d = length-set _ _ _ ∙ push_length links link

record IsOldLink (o : Option ℕ) (links : List Links) (i : ℕ) (l : Links) : Type 0 where
  old : Links
  within : i < length links
  at : slice_get links i ≡ Some old
  level : l.level ≡ old.level
  next : l.next_inner ≡ old.next_inner
  first : l.first_inner ≡ cond (is_scope o (suc i)) (Some (suc (length links))) old.first_inner

links_cases : (o : Option ℕ) (links : List Links) (link d : Links) → IfSome o (λ p. (1 ≤ p) × (p ≤ length links)) → (i : ℕ) (l : Links) → slice_get (relinked o links link d) i ≡ Some l
    → ((i ≡ length links) × (l ≡ link)) ⊎ IsOldLink o links i l
links_cases None links link d h i l e =
    elim (push_cases links link i l e) [
      | inl new ↦ inl new
      | inr was ↦ inr (record { old = l; within = was.0; at = was.1; level = refl; next = refl; first = refl })
    ]
links_cases (Some p) links link d h i l e =
    let x : Links = record (get_or (links ++ link ∷ []) (p - 1) d) { first_inner = Some (suc (length links)) } in
    let put = slice_get-set (links ++ link ∷ []) (p - 1) i x (omega (arith, push_length links link, h.0, h.1)) in
    elim (cases_eq i (p - 1)) [
      | inl at ↦ (let lt : i < length links = omega (arith, h.0, h.1) in
          let is : x ≡ l = same_Some x l (sym (put ∙ ap (λ b. cond b (Some x) (slice_get (links ++ link ∷ []) i)) (eq-eqb i (p - 1) at)) ∙ e) in
          let old : Links = get_or links i d in
          let read : get_or (links ++ link ∷ []) (p - 1) d ≡ old = ap (λ j. get_or (links ++ link ∷ []) j d) (sym at) ∙ get_or_before links link i d lt in
          inr (record {
            old = old;
            within = lt;
            at = slice_get-get_or links i d lt;
            level = sym (ap (λ (k : Links). k.level) is) ∙ ap (λ (k : Links). k.level) read;
            next = sym (ap (λ (k : Links). k.next_inner) is) ∙ ap (λ (k : Links). k.next_inner) read;
            first = sym (ap (λ (k : Links). k.first_inner) is) ∙ sym (ap (λ b. cond b (Some (suc (length links))) old.first_inner) (eq-eqb p (suc i) (omega (arith, h.0))));
          }))
      | inr ne ↦ (let there = sym (put ∙ ap (λ b. cond b (Some x) (slice_get (links ++ link ∷ []) i)) (ne_eqb i (p - 1) ne)) ∙ e in
          elim (push_cases links link i l there) [
            | inl new ↦ inl new
            | inr was ↦ inr (record {
              old = l;
              within = was.0;
              at = was.1;
              level = refl;
              next = refl;
              first = sym (ap (λ b. cond b (Some (suc (length links))) l.first_inner) (ne_eqb p (suc i) (λ q. ne (omega arith))));
            })
          ])
    ]

-- ---- the last inner scope, once there is one more scope

last_inner_kept : (outer new : ℕ → Option ℕ) (n : ℕ) → ((t : ℕ) → t ≤ n → new t ≡ outer t) → (s i : ℕ) → i ≤ n → last_inner new s i ≡ last_inner outer s i
last_inner_kept outer new n same s zero h = refl
last_inner_kept outer new n same s (suc i) h =
    (λ j. cond (is_scope (same (suc i) h j) s) (Some (suc i)) (last_inner_kept outer new n same s i (omega arith) j))

no_inner : (outer : ℕ → Option ℕ) → IsInward outer → (s n : ℕ) → n ≤ s → (o : Option ℕ) → last_inner outer s n ≡ o → o ≡ None
no_inner outer inward s n h None e = refl
no_inner outer inward s n h (Some c) e = absurd (let f = last_inner_found outer s n c e in let i = inward c s f.0 in omega (arith, f.2, i.1))

-- ---- the tree

module _ (nodes : List ScopeNode) (links : List Links) (cancels : List (Option FirstCancel)) (kept : AreColumns nodes links cancels) (parent : Option ℕ) (shield : Bool) (opened : ℕ) (there : IfSome parent (IsAdded nodes)) (d : Links) where
  abbrev r : ScopeNode
  r = new_row parent shield opened

  abbrev pub new : List ScopeNode
  new = nodes ++ r ∷ []

  abbrev n : ℕ
  n = length nodes

  abbrev pub link : Links
  link = record { level = level_in nodes parent; first_inner = None; next_inner = option_and_then (λ s. last_inner (outer_of nodes) s n) (outer r) }

  abbrev pub first_cancel : Option FirstCancel
  first_cancel = option_and_then (cancel_of nodes) (outer r)

  pub row_before : (t : ℕ) → t ≤ n → row new t ≡ row nodes t
  row_before zero h = refl
  row_before (suc i) h = get_push nodes r i (omega arith)

  pub row_here : row new (suc n) ≡ Some r
  row_here = push_here nodes r

  outers : (t : ℕ) → t ≤ n → outer_of new t ≡ outer_of nodes t
  outers t h = ap (option_and_then outer) (row_before t h)

  parents : (t : ℕ) → t ≤ n → parent_of new t ≡ parent_of nodes t
  parents t h = ap (option_and_then (λ (t : ScopeNode). t.parent)) (row_before t h)

  owns : (t : ℕ) → t ≤ n → own_of new t ≡ own_of nodes t
  owns t h = ap (option_and_then (λ (t : ScopeNode). t.own)) (row_before t h)

  parent_here : parent_of new (suc n) ≡ parent
  parent_here = ap (option_and_then (λ (t : ScopeNode). t.parent)) row_here

  outer_here : outer_of new (suc n) ≡ outer r
  outer_here = ap (option_and_then outer) row_here

  own_here : own_of new (suc n) ≡ None
  own_here = ap (option_and_then (λ (t : ScopeNode). t.own)) row_here

  added_parent : (p : ℕ) (o : Option ℕ) → IfSome o (IsAdded nodes) → o ≡ Some p → IsAdded nodes p
  added_parent p None h e = absurd (some_none p e)
  added_parent p (Some q) h e = subst (IsAdded nodes) (same_Some q p e) h

  pub inward_new : IsInward (parent_of new)
  inward_new zero p e = absurd (some_none p e)
  inward_new (suc i) p e =
      elim (cases_lt i n) [
        | inl lt ↦ kept.inward (suc i) p (sym (parents (suc i) (omega arith)) ∙ e)
        | inr ge ↦ elim (cases_eq i n) [
          | inl at ↦ (let a = added_parent p parent there (sym parent_here ∙ ap (λ j. parent_of new (suc j)) (sym at) ∙ e) in (a.0, omega (arith, a.1)))
          | inr ne ↦ absurd (past i (slice_get new i) refl p e (omega arith))
        ]
      ]
    where
      past : (i : ℕ) (o : Option ScopeNode) → slice_get new i ≡ o → (p : ℕ) → option_and_then (λ (t : ScopeNode). t.parent) (slice_get new i) ≡ Some p → n < i → ⊥
      past i None at p e h = some_none p (sym (ap (option_and_then (λ (t : ScopeNode). t.parent)) at) ∙ e)
      past i (Some t) at p e h = let lt : i < length new = slice_get_within new i t at in let l : length new ≡ suc n = push_length nodes r in omega arith

  added_outer : (b : Bool) (o : Option ℕ) → IfSome o (IsAdded nodes) → IfSome (cond b None o) (IsAdded nodes)
  added_outer true o h = tt
  added_outer false o h = h

  abbrev pub new_links : List Links
  new_links = relinked (outer r) links link d

  length_links : length new_links ≡ suc n
  length_links = relinked_length (outer r) links link d ∙ ap suc kept.rows

  outer_within : (o : Option ℕ) → IfSome o (IsAdded nodes) → IfSome o (λ p. (1 ≤ p) × (p ≤ length links))
  outer_within None h = tt
  outer_within (Some p) h = (h.0, omega (arith, h.1, kept.rows))

  cases : (i : ℕ) (l : Links) → slice_get new_links i ≡ Some l → ((i ≡ length links) × (l ≡ link)) ⊎ IsOldLink (outer r) links i l
  cases = links_cases (outer r) links link d (outer_within (outer r) (added_outer shield parent there))

  inwards : IsInward (outer_of nodes)
  inwards = outer_inward nodes kept.inward

  -- the last inner scope of each, with the new one
  last_new : (s : ℕ) → last_inner (outer_of new) s (suc n) ≡ cond (is_scope (outer r) s) (Some (suc n)) (last_inner (outer_of nodes) s n)
  last_new s = λ j. cond (is_scope (outer_here j) s) (Some (suc n)) (last_inner_kept (outer_of nodes) (outer_of new) n outers s n (omega arith) j)

  not_its_own : (o : Option ℕ) → IfSome o (IsAdded nodes) → is_scope o (suc n) ≡ false
  not_its_own None h = refl
  not_its_own (Some p) h = ne_eqb p (suc n) (λ e. omega (arith, h.1))

  first_new : (i : ℕ) (l : Links) → slice_get new_links i ≡ Some l → l.first_inner ≡ last_inner (outer_of new) (suc i) (length new_links)
  first_new i l e =
      elim (cases i l e) [
        | inl new_one ↦ (let at : i ≡ n = new_one.0 ∙ kept.rows in
            ap (λ (k : Links). k.first_inner) new_one.1
            ∙ sym (ap (λ b. cond b (Some (suc n)) (last_inner (outer_of nodes) (suc n) n)) (not_its_own (outer r) (added_outer shield parent there)) ∙ no_inner (outer_of nodes) inwards (suc n) n (omega arith) _ refl)
            ∙ sym (last_new (suc n)) ∙ (λ j. last_inner (outer_of new) (suc (sym at j)) (sym length_links j)))
        | inr old ↦ old.first
            ∙ (λ j. cond (is_scope (outer r) (suc i)) (Some (suc (kept.rows j))) ((kept.linked.first i old.old old.at ∙ ap (last_inner (outer_of nodes) (suc i)) kept.rows) j))
            ∙ sym (last_new (suc i)) ∙ ap (last_inner (outer_of new) (suc i)) (sym length_links)
      ]

  next_new : (i : ℕ) (l : Links) (s : ℕ) → slice_get new_links i ≡ Some l → outer_of new (suc i) ≡ Some s → l.next_inner ≡ last_inner (outer_of new) s i
  next_new i l s e is =
      elim (cases i l e) [
        | inl new_one ↦ (let at : i ≡ n = new_one.0 ∙ kept.rows in
            ap (λ (k : Links). k.next_inner) new_one.1
            ∙ ap (option_and_then (λ s. last_inner (outer_of nodes) s n)) (sym outer_here ∙ ap (λ j. outer_of new (suc j)) (sym at) ∙ is)
            ∙ sym (last_inner_kept (outer_of nodes) (outer_of new) n outers s n (omega arith)) ∙ ap (last_inner (outer_of new) s) (sym at))
        | inr old ↦ (let le : suc i ≤ n = omega (arith, old.within, kept.rows) in
            old.next ∙ kept.linked.next i old.old s old.at (sym (outers (suc i) le) ∙ is) ∙ sym (last_inner_kept (outer_of nodes) (outer_of new) n outers s i (omega arith)))
      ]

  level_here : level_of new (suc n) ≡ level_in nodes parent
  level_here = ap length (chain_law (parent_of new) inward_new (suc n)) ∙ ap (λ o. suc (length (onward o (chain_by (parent_of new))))) parent_here ∙ by parent there
    where
      by : (o : Option ℕ) → IfSome o (IsAdded nodes) → suc (length (onward o (chain_by (parent_of new)))) ≡ level_in nodes o
      by None h = refl
      by (Some p) h = (let e : length (chain_by (parent_of new) p) ≡ length (chain_by (parent_of nodes) p) = ap length (chain_kept (parent_of nodes) (parent_of new) kept.inward n parents inward_new p h.0 h.1) in omega arith)

  levels_new : (i : ℕ) (l : Links) → slice_get new_links i ≡ Some l → l.level ≡ level_of new (suc i)
  levels_new i l e =
      elim (cases i l e) [
        | inl new_one ↦ (let at : i ≡ n = new_one.0 ∙ kept.rows in
            ap (λ (k : Links). k.level) new_one.1 ∙ sym level_here ∙ ap (λ j. level_of new (suc j)) (sym at))
        | inr old ↦ (let le : suc i ≤ n = omega (arith, old.within, kept.rows) in
            old.level ∙ kept.levels i old.old old.at ∙ sym (ap length (chain_kept (parent_of nodes) (parent_of new) kept.inward n parents inward_new (suc i) (omega arith) le)))
      ]

  pub cancel_before : (t : ℕ) → 1 ≤ t → t ≤ n → cancel_of new t ≡ cancel_of nodes t
  cancel_before t h k = cancel_kept (outer_of nodes) (outer_of new) inwards n outers (outer_inward new inward_new) (own_of nodes) (own_of new) owns t h k

  pub cancel_here : cancel_of new (suc n) ≡ first_cancel
  cancel_here =
      cancel_law (outer_of new) (outer_inward new inward_new) (own_of new) (suc n)
      ∙ ap (λ o. nearer o (option_and_then (cancel_of new) (outer_of new (suc n)))) own_here
      ∙ ap (option_and_then (cancel_of new)) outer_here
      ∙ by (outer r) (added_outer shield parent there)
    where
      by : (o : Option ℕ) → IfSome o (IsAdded nodes) → option_and_then (cancel_of new) o ≡ option_and_then (cancel_of nodes) o
      by None h = refl
      by (Some p) h = cancel_before p h.0 h.1

  cancels_new : (i : ℕ) → i < length new → slice_get (cancels ++ first_cancel ∷ []) i ≡ Some (cancel_of new (suc i))
  cancels_new i lt =
      elim (cases_lt i n) [
        | inl l ↦ get_push cancels first_cancel i (omega (arith, kept.columns)) ∙ kept.first_cancel i l ∙ ap Some (sym (cancel_before (suc i) (omega arith) (omega arith)))
        | inr g ↦ (let at : i ≡ n = omega (arith, push_length nodes r) in
            ap (slice_get (cancels ++ first_cancel ∷ [])) (at ∙ sym kept.columns) ∙ push_here cancels first_cancel ∙ ap Some (sym cancel_here) ∙ ap (λ j. Some (cancel_of new (suc j))) (sym at))
      ]

  named_new : (s : ℕ) (c : FirstCancel) → own_of new s ≡ Some c → c.cause.scope ≡ s
  named_new s c e =
      elim (cases_lt n s) [
        | inr le ↦ kept.named s c (sym (owns s le) ∙ e)
        | inl past ↦ absurd (owned_past s (row new s) refl past c e)
      ]
    where
      owned_past : (s : ℕ) (o : Option ScopeNode) → row new s ≡ o → n < s → (c : FirstCancel) → option_and_then (λ (t : ScopeNode). t.own) (row new s) ≡ Some c → ⊥
      owned_past zero o at h c e = omega arith
      owned_past (suc i) o at h c e =
          elim (cases_eq i n) [
            | inl is ↦ some_none c (sym own_here ∙ ap (λ j. own_of new (suc j)) (sym is) ∙ e)
            | inr ne ↦ some_none c (sym (ap (option_and_then (λ (t : ScopeNode). t.own)) (slice_get_past new i (let l : length new ≡ suc n = push_length nodes r in omega arith))) ∙ e)
          ]

  pub kept_add : AreColumns new new_links (cancels ++ first_cancel ∷ [])
  kept_add = record {
    inward = inward_new;
    rows = length_links ∙ sym (push_length nodes r);
    columns = push_length cancels first_cancel ∙ ap suc kept.columns ∙ sym (push_length nodes r);
    linked = record { first = first_new; next = next_new };
    levels = levels_new;
    named = named_new;
    first_cancel = cancels_new;
  }

pub link_is : (nodes : List ScopeNode) (parent : Option ℕ) (shield : Bool) (opened : ℕ) (around : ℕ) (next o : Option ℕ) → around + 1 ≡ level_in nodes parent → o ≡ outer (new_row parent shield opened)
    → next ≡ option_and_then (λ s. last_inner (outer_of nodes) s (length nodes)) o
    → (let l : Links = record { level = around + 1; first_inner = None; next_inner = next } in l) ≡ record { level = level_in nodes parent; first_inner = None; next_inner = option_and_then (λ s. last_inner (outer_of nodes) s (length nodes)) (outer (new_row parent shield opened)) }
link_is nodes parent shield opened around next o level is at =
    λ i. record { level = level i; first_inner = None; next_inner = (at ∙ ap (option_and_then (λ s. last_inner (outer_of nodes) s (length nodes))) is) i }

-- the columns with the new row, as they are written
module _ (ts nodes told_new : List ScopeNode) (links links_new : List Links) (cancels cancels_new : List (Option FirstCancel)) (is : nodes ≡ ts) (kept : AreColumns nodes links cancels) (parent : Option ℕ) (shield : Bool) (opened : ℕ) (there : IfSome parent (IsAdded ts))
    (around : ℕ) (next o : Option ℕ) (k : Option FirstCancel) (b : Bool) (done : b ≡ true)
    (a : told_new ≡ cond b (nodes ++ new_row parent shield opened ∷ []) nodes)
    (l : links_new ≡ cond b (links ++ (let x : Links = record { level = around + 1; first_inner = None; next_inner = next } in x) ∷ []) links)
    (u : cancels_new ≡ cond b (cancels ++ k ∷ []) cancels)
    (level : around + 1 ≡ level_in ts parent) (at : o ≡ outer (new_row parent shield opened)) (after : next ≡ option_and_then (λ s. last_inner (outer_of ts) s (length ts)) o) (cancel_is : k ≡ option_and_then (cancel_of ts) o) where
  there_told : IfSome parent (IsAdded nodes)
  there_told = subst (λ xs. IfSome parent (IsAdded xs)) (sym is) there

  abbrev the_link : Links
  the_link = record { level = level_in nodes parent; first_inner = None; next_inner = option_and_then (λ s. last_inner (outer_of nodes) s (length nodes)) (outer (new_row parent shield opened)) }

  abbrev the_cancel : Option FirstCancel
  the_cancel = option_and_then (cancel_of nodes) (outer (new_row parent shield opened))

  told_is : told_new ≡ nodes ++ new_row parent shield opened ∷ []
  told_is = a ∙ ap (λ c. cond c (nodes ++ new_row parent shield opened ∷ []) nodes) done

  links_are : links_new ≡ links ++ the_link ∷ []
  links_are =
      l ∙ ap (λ c. cond c (links ++ (let x : Links = record { level = around + 1; first_inner = None; next_inner = next } in x) ∷ []) links) done
      ∙ ap (λ x. links ++ x ∷ []) (link_is nodes parent shield opened around next o (level ∙ ap (λ xs. level_in xs parent) (sym is)) at (after ∙ ap (λ xs. option_and_then (λ s. last_inner (outer_of xs) s (length xs)) o) (sym is)))

  cancels_are : cancels_new ≡ cancels ++ the_cancel ∷ []
  cancels_are = u ∙ ap (λ c. cond c (cancels ++ k ∷ []) cancels) done ∙ ap (λ x. cancels ++ x ∷ []) (cancel_is ∙ ap (λ xs. option_and_then (cancel_of xs) o) (sym is) ∙ ap (option_and_then (cancel_of nodes)) at)

  kept_at : (d : Links) → AreColumns (nodes ++ new_row parent shield opened ∷ []) (relinked (outer (new_row parent shield opened)) links the_link d) (cancels ++ the_cancel ∷ [])
  kept_at d = kept_add nodes links cancels kept parent shield opened there_told d

  kept_columns : (ls : List Links) (d : Links) → ls ≡ relinked (outer (new_row parent shield opened)) links the_link d → AreColumns told_new ls cancels_new
  kept_columns ls d e =
      subst (λ xs. AreColumns xs ls cancels_new) (sym told_is)
      (subst (λ xs. AreColumns (nodes ++ new_row parent shield opened ∷ []) ls xs) (sym cancels_are)
      (subst (λ xs. AreColumns (nodes ++ new_row parent shield opened ∷ []) xs (cancels ++ the_cancel ∷ [])) (sym e) (kept_at d)))

  pub kept_new : (d : Links) (scope : ℕ) (after : List Links) → AreLed links_new o scope after → scope ≡ length ts + 1 → AreColumns told_new after cancels_new
  kept_new d scope after are_led number =
      let count : scope ≡ suc (length links) = number ∙ ap (λ xs. length xs + 1) (sym is) ∙ ap (λ n. n + 1) (sym kept.rows) ∙ omega arith in
      kept_columns after d (are_led d ∙ (λ i. led (links_are i) (at i) (count i) d))

  outer_is_added : (b : Bool) (p : Option ℕ) → IfSome p (IsAdded nodes) → IfSome (cond b None p) (λ q. (1 ≤ q) × (q ≤ length links_new))
  outer_is_added true p added = tt
  outer_is_added false None added = tt
  outer_is_added false (Some q) added = (added.0, omega (arith, added.1, kept.rows, ap length links_are, push_length links the_link))

  -- the scope outside has links
  pub outer_linked : IfSome o (λ q. (1 ≤ q) × (q ≤ length links_new))
  outer_linked = subst (λ q. IfSome q (λ p. (1 ≤ p) × (p ≤ length links_new))) (sym at) (outer_is_added shield parent there_told)
