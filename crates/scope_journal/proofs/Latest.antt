-- A trail leads from each event of its scope to the one before it.
use Rattle.std.proofs.Common.{[], ℕ, ◌++◌, ◌+◌, ◌<◌, ◌∙◌, ◌∷◌, ◌≡◌, ◌≤◌, Bool, List, None, Option, Some, ap, arith, cond, false, get_or, inl, inr, length, refl, slice_get, subst, suc, sym, true, zero}
use Rattle.scope_journal.specs.{AreTrailsOf, Event, HasTrail, History, IsLatest, IsTrailOf, TrailTable.TrailTable, back, before, flat_map, if_back, if_one, is_of, is_of_at, last_in, option_and_then, option_map_or, places_of}
use Rattle.scope_journal.specs.{range_with_len, trail_of}
use Rattle.scope_journal.proofs.Words.{append-nil, both_ways, cases_order, entry_there, flat_map_more, le-ltb, lt-ltb, slice_get_read, slice_get_within}
use Rattle.scope_journal.proofs.TrailWalks.{ahead, back_below, bound, trail_enough}

-- ---- lists that end alike

no_end : (xs : List ℕ) (a : ℕ) → [] ≡ xs ++ a ∷ [] → ⊥
no_end [] a same = cc
no_end (x ∷ xs) a same = cc

end_same : (xs ys : List ℕ) (a b : ℕ) → xs ++ a ∷ [] ≡ ys ++ b ∷ [] → (xs ≡ ys) × (a ≡ b)
end_same [] [] a b same = (refl, cc)
end_same [] (y ∷ ys) a b same = absurd (no_end ys b cc)
end_same (x ∷ xs) [] a b same = absurd (no_end xs a cc)
end_same (x ∷ xs) (y ∷ ys) a b same = let rest = end_same xs ys a b cc in (let head : x ≡ y = cc in rw head (ap (λ (zs : List ℕ). y ∷ zs) rest.0), rest.1)

-- ---- the places before a place

-- a scope's event is there
pub own_within : (h : History) (s i : ℕ) → is_of_at h s i ≡ true → i < length h.events
own_within h s i own = by (slice_get h.events i) refl own
  where
    by : (o : Option Event) → slice_get h.events i ≡ o → option_map_or (is_of (before h i) s) o false ≡ true → i < length h.events
    by None at own = absurd cc
    by (Some e) at own = slice_get_within h.events i e at

module _ (h : History) (s : ℕ) (links : List ℕ) where
  -- the places of the scope's events before place n
  abbrev pub below : ℕ → List ℕ
  below n = flat_map (λ i. if_one (is_of_at h s i) i) (range_with_len 0 n)

  below_more : (n : ℕ) (b : Bool) → is_of_at h s n ≡ b → below (suc n) ≡ below n ++ if_one b n
  below_more n b is =
      let next : n + 1 ≡ suc n = omega arith in
      let here : 0 + n ≡ n = omega arith in
      ap below (sym next) ∙ (flat_map_more (λ i. if_one (is_of_at h s i) i) 0 n ∙ (ap (λ i. below n ++ if_one (is_of_at h s i) i) here ∙ ap (λ c. below n ++ if_one c n) is))

  below_same : (n : ℕ) → is_of_at h s n ≡ false → below (suc n) ≡ below n
  below_same n other = below_more n false other ∙ append-nil (below n)

  -- what ends with an event of the scope is a walk that has come to its place
  at_end : (n : ℕ) (o : Option ℕ) → ahead links o ≡ below n ++ n ∷ [] → (o ≡ Some n) × (ahead links (back links n) ≡ below n)
  at_end n None same = absurd (no_end (below n) n same)
  at_end n (Some i) same =
      let less = back_below links i in
      let split : (trail_of i links (back links i) ≡ below n) × (i ≡ n) = end_same (trail_of i links (back links i)) (below n) i n same in
      (ap Some split.1, subst (λ k. ahead links (back links k) ≡ below n) split.1 (trail_enough (bound (back links i)) i links (back links i) (omega arith) less ∙ split.0))

  -- nor is there one at n
  none_more : (n j : ℕ) → is_of_at h s n ≡ false → j < suc n → (j < n → is_of_at h s j ≡ false) → is_of_at h s j ≡ false
  none_more n j other within none = elim (cases_order j n) [
    | inl same ↦ ap (is_of_at h s) same ∙ other
    | inr apart ↦ elim apart [ inl less ↦ none less | inr more ↦ absurd (omega (arith, within, more)) ]
  ]

  no_more : (n : ℕ) (o : Option ℕ) → is_of_at h s n ≡ false → IsLatest h s n o → IsLatest h s (suc n) o
  no_more n None other none = λ j within. none_more n j other within (none j)
  no_more n (Some i) other it = (omega (arith, it.0), it.1, λ j after within. none_more n j other within (it.2 j after))

  latest_by : (n : ℕ) (o : Option ℕ) (b : Bool) → is_of_at h s n ≡ b → ahead links o ≡ below (suc n) → (ahead links o ≡ below n → IsLatest h s n o) → IsLatest h s (suc n) o
  latest_by n o true own same sooner =
      let it = at_end n o (same ∙ below_more n true own) in
      subst (IsLatest h s (suc n)) (sym it.0) (omega arith, own, λ j after within. absurd (omega (arith, after, within)))
  latest_by n o false other same sooner = no_more n o other (sooner (same ∙ below_same n other))

  -- a walk that has the places before a place ahead of it has come to the last of them
  latest : (n : ℕ) (o : Option ℕ) → ahead links o ≡ below n → IsLatest h s n o
  latest zero None same = λ j within. absurd (omega (arith, within))
  latest zero (Some i) same = absurd (no_end (trail_of i links (back links i)) i (sym same))
  latest (suc n) o same = latest_by n o (is_of_at h s n) refl same (latest n o)

  reached_by : (n : ℕ) (o : Option ℕ) (i : ℕ) (b : Bool) → is_of_at h s n ≡ b → ahead links o ≡ below (suc n) → is_of_at h s i ≡ true → i < suc n → ((p : Option ℕ) → ahead links p ≡ below n → i < n → ahead links (back links i) ≡ below i) → ahead links (back links i) ≡ below i
  reached_by n o i true here same own within sooner =
      let it = at_end n o (same ∙ below_more n true here) in
      elim (cases_order i n) [
        | inl is ↦ subst (λ k. ahead links (back links k) ≡ below k) (sym is) it.1
        | inr apart ↦ elim apart [ inl less ↦ sooner (back links n) it.1 less | inr more ↦ absurd (omega (arith, within, more)) ]
      ]
  reached_by n o i false other same own within sooner =
      elim (cases_order i n) [
        | inl is ↦ absurd (both_ways (is_of_at h s n) other (ap (is_of_at h s) (sym is) ∙ own))
        | inr apart ↦ elim apart [ inl less ↦ sooner o (same ∙ below_same n other) less | inr more ↦ absurd (omega (arith, within, more)) ]
      ]

  -- it comes to each of the scope's events, and then has those before it ahead
  reached : (n : ℕ) (o : Option ℕ) (i : ℕ) → ahead links o ≡ below n → is_of_at h s i ≡ true → i < n → ahead links (back links i) ≡ below i
  reached zero o i same own within = absurd (omega (arith, within))
  reached (suc n) o i same own within = reached_by n o i (is_of_at h s n) refl same own within (λ p below less. reached n p i below own less)

  -- the trail of the scope ends at its last event
  whole : (last : ℕ) → IsTrailOf h s links last → ahead links (Some last) ≡ below (length h.events)
  unfolding places_of
  whole last it = it.places

  pub last_latest : (last : ℕ) → IsTrailOf h s links last → IsLatest h s (length h.events) (Some last)
  last_latest last it = latest (length h.events) (Some last) (whole last it)

  pub back_latest : (last i : ℕ) → IsTrailOf h s links last → is_of_at h s i ≡ true → IsLatest h s i (back links i)
  back_latest last i it own = latest i (back links i) (reached (length h.events) (Some last) i (whole last it) own (own_within h s i own))

-- ---- what the calls answer

has_trail : (h : History) (t : TrailTable) (s : ℕ) → HasTrail t s → AreTrailsOf h t → IsTrailOf h s t.links (last_in t s)
has_trail h t s has are = entry_there (λ n last. IsTrailOf h n t.links last) t.before t.lasts s 0 has are.trails

pub last_agrees : (h : History) (t : TrailTable) (s last : ℕ) → last ≡ last_in t s → HasTrail t s → AreTrailsOf h t → IsLatest h s (length h.events) (Some last)
last_agrees h t s last is has are = subst (λ i. IsLatest h s (length h.events) (Some i)) (sym is) (last_latest h s t.links (last_in t s) (has_trail h t s has are))

-- the link that was read is the place's
pub link_read : (v t : TrailTable) (xs : List ℕ) (i link : ℕ) → v ≡ t → xs ≡ v.links → i < length xs → link ≡ get_or xs i link → slice_get t.links i ≡ Some link
link_read v t xs i link same links within read = ap (λ (u : TrailTable). slice_get u.links i) (sym same) ∙ (ap (λ ls. slice_get ls i) (sym links) ∙ slice_get_read xs (length xs) i link refl within read)

-- a link that leads back leads to the event before
pub goes_back : (links : List ℕ) (i link : ℕ) → slice_get links i ≡ Some link → link < i → Some link ≡ back links i
goes_back links i link at near = sym (ap (option_and_then (if_back i)) at ∙ ap (λ b. cond b (Some link) None) (lt-ltb link i near))

-- a link that does not lead back leads nowhere
pub not_back : (links : List ℕ) (i link : ℕ) → slice_get links i ≡ Some link → i ≤ link → None ≡ back links i
not_back links i link at far = sym (ap (option_and_then (if_back i)) at ∙ ap (λ b. cond b (Some link) None) (le-ltb link i far))

pub back_agrees : (h : History) (t : TrailTable) (s i : ℕ) (o : Option ℕ) → o ≡ back t.links i → AreTrailsOf h t → HasTrail t s → is_of_at h s i ≡ true → IsLatest h s i o
back_agrees h t s i o is are has own = subst (IsLatest h s i) (sym is) (back_latest h s t.links (last_in t s) i (has_trail h t s has are) own)
