-- Which closes cover a scope that is not closed: its own, and those of the unclosed scopes around it by the same owner.
use Rattle.std.specs.Prelude.{◌&&◌, ◌+◌, ◌-◌, ◌<◌, ◌==◌, ◌||◌, ◌≡◌, ◌≤◌, ◌⊎◌}
use Rattle.refusal_reasons.specs.{ℕ, BeginClose, Bool, Event, History, IfSome, Legal, Limits, None, Opening, Option, Some, Tick, before, begin_mark}
use Rattle.refusal_reasons.specs.{begins_closing, begun_place, closed, closing_at, closing_place, covers, earlier, earliest, false, have_one_opener, if_after, inner, length, marks, min, nat_lt}
use Rattle.refusal_reasons.specs.{next_unclosed, not, opened_count, opening, option_and_then, option_map_or, outermost, slice_get, true, unclosed_after, unclosed_of}
use Rattle.refusal_reasons.proofs.Lemmas.{◌∙◌, BeginRow, HasUnclosed, IsOpened, and_then_some, ap, arith, before_of_before, begin_close_passed, both_ways, cases_lt, cases_order, cond}
use Rattle.refusal_reasons.proofs.Lemmas.{earliest_found, earliest_kept, earliest_where, eq-eqb, eqb-true, if_some, inl, inr, lacks_begin, legal_before, length-take, live_is_unclosed, lt-ltb}
use Rattle.refusal_reasons.proofs.Lemmas.{ltb-true, opened_after, opened_first, opening_before, opening_since, opening_within, position-Some, refl, same_Some, slice_get_cases, slice_get_within, subst}
use Rattle.refusal_reasons.proofs.Lemmas.{sym, unclosed_around, unclosed_before}
use Rattle.refusal_reasons.proofs.Searched.{first_is, first_is_none, position_found}

both_true : (b c : Bool) → (b && c) ≡ true → (b ≡ true) × (c ≡ true)
both_true true true so = (refl, refl)
both_true true false so = absurd cc
both_true false c so = absurd cc

not_so : (b : Bool) → not b ≡ true → b ≡ false
not_so true so = absurd cc
not_so false so = refl

-- what was opened before a place was opened by an earlier event
earlier_place : (h : History) (n s : ℕ) (o : Opening) → opening (before h n) s ≡ Some o → o.place < n
earlier_place h n s o is = omega (arith, opening_within (before h n) s o is, length-take n h.events)

-- ---- what begins a close that covers the scope

-- the event at place i begins the close of an unclosed scope of the owner, no later than scope s, after s was opened so
pub record Cover (h : History) (s : ℕ) (o : Opening) (i : ℕ) : Type 0 where
  pub actor : ℕ
  pub scope : ℕ
  pub at : slice_get h.events i ≡ Some (BeginClose actor scope)
  pub most : scope ≤ s
  pub unclosed : HasUnclosed h o.actor scope
  pub later : o.place < i

module _ (L : Limits) (h : History) (s : ℕ) (o : Opening) (legal : Legal L h) (is : opening h s ≡ Some o) (unended : closed h s ≡ false) where
  begin_row : (i a t : ℕ) → slice_get h.events i ≡ Some (BeginClose a t) → BeginRow (before h i) a t
  unfolding Legal
  begin_row i a t at = begin_close_passed L (before h i) a t (legal i (BeginClose a t) at)

  the_same : (n : ℕ) (x : Opening) → opening (before h n) s ≡ Some x → x ≡ o
  the_same n x was = let both : Some x ≡ Some o = sym (opening_since h s n x was) ∙ is in cc

  own_cover : (i a t : ℕ) → slice_get h.events i ≡ Some (BeginClose a t) → t ≡ s → Cover h s o i
  own_cover i a t at same =
      let owner = (begin_row i a t at).owner in
      let was : opening (before h i) s ≡ Some owner.opened = ap (opening (before h i)) (sym same) ∙ owner.is in
      record {
        actor = a;
        scope = t;
        at = at;
        most = omega (arith, same);
        unclosed = record { opened = o; is = ap (opening h) same ∙ is; by = refl; unclosed = ap (closed h) same ∙ unended };
        later = omega (arith, earlier_place h i s owner.opened was, ap (λ (x : Opening). x.place) (the_same i owner.opened was));
      }

  around_cover : (i a t : ℕ) (x y : Opening) → slice_get h.events i ≡ Some (BeginClose a t) → t < s → opening (before h i) t ≡ Some x → opening (before h i) s ≡ Some y → x.actor ≡ y.actor → Cover h s o i
  around_cover i a t x y at less outside inside alike =
      let one : y ≡ o = the_same i y inside in
      let later : o.place < i = omega (arith, earlier_place h i s y inside, ap (λ (z : Opening). z.place) one) in
      let by : x.actor ≡ o.actor = alike ∙ ap (λ (z : Opening). z.actor) one in
      let opened = opening_since h t i x outside in
      let live : closed (before h i) t ≡ false = live_is_unclosed L (before h i) t (legal_before L h i legal) (begin_row i a t at).live in
      let unclosed : closed (before h o.place) t ≡ false = ap (λ (g : History). closed g t) (sym (before_of_before h i o.place (omega (arith, later)))) ∙ unclosed_before (before h i) t o.place live in
      record {
        actor = a;
        scope = t;
        at = at;
        most = omega (arith, less);
        unclosed = record {
          opened = x;
          is = opened;
          by = by;
          unclosed = unclosed_around L h s t o legal is unended (record { opened = x; is = opened_first L h t s x o legal opened is less; by = by; unclosed = unclosed });
        };
        later = later;
      }

  by_openers : (i a t : ℕ) (p q : Option Opening) → slice_get h.events i ≡ Some (BeginClose a t) → t < s → opening (before h i) t ≡ p → opening (before h i) s ≡ q → have_one_opener p q ≡ true → Cover h s o i
  by_openers i a t (Some x) (Some y) at less outside inside alike = around_cover i a t x y at less outside inside (eqb-true x.actor y.actor alike)
  by_openers i a t None q at less outside inside alike = absurd cc
  by_openers i a t (Some x) None at less outside inside alike = absurd cc

  by_scope : (i a t : ℕ) (b : Bool) → slice_get h.events i ≡ Some (BeginClose a t) → (t == s) ≡ b → (b || (nat_lt t s && not (closed (before h i) s) && have_one_opener (opening (before h i) t) (opening (before h i) s))) ≡ true → Cover h s o i
  by_scope i a t true at same so = own_cover i a t at (eqb-true t s same)
  by_scope i a t false at other so =
      let first = both_true (nat_lt t s && not (closed (before h i) s)) (have_one_opener (opening (before h i) t) (opening (before h i) s)) so in
      let second = both_true (nat_lt t s) (not (closed (before h i) s)) first.0 in
      by_openers i a t (opening (before h i) t) (opening (before h i) s) at (ltb-true t s second.0) refl refl first.1

  by_event : (i : ℕ) (e : Option Event) → slice_get h.events i ≡ e → option_map_or (begins_closing (before h i) s) e false ≡ true → Cover h s o i
  unfolding covers
  by_event i None at so = absurd cc
  by_event i (Some (BeginClose a t)) at so = by_scope i a t (t == s) at refl so
  by_event i (Some _) at so = absurd cc

  -- each event that begins a close that covers the scope is such
  pub cover_of : (i : ℕ) → closing_at h s i ≡ true → Cover h s o i
  cover_of i so = by_event i (slice_get h.events i) refl so

  covers_by : (i t : ℕ) → t ≤ s → HasUnclosed h o.actor t → o.place < i → covers (before h i) t s ≡ true
  unfolding covers
  covers_by i t most it later = elim (cases_order t s) [
    | inl same ↦ ap (λ b. b || (nat_lt t s && not (closed (before h i) s) && have_one_opener (opening (before h i) t) (opening (before h i) s))) (eq-eqb t s same)
    | inr apart ↦ elim apart [
      | inl less ↦
          let x = it.opened in
          let sooner = earlier_place h o.place t x (opened_first L h t s x o legal it.is is less) in
          let outside = opening_before h t i x it.is (omega (arith, sooner, later)) in
          let inside = opening_before h s i o is later in
          let alike : have_one_opener (opening (before h i) t) (opening (before h i) s) ≡ true = ap (λ p. have_one_opener p (opening (before h i) s)) outside ∙ (ap (have_one_opener (Some x)) inside ∙ eq-eqb x.actor o.actor it.by) in
          ap (λ b. (t == s) || (b && not (closed (before h i) s) && have_one_opener (opening (before h i) t) (opening (before h i) s))) (lt-ltb t s less)
          ∙ (ap (λ b. (t == s) || (not b && have_one_opener (opening (before h i) t) (opening (before h i) s))) (unclosed_before h s i unended)
          ∙ (ap (λ b. (t == s) || b) alike ∙ or_true (t == s)))
      | inr more ↦ absurd (omega (arith, most, more))
    ]
  ]
    where
      or_true : (b : Bool) → (b || true) ≡ true
      or_true true = refl
      or_true false = refl

  -- and each such begins one
  pub is_closing_at : (i a t : ℕ) → slice_get h.events i ≡ Some (BeginClose a t) → t ≤ s → HasUnclosed h o.actor t → o.place < i → closing_at h s i ≡ true
  is_closing_at i a t at most it later = ap (λ (e : Option Event). option_map_or (begins_closing (before h i) s) e false) at ∙ covers_by i t most it later

  -- ---- where the close of a scope began

  begun_here : (i a t : ℕ) → slice_get h.events i ≡ Some (BeginClose a t) → begun_place h.events t ≡ Some i
  begun_here i a t at = position_found (marks begin_mark t) h.events i (BeginClose a t) at (not_so _ (lacks_begin (before h i) t (begin_row i a t at).live)) (eq-eqb t t refl)

begins_it : (t : ℕ) (e : Event) → marks begin_mark t e ≡ true → (a : ℕ) × (e ≡ BeginClose a t)
begins_it t (BeginClose actor scope) so = (actor, ap (BeginClose actor) (eqb-true scope t so))
begins_it t _ so = absurd cc

begun_event : (h : History) (t i : ℕ) → begun_place h.events t ≡ Some i → (a : ℕ) × (slice_get h.events i ≡ Some (BeginClose a t))
begun_event h t i at = elim (slice_get_cases h.events i).1 [
  | inl some ↦
      let it = begins_it t some.0 (subst (λ e. marks begin_mark t e ≡ true) some.3 (position-Some (marks begin_mark t) h.events i some.0 at).1) in
      (it.0, some.2 ∙ ap Some it.1)
  | inr past ↦ absurd (omega (arith, past.0, (position-Some (marks begin_mark t) h.events i (Tick 0) at).0))
]

-- ---- which unclosed scope is next

first_of : (f : ℕ → Option ℕ) (n j t : ℕ) → f j ≡ Some t → j < n → (i : ℕ) × (y : ℕ) × (i ≤ j) × (f i ≡ Some y) × (earliest f n ≡ Some y)
first_of f n j t at within = by (earliest f j) refl
  where
    by : (o : Option ℕ) → earliest f j ≡ o → (i : ℕ) × (y : ℕ) × (i ≤ j) × (f i ≡ Some y) × (earliest f n ≡ Some y)
    by None none = (j, t, omega arith, at, earliest_found f t j n none at within)
    by (Some y) some =
        let it = earliest_where f y j some in
        let gap : (n - j) + j ≡ n = omega (arith, within) in
        (it.0, y, omega (arith, it.1), it.2, ap (earliest f) (sym gap) ∙ earliest_kept f y j (n - j) some)

module _ (h : History) (a : ℕ) where
  number_found : (n t : ℕ) → unclosed_of h a n ≡ Some t → (h.base.scopes + 1 + n ≡ t) × HasUnclosed h a t
  number_found n t found =
      let s = h.base.scopes + 1 + n in
      let entry = and_then_some (λ (o : Opening). cond ((o.actor == a) && not (closed h s)) (Some s) None) (opening h s) t found in
      let test = if_some ((entry.0.actor == a) && not (closed h s)) (Some s) t entry.2 in
      let parts = both_true (entry.0.actor == a) (not (closed h s)) test.0 in
      let same = same_Some s t test.1 in
      (same, subst (HasUnclosed h a) same (record { opened = entry.0; is = entry.1; by = eqb-true entry.0.actor a parts.0; unclosed = not_so (closed h s) parts.1 }))

  found_number : (t : ℕ) → HasUnclosed h a t → (n : ℕ) × (n < opened_count h) × (h.base.scopes + 1 + n ≡ t) × (unclosed_of h a n ≡ Some t)
  found_number t it =
      let there = opened_after h t it.opened it.is in
      let number : ℕ → Option ℕ = λ s. option_and_then (λ (o : Opening). cond ((o.actor == a) && not (closed h s)) (Some s) None) (opening h s) in
      let found : number t ≡ Some t = ap (option_and_then (λ (o : Opening). cond ((o.actor == a) && not (closed h t)) (Some t) None)) it.is
      ∙ (ap (λ b. cond (b && not (closed h t)) (Some t) None) (eq-eqb it.opened.actor a it.by) ∙ ap (λ b. cond (not b) (Some t) None) it.unclosed) in
      (there.0, there.1, there.2, ap number there.2 ∙ found)

  -- the scope, if there is one, is the first of the actor's unclosed ones after those that were passed
  pub record IsNext (passed next : Option ℕ) : Type 0 where
    pub unclosed : (t : ℕ) → next ≡ Some t → HasUnclosed h a t × IfSome passed (λ p. p < t)
    pub least : (t : ℕ) → HasUnclosed h a t → IfSome passed (λ p. p < t) → (n : ℕ) × (next ≡ Some n) × (n ≤ t)

  pub outermost_next : IsNext None (outermost h a)
  unfolding outermost
  outermost_next = record {
    unclosed = λ t found. let it = earliest_where (unclosed_of h a) t (opened_count h) found in ((number_found it.0 t it.2).1, tt);
    least = λ t it after.
        let there = found_number t it in
        let first = first_of (unclosed_of h a) (opened_count h) there.0 t there.3 there.1 in
        (first.1, first.4, omega (arith, first.2, (number_found first.0 first.1 first.3).0, there.2));
  }

  next_after : (p : ℕ) → IsNext (Some p) (next_unclosed h a p)
  unfolding next_unclosed
  next_after p = record {
    unclosed = λ t found.
        let first = earliest_where (unclosed_after h a p) t (opened_count h) found in
        let test = if_some (nat_lt p (h.base.scopes + 1 + first.0)) (unclosed_of h a first.0) t first.2 in
        let it = number_found first.0 t test.1 in
        (it.1, omega (arith, ltb-true p (h.base.scopes + 1 + first.0) test.0, it.0));
    least = λ t it after.
        let there = found_number t it in
        let near : p < h.base.scopes + 1 + there.0 = omega (arith, after, there.2) in
        let here : unclosed_after h a p there.0 ≡ Some t = ap (λ b. cond b (unclosed_of h a there.0) None) (lt-ltb p (h.base.scopes + 1 + there.0) near) ∙ there.3 in
        let first = first_of (unclosed_after h a p) (opened_count h) there.0 t here there.1 in
        let test = if_some (nat_lt p (h.base.scopes + 1 + first.0)) (unclosed_of h a first.0) first.1 first.3 in
        (first.1, first.4, omega (arith, first.2, (number_found first.0 first.1 test.1).0, there.2));
  }

  pub inner_next : (p : ℕ) → HasUnclosed h a p → IsNext (Some p) (inner h p)
  unfolding inner
  inner_next p it =
      let is : inner h p ≡ next_unclosed h a p = ap (option_and_then (λ (o : Opening). next_unclosed h o.actor p)) it.is ∙ ap (λ b. next_unclosed h b p) it.by in
      subst (IsNext (Some p)) (sym is) (next_after p)

-- ---- the earlier of two places

earlier_left : (left right : Option ℕ) (p : ℕ) → left ≡ Some p → (q : ℕ) × (earlier left right ≡ Some q) × (q ≤ p)
earlier_left None right p is = absurd cc
earlier_left (Some l) None p is = (l, refl, omega (arith, same_Some l p is))
earlier_left (Some l) (Some r) p is = (min l r, refl, omega (arith, same_Some l p is))

earlier_right : (left right : Option ℕ) (p : ℕ) → right ≡ Some p → (q : ℕ) × (earlier left right ≡ Some q) × (q ≤ p)
earlier_right left None p is = absurd cc
earlier_right None (Some r) p is = (r, refl, omega (arith, same_Some r p is))
earlier_right (Some l) (Some r) p is = (min l r, refl, omega (arith, same_Some r p is))

earlier_one : (left right : Option ℕ) (q : ℕ) → earlier left right ≡ Some q → (left ≡ Some q) ⊎ (right ≡ Some q)
earlier_one None right q is = inr is
earlier_one (Some l) None q is = inl is
earlier_one (Some l) (Some r) q is =
    let least : min l r ≡ q = same_Some (min l r) q is in
    elim (cases_lt r l) [ inl less ↦ inr (ap Some (omega (arith, least, less))) | inr more ↦ inl (ap Some (omega (arith, least, more))) ]

after_it : (i : ℕ) (place : Option ℕ) (q : ℕ) → if_after i place ≡ Some q → (place ≡ Some q) × (i < q)
after_it i None q is = absurd cc
after_it i (Some p) q is =
    let test = if_some (nat_lt i p) (Some p) q is in
    let same = same_Some p q test.1 in
    (ap Some same, omega (arith, ltb-true i p test.0, same))

-- ---- a walk over the unclosed scopes of the owner, the outermost first

-- the first place so far begins a close that covers the scope, and each other is later or begins that of a scope to come
pub record Seen (h : History) (s : ℕ) (o : Opening) (next first : Option ℕ) : Type 0 where
  passed : Option ℕ
  pub is_next : IsNext h o.actor passed next
  begins : (i : ℕ) → first ≡ Some i → closing_at h s i ≡ true
  leaves : (i : ℕ) → (c : Cover h s o i) → ((p : ℕ) × (first ≡ Some p) × (p ≤ i)) ⊎ IfSome passed (λ p. p < c.scope)

pub none_seen : (h : History) (s : ℕ) (o : Opening) → Seen h s o (outermost h o.actor) None
none_seen h s o = record { passed = None; is_next = outermost_next h o.actor; begins = λ i is. absurd cc; leaves = λ i c. inr tt }

-- a scope further in has a greater number
further : (h : History) (s : ℕ) (o : Opening) (t u : ℕ) (first : Option ℕ) → Seen h s o (Some t) first → inner h t ≡ Some u → t < u
further h s o t u first seen is = ((inner_next h o.actor t (seen.is_next.unclosed t refl).0).unclosed u is).1

-- how many numbers up to scope s are left
abbrev pub numbers_left : ℕ → Option ℕ → ℕ
numbers_left s None = 0
numbers_left s (Some t) = s + 1 - t

fewer_by : (h : History) (s : ℕ) (o : Opening) (t : ℕ) (first next : Option ℕ) → t ≤ s → Seen h s o (Some t) first → inner h t ≡ next → numbers_left s next < numbers_left s (Some t)
fewer_by h s o t first None most seen is = omega (arith, most)
fewer_by h s o t first (Some u) most seen is = omega (arith, most, further h s o t u first seen is)

-- a scope further in leaves fewer
pub fewer_left : (h : History) (s : ℕ) (o : Opening) (t : ℕ) (first next : Option ℕ) → t ≤ s → Seen h s o (Some t) first → next ≡ inner h t → numbers_left s next < numbers_left s (Some t)
fewer_left h s o t first next most seen is = fewer_by h s o t first next most seen (sym is)

module _ (L : Limits) (h : History) (s : ℕ) (o : Opening) (legal : Legal L h) (is : opening h s ≡ Some o) (unended : closed h s ≡ false) where
  pub one_seen : (t : ℕ) (first : Option ℕ) → t ≤ s → Seen h s o (Some t) first → Seen h s o (inner h t) (earlier first (if_after o.place (begun_place h.events t)))
  one_seen t first most seen = record {
    passed = Some t;
    is_next = inner_next h o.actor t unclosed;
    begins = λ i found. elim (earlier_one first own i found) [
      | inl before_it ↦ seen.begins i before_it
      | inr here ↦
          let it = after_it o.place (begun_place h.events t) i here in
          let event = begun_event h t i it.0 in
          is_closing_at L h s o legal is unended i event.0 t event.1 most unclosed it.1
    ];
    leaves = λ i c. elim (seen.leaves i c) [
      | inl sooner ↦ let it = earlier_left first own sooner.0 sooner.1 in inl (it.0, it.1, omega (arith, it.2, sooner.2))
      | inr after ↦
          let least = seen.is_next.least c.scope c.unclosed after in
          let same : t ≡ least.0 = same_Some t least.0 least.1 in
          elim (cases_lt t c.scope) [
            | inl less ↦ inr less
            | inr more ↦
                let this : c.scope ≡ t = omega (arith, more, same, least.2) in
                let begun : begun_place h.events t ≡ Some i = ap (begun_place h.events) (sym this) ∙ begun_here L h s o legal is unended i c.actor c.scope c.at in
                let here : own ≡ Some i = ap (if_after o.place) begun ∙ ap (λ b. cond b (Some i) None) (lt-ltb o.place i c.later) in
                let it = earlier_right first own i here in
                inl (it.0, it.1, it.2)
          ]
    ];
  }
    where
      unclosed : HasUnclosed h o.actor t
      unclosed = (seen.is_next.unclosed t refl).0

      own : Option ℕ
      own = if_after o.place (begun_place h.events t)

  all_seen : (next first : Option ℕ) → Seen h s o next first → ((i : ℕ) → Cover h s o i → (p : ℕ) × (first ≡ Some p) × (p ≤ i)) → first ≡ closing_place h s
  unfolding closing_place
  all_seen next None seen all = sym (first_is_none (closing_at h s) (length h.events) (λ i holds. let it = all i (cover_of L h s o legal is unended i holds) in absurd cc))
  all_seen next (Some p) seen all =
      let here = cover_of L h s o legal is unended p (seen.begins p refl) in
      sym (first_is (closing_at h s) p (length h.events) (seen.begins p refl)
      (λ j holds. let it = all j (cover_of L h s o legal is unended j holds) in omega (arith, same_Some p it.0 it.1, it.2))
      (slice_get_within h.events p (BeginClose here.actor here.scope) here.at))

  -- what is found is there
  pub first_within : (next first : Option ℕ) → Seen h s o next first → IfSome first (λ p. p < length h.events)
  first_within next None seen = tt
  first_within next (Some p) seen = let here = cover_of L h s o legal is unended p (seen.begins p refl) in slice_get_within h.events p (BeginClose here.actor here.scope) here.at

  -- no scope is left
  pub ends_seen : (first : Option ℕ) → Seen h s o None first → first ≡ closing_place h s
  ends_seen first seen = all_seen None first seen (λ i c. elim (seen.leaves i c) [ inl it ↦ it | inr after ↦ let least = seen.is_next.least c.scope c.unclosed after in absurd cc ])

  -- those that are left lie in the scope
  pub passed_seen : (t : ℕ) (first : Option ℕ) → s < t → Seen h s o (Some t) first → first ≡ closing_place h s
  passed_seen t first past seen = all_seen (Some t) first seen (λ i c. elim (seen.leaves i c) [
    | inl it ↦ it
    | inr after ↦ let least = seen.is_next.least c.scope c.unclosed after in absurd (omega (arith, same_Some t least.0 least.1, least.2, c.most, past))
  ])

-- ---- a scope that was never opened

module _ (L : Limits) (h : History) (s : ℕ) (legal : Legal L h) where
  opened_by : (i a t : ℕ) (p q : Option Opening) (b : Bool) → slice_get h.events i ≡ Some (BeginClose a t) → opening (before h i) s ≡ q → (t == s) ≡ b → (b || (nat_lt t s && not (closed (before h i) s) && have_one_opener p q)) ≡ true → IsOpened h s
  unfolding Legal
  opened_by i a t p q true at was same so =
      let owner = (begin_close_passed L (before h i) a t (legal i (BeginClose a t) at)).owner in
      record { opened = owner.opened; is = opening_since h s i owner.opened (ap (opening (before h i)) (sym (eqb-true t s same)) ∙ owner.is) }
  opened_by i a t p (Some y) false at was other so = record { opened = y; is = opening_since h s i y was }
  opened_by i a t p None false at was other so =
      let first = both_true (nat_lt t s && not (closed (before h i) s)) (have_one_opener p None) so in
      absurd (both_ways (have_one_opener p None) (no_opener p) first.1)
    where
      no_opener : (x : Option Opening) → have_one_opener x None ≡ false
      no_opener None = refl
      no_opener (Some y) = refl

  opened_at : (i : ℕ) (e : Option Event) → slice_get h.events i ≡ e → option_map_or (begins_closing (before h i) s) e false ≡ true → IsOpened h s
  unfolding covers
  opened_at i None at so = absurd cc
  opened_at i (Some (BeginClose a t)) at so = opened_by i a t (opening (before h i) t) (opening (before h i) s) (t == s) at refl refl so
  opened_at i (Some _) at so = absurd cc

  -- what was never opened is not closing
  pub never_closing : opening h s ≡ None → None ≡ closing_place h s
  unfolding closing_place
  never_closing none = sym (first_is_none (closing_at h s) (length h.events) (λ i holds. let it = opened_at i (slice_get h.events i) refl holds in absurd (cc (none, it.is))))
