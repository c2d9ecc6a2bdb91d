-- Where a scope takes a step: once at most, and by an event of its own.
use Rattle.std.proofs.Common.{ℕ, ◌<◌, ◌∙◌, ◌≡◌, ◌≤◌, ◌⊎◌, Bool, List, None, Option, Some, ap, arith, cond, false, get_or, inl, inr, is_some, length, nat_lt, not, refl, slice_get, subst, sym, take, true}
use Rattle.realm_state.specs.{Accepts, BeginClose, EndClose, Event, History, IsLatest, Join, Legal, Limits, Opening, Step, Tick, before, begin_mark, closed, is_of, is_of_at, joined, list_any, marks, opening, option_map_or}
use Rattle.realm_state.specs.{position, position_or_len, row_check, takes}
use Rattle.realm_state.proofs.Words.{IsOpened, IsOwner, begin_close_passed, both_ways, cases_lt, cases_order, checks_at, end_close_passed, eqb-true, false_from_ne_true, get_or_from_slice_get, get_take, lacks_begin, le-ltb, lt-ltb}
use Rattle.realm_state.proofs.Words.{none_where, not_refused, opened_some, opening_since, own_within, owner_passed, passes_at_first, position_or_len_is, slice_get-get_or, slice_get_within}
use Rattle.realm_state.specs.declared.steps.Step.TheVariants as step

-- ---- the first that passes

first_passes : (p : Event → Bool) (es : List Event) (i : ℕ) (e : Event) → slice_get es i ≡ Some e → list_any p (take i es) ≡ false → p e ≡ true → position p es ≡ Some i
first_passes p es i e at none holds =
    let within = slice_get_within es i e at in
    let earlier : (k : ℕ) → k < i → p (get_or es k e) ≡ false = λ k less. none_where p (take i es) k (get_or es k e) none (get_take es i k less ∙ slice_get-get_or es k e (omega (arith, less, within))) in
    let is = position_or_len_is p es i e (omega (arith, within)) earlier (λ here. ap p (get_or_from_slice_get es i e e at) ∙ holds) in
    ap (λ m. cond (nat_lt m (length es)) (Some m) None) is ∙ ap (λ b. cond b (Some i) None) (lt-ltb i (length es) within)

none_passes : (p : Event → Bool) (es : List Event) → ((i : ℕ) (e : Event) → slice_get es i ≡ Some e → p e ≡ false) → position p es ≡ None
none_passes p es none =
    let n = position_or_len p es in
    elim (cases_lt n (length es)) [
      | inl within ↦ absurd (both_ways (p (get_or es n (Tick 0))) (none n (get_or es n (Tick 0)) (slice_get-get_or es n (Tick 0) within)) (passes_at_first p es (Tick 0) within))
      | inr past ↦ ap (λ b. cond b (Some n) None) (le-ltb n (length es) past)
    ]

-- ---- a scope takes a step once at most, and only if it was opened

-- what an accepted step finds
record FindsStep (h : History) (s : ℕ) (t : Step) : Type 0 where
  untaken : list_any (takes t s) h.events ≡ false
  opened : IsOpened h s

owned : (h : History) (a s : ℕ) → IsOwner h a s → IsOpened h s
owned h a s owner = record { opened = owner.opened; is = owner.is }

join_finds : (L : Limits) (h : History) (a s : ℕ) → Accepts L h (Join a s) → FindsStep h s step.Join
unfolding row_check joined
join_finds L h a s ok = record {
  untaken = not_refused _ _ (checks_at _ 4 _ ok.passed refl);
  opened = owned h a s (owner_passed h a s (checks_at _ 2 _ ok.passed refl));
}

begin_finds : (L : Limits) (h : History) (a s : ℕ) → Accepts L h (BeginClose a s) → FindsStep h s step.BeginClose
begin_finds L h a s ok =
    let row = begin_close_passed L h a s ok in
    record { untaken = lacked (list_any (marks begin_mark s) h.events) (lacks_begin h s row.live); opened = owned h a s row.owner }
  where
    lacked : (b : Bool) → not b ≡ true → b ≡ false
    lacked true lacks = absurd cc
    lacked false lacks = refl

end_finds : (L : Limits) (h : History) (a s : ℕ) → Accepts L h (EndClose a s) → FindsStep h s step.EndClose
unfolding closed
end_finds L h a s ok = let row = end_close_passed L h a s ok in record { untaken = row.unclosed; opened = owned h a s row.owner }

-- an accepted event by which a scope takes a step is its first, of an opened scope
finds : (L : Limits) (h : History) (t : Step) (s : ℕ) (e : Event) → Accepts L h e → takes t s e ≡ true → FindsStep h s t
finds L h step.Join s (Join actor scope) ok is = subst (λ n. FindsStep h n step.Join) (eqb-true scope s is) (join_finds L h actor scope ok)
finds L h step.BeginClose s (BeginClose actor scope) ok is = subst (λ n. FindsStep h n step.BeginClose) (eqb-true scope s is) (begin_finds L h actor scope ok)
finds L h step.EndClose s (EndClose actor scope) ok is = subst (λ n. FindsStep h n step.EndClose) (eqb-true scope s is) (end_finds L h actor scope ok)
finds L h _ s _ ok is = absurd cc

-- what a test for no opening says
pub never_opened : (h : History) (s : ℕ) (o : Option Opening) (none : Bool) → o ≡ opening h s → is_some o ≡ not none → none ≡ true → opening h s ≡ None
never_opened h s None none is test so = sym is
never_opened h s (Some x) none is test so = absurd (cc (test, so))

pub is_opened : (h : History) (s : ℕ) (o : Option Opening) (none : Bool) → o ≡ opening h s → is_some o ≡ not none → none ≡ false → IsOpened h s
is_opened h s o none is test so = opened_some h s o (sym is) (test ∙ ap not so)

module _ (h : History) (t : Step) (s : ℕ) where
  -- so it stands at the first place of the step
  pub step_found : (L : Limits) (i : ℕ) (e : Event) → Legal L h → slice_get h.events i ≡ Some e → takes t s e ≡ true → Some i ≡ position (takes t s) h.events
  unfolding Legal
  step_found L i e legal at is =
      let it = finds L (before h i) t s e (legal i e at) is in
      sym (first_passes (takes t s) h.events i e at it.untaken is)

  none_is : ((i : ℕ) (e : Event) → slice_get h.events i ≡ Some e → takes t s e ≡ false) → None ≡ position (takes t s) h.events
  none_is none = sym (none_passes (takes t s) h.events none)

  -- what was never opened takes none
  pub never_taken : (L : Limits) → Legal L h → opening h s ≡ None → None ≡ position (takes t s) h.events
  unfolding Legal
  never_taken L legal none = none_is (λ i e at. false_from_ne_true (takes t s e) (λ is. let it = (finds L (before h i) t s e (legal i e at) is).opened in absurd (cc (none, opening_since h s i it.opened it.is))))

  own_by : (g : History) (u : Step) (e : Event) → takes u s e ≡ true → is_of g s e ≡ true
  own_by g step.Join (Join actor scope) is = is
  own_by g step.BeginClose (BeginClose actor scope) is = is
  own_by g step.EndClose (EndClose actor scope) is = is
  own_by g _ _ is = absurd cc

  -- an event that is not the scope's is no step of it
  not_own : (i : ℕ) (e : Event) → slice_get h.events i ≡ Some e → is_of_at h s i ≡ false → takes t s e ≡ false
  not_own i e at other =
      false_from_ne_true (takes t s e)
      (λ is. both_ways (is_of_at h s i) other (ap (λ (o : Option Event). option_map_or (is_of (before h i) s) o false) at ∙ own_by (before h i) t e is))

  -- ---- the walk back along its own events

  -- no event so far was the step, and the next is its own before those
  pub record Walked (next : Option ℕ) : Type 0 where
    since : ℕ
    latest : IsLatest h s since next
    untaken : (i : ℕ) (e : Event) → since ≤ i → slice_get h.events i ≡ Some e → takes t s e ≡ false

  pub walk_begins : (next : Option ℕ) → IsLatest h s (length h.events) next → Walked next
  walk_begins next latest = record {
    since = length h.events;
    latest = latest;
    untaken = λ i e past at. absurd (omega (arith, past, slice_get_within h.events i e at));
  }

  pub walk_own : (i : ℕ) → Walked (Some i) → is_of_at h s i ≡ true
  walk_own i walked = walked.latest.1

  pub walk_within : (i : ℕ) → Walked (Some i) → i < length h.events
  walk_within i walked = own_within h s i (walk_own i walked)

  pub walk_on : (i : ℕ) (e : Event) (next : Option ℕ) → Walked (Some i) → slice_get h.events i ≡ Some e → takes t s e ≡ false → IsLatest h s i next → Walked next
  walk_on i e next walked at not_it latest = record {
    since = i;
    latest = latest;
    untaken = λ j f past there. elim (cases_order j i) [
      | inl same ↦ let one : f ≡ e = cc in ap (takes t s) one ∙ not_it
      | inr apart ↦ elim apart [
        | inl less ↦ absurd (omega (arith, past, less))
        | inr more ↦ between j f there more (cases_lt j walked.since)
      ]
    ];
  }
    where
      between : (j : ℕ) (f : Event) → slice_get h.events j ≡ Some f → i < j → (j < walked.since) ⊎ (walked.since ≤ j) → takes t s f ≡ false
      between j f there more (inl less) = not_own j f there (walked.latest.2 j more less)
      between j f there more (inr past) = walked.untaken j f past there

  pub walk_ends : Walked None → None ≡ position (takes t s) h.events
  walk_ends walked = none_is (λ i e at. by i e at (cases_lt i walked.since))
    where
      by : (i : ℕ) (e : Event) → slice_get h.events i ≡ Some e → (i < walked.since) ⊎ (walked.since ≤ i) → takes t s e ≡ false
      by i e at (inl less) = not_own i e at (walked.latest i less)
      by i e at (inr past) = walked.untaken i e past at
