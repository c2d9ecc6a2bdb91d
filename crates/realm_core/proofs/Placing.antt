-- How the tickets of a scope's tasks are brought into the tasks' order.
use Rattle.std.proofs.Common.{ℕ, ◌&&◌, ◌+◌, ◌==◌, ◌||◌, ◌∙◌, ◌≡◌, ◌≤◌, Bool, IsPermutation, List, None, Some, ap, arith, count_by, false, inl, inr, length, refl, slice_get, subst, sym, take, true}
use Rattle.realm_core.specs.{AllEnded, ArePlaced, History, IsBrought, IsMissing, MayPlaceOne, TicketValue, got_thread, has_ended, is_ticket_of, one_if, tasks_of}
use Rattle.realm_core.proofs.Words.{IsPermutation-refl, IsPermutation-trans, and_parts, eqb-true, length_permutation, slice_get_within}
use Rattle.realm_core.proofs.TicketCounts.{all_one_more, among_one_more, among_tasks, count_one_more, is_among, task_is, task_once}

-- the tickets of the first i of these tasks are at their places
pub record IsPlacing (h : History) (tasks : List ℕ) (first : ℕ) (old now : List TicketValue) (place i : ℕ) : Type 0 where
  pub same : IsPermutation old now
  pub above : first ≤ place
  pub within : place ≤ length now
  pub each : (k : ℕ) → count_by (is_ticket_of k) (take place now) ≡ count_by (is_ticket_of k) (take first old) + one_if (is_among (take i tasks) k && got_thread h k)
  pub ended : AllEnded (take first old) → AllEnded (take place now)

pub placing_begins : (h : History) (tasks : List ℕ) (first : ℕ) (old : List TicketValue) → first ≤ length old → IsPlacing h tasks first old old first 0
placing_begins h tasks first old within = record {
  same = IsPermutation-refl old;
  above = omega arith;
  within = within;
  each = λ k. omega arith;
  ended = λ all. all;
}

-- ---- one task more

one_if_skipped : (a b g : Bool) → (b ≡ true → g ≡ false) → one_if (a && g) ≡ one_if ((a || b) && g)
one_if_skipped true b g none = refl
one_if_skipped false true g none = ap one_if (sym (none refl))
one_if_skipped false false g none = refl

one_if_taken : (a b g : Bool) → (b ≡ true → (a ≡ false) × (g ≡ true)) → one_if (a && g) + one_if b ≡ one_if ((a || b) && g)
one_if_taken a true g so = let both = so refl in rw (both.0, both.1) refl
one_if_taken true false g so = omega arith
one_if_taken false false g so = refl

module _ (h : History) (s first : ℕ) (old now new : List TicketValue) (place i m : ℕ) (so_far : IsPlacing h (tasks_of h s) first old now place i) (at : slice_get (tasks_of h s) i ≡ Some m) (moved : IsPermutation now new) (before : take place new ≡ take place now) where
  fits : place ≤ length new
  fits = let within = so_far.within in omega (arith, within, length_permutation now new moved)

  skips : got_thread h m ≡ false → IsPlacing h (tasks_of h s) first old new place (i + 1)
  skips never = record {
    same = IsPermutation-trans old now new so_far.same moved;
    above = so_far.above;
    within = fits;
    each = λ k.
        ap (count_by (is_ticket_of k)) before
        ∙ (so_far.each k
        ∙ ap (λ n. count_by (is_ticket_of k) (take first old) + n)
        (one_if_skipped (is_among (take i (tasks_of h s)) k) (m == k) (got_thread h k) (λ same. subst (λ n. got_thread h n ≡ false) (eqb-true m k same) never)
        ∙ ap (λ b. one_if (b && got_thread h k)) (sym (among_one_more (tasks_of h s) i m k at))));
    ended = λ all. subst AllEnded (sym before) (so_far.ended all);
  }

  takes : got_thread h m ≡ true → IsBrought new place m true → IsPlacing h (tasks_of h s) first old new (place + 1) (i + 1)
  takes got brought =
      let t = brought.0 in
      let parts = and_parts (is_ticket_of m t) (has_ended t) brought.2 in
      let number : t.task ≡ m = eqb-true t.task m parts.0 in
      let under = slice_get_within new place t brought.1 in
      record {
        same = IsPermutation-trans old now new so_far.same moved;
        above = let above = so_far.above in omega (arith, above);
        within = omega (arith, under);
        each = λ k.
            count_one_more (is_ticket_of k) new place t brought.1
            ∙ (ap (λ xs. count_by (is_ticket_of k) xs + one_if (is_ticket_of k t)) before
            ∙ (ap (λ n. n + one_if (is_ticket_of k t)) (so_far.each k)
            ∙ (add_assoc (count_by (is_ticket_of k) (take first old)) (one_if (is_among (take i (tasks_of h s)) k && got_thread h k)) (one_if (is_ticket_of k t))
            ∙ ap (λ n. count_by (is_ticket_of k) (take first old) + n)
            (ap (λ n. one_if (is_among (take i (tasks_of h s)) k && got_thread h k) + one_if (n == k)) number
            ∙ (one_if_taken (is_among (take i (tasks_of h s)) k) (m == k) (got_thread h k)
            (λ same. let one = eqb-true m k same in (
              subst (λ n. is_among (take i (tasks_of h s)) n ≡ false) one (task_once h s i m at),
              subst (λ n. got_thread h n ≡ true) one got,
            ))
            ∙ ap (λ b. one_if (b && got_thread h k)) (sym (among_one_more (tasks_of h s) i m k at)))))));
        ended = λ all. all_one_more (λ (x : TicketValue). has_ended x ≡ true) new place t (subst AllEnded (sym before) (so_far.ended all)) brought.1 parts.1;
      }
    where
      add_assoc : (a b c : ℕ) → (a + b) + c ≡ a + (b + c)
      add_assoc a b c = omega arith

  pub placing_goes_on : (next : ℕ) → MayPlaceOne h place m new (Some next) → IsPlacing h (tasks_of h s) first old new next (i + 1)
  placing_goes_on next (inl never) = subst (λ n. IsPlacing h (tasks_of h s) first old new n (i + 1)) (sym never.1) (skips never.0)
  placing_goes_on next (inr got) = subst (λ n. IsPlacing h (tasks_of h s) first old new n (i + 1)) (sym got.1) (takes got.0 got.2)

  pub placing_misses : MayPlaceOne h place m new None → IsMissing h s first old new
  placing_misses missing = record {
    task = m;
    of = task_is h s i m at;
    got = missing.0;
    place = place;
    before =
        ap (count_by (is_ticket_of m)) before
        ∙ (so_far.each m
        ∙ (ap (λ b. count_by (is_ticket_of m) (take first old) + one_if (b && got_thread h m)) (task_once h s i m at) ∙ omega arith));
    absent = missing.1;
  }

pub placing_ends : (h : History) (s first : ℕ) (old now : List TicketValue) (place i : ℕ) → IsPlacing h (tasks_of h s) first old now place i → take i (tasks_of h s) ≡ tasks_of h s → ArePlaced h s first place old now
placing_ends h s first old now place i so_far all = record {
  above = so_far.above;
  within = so_far.within;
  each = λ k. so_far.each k ∙ ap (λ b. count_by (is_ticket_of k) (take first old) + one_if (b && got_thread h k)) (ap (λ ks. is_among ks k) all ∙ among_tasks h s k);
  ended = so_far.ended;
}
