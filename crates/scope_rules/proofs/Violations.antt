-- A scope is closed out of order exactly if its own close covered another.
use Rattle.std.proofs.Common.{ℕ, ◌&&◌, ◌+◌, ◌<◌, ◌==◌, ◌↔◌, ◌∙◌, ◌≡◌, Bool, None, Option, Some, ap, arith, cond, false, inl, inr, length, nat_lt, not, refl, slice_get, suc, sym, true, zero}
use Rattle.scope_rules.specs.{BeginClose, CoveredAnother, Event, History.History, Opening, Plain, Scopes.joined, Violated, before, begins_for, closed, covers, covers_another, covers_other}
use Rattle.scope_rules.specs.{declared.types.answers.Verdict.TheVariants.NotJoined, has_tasks, have_one_opener, opened_count, opening, option_map_or, scope_numbers, some_below, verdict, violated, violating_at}
use Rattle.scope_rules.proofs.Words.{and_from, and_parts, eq-eqb, eqb-true, ne_eqb, or_cases, slice_get_within, true_from_ne_false}
use Rattle.scope_rules.proofs.{Heights.any_where, Heights.range_any, Innermosts.opened_after, SamePairs.none_below_at}

-- the test holds of some number below
pub below_where : (test : ℕ → Bool) (n : ℕ) → some_below test n ≡ true → (i : ℕ) × (i < n) × (test i ≡ true)
unfolding some_below
below_where test zero found = absurd cc
below_where test (suc n) found = elim (or_cases (some_below test n) (test n) found) [
  | inl sooner ↦ let at = below_where test n sooner in (at.0, omega (arith, at.1), at.2)
  | inr here ↦ (n, omega arith, here)
]

-- and where it holds of one, it does of some
pub below_some : (test : ℕ → Bool) (n i : ℕ) → i < n → test i ≡ true → some_below test n ≡ true
below_some test n i within holds = true_from_ne_false (some_below test n) (λ none. let both : true ≡ false = sym holds ∙ none_below_at test n i none within in cc)

-- ---- the beginning of a close that covers another

covered : (h : History) (s : ℕ) → covers_another h s ≡ true → (t : ℕ) × ((t ≡ s) → ⊥) × (covers h s t ≡ true)
unfolding covers_another
covered h s found =
    let at = any_where (covers_other h s) (scope_numbers h) found in
    let parts = and_parts (not (at.0 == s)) (covers h s at.0) at.1 in
    (at.0, λ same. let both : true ≡ false = sym parts.0 ∙ ap not (eq-eqb at.0 s same) in cc, parts.1)

opened_by : (h : History) (s t : ℕ) (o : Option Opening) → opening h t ≡ o → have_one_opener (opening h s) o ≡ true → (x : Opening) × (opening h t ≡ Some x)
opened_by h s t (Some x) is told = (x, is)
opened_by h s t None is told = none (opening h s) told
  where
    none : (a : Option Opening) → have_one_opener a None ≡ true → (x : Opening) × (opening h t ≡ Some x)
    none None told = absurd cc
    none (Some a) told = absurd cc

-- who is covered and another was opened
covered_opened : (h : History) (s t : ℕ) → ((t ≡ s) → ⊥) → covers h s t ≡ true → (x : Opening) × (opening h t ≡ Some x)
unfolding covers
covered_opened h s t apart told = elim (or_cases (s == t) (nat_lt s t && not (closed h t) && have_one_opener (opening h s) (opening h t)) told) [
  | inl same ↦ absurd (apart (sym (eqb-true s t same)))
  | inr other ↦ opened_by h s t (opening h t) refl (and_parts (nat_lt s t && not (closed h t)) (have_one_opener (opening h s) (opening h t)) other).1
]

covers_some : (h : History) (s t : ℕ) → ((t ≡ s) → ⊥) → covers h s t ≡ true → covers_another h s ≡ true
unfolding covers_another
covers_some h s t apart told =
    let it = covered_opened h s t apart told in
    let number = opened_after h t it.0 it.1 in
    range_any (covers_other h s) (h.base.scopes + 1) (opened_count h) number.0 number.1
    (ap (covers_other h s) number.2 ∙ and_from (not (t == s)) (covers h s t) (ap not (ne_eqb t s apart)) told)

-- ---- the close of a scope

began_for : (h : History) (s i : ℕ) (o : Option Event) → slice_get h.events i ≡ o → option_map_or (begins_for (before h i) s) o false ≡ true → CoveredAnother h s
began_for h s i None is told = absurd cc
began_for h s i (Some (BeginClose actor scope)) is told =
    let parts = and_parts (scope == s) (covers_another (before h i) s) told in
    let same : scope ≡ s = eqb-true scope s parts.0 in
    let it = covered (before h i) s parts.1 in
    record { place = i; actor = actor; began = is ∙ ap (λ n. Some (BeginClose actor n)) same; other = it.0; apart = it.1; covered = it.2 }
began_for h s i (Some _) is told = absurd cc

violated_covered : (h : History) (s : ℕ) → violated h s ≡ true → CoveredAnother h s
unfolding violated
violated_covered h s told =
    let at = below_where (violating_at h s) (length h.events) told in
    began_for h s at.0 (slice_get h.events at.0) refl at.2

covered_violated : (h : History) (s : ℕ) → CoveredAnother h s → violated h s ≡ true
unfolding violated
covered_violated h s it =
    below_some (violating_at h s) (length h.events) it.place (slice_get_within h.events it.place (BeginClose it.actor s) it.began)
    (ap (λ o. option_map_or (begins_for (before h it.place) s) o false) it.began
    ∙ and_from (s == s) (covers_another (before h it.place) s) (eq-eqb s s refl) (covers_some (before h it.place) s it.other it.apart it.covered))

verdict_by : (b c : Bool) → (cond b Violated (cond c NotJoined Plain) ≡ Violated) → b ≡ true
verdict_by true c is = refl
verdict_by false true is = absurd cc
verdict_by false false is = absurd cc

pub violated_law : (h : History) (s : ℕ) → (verdict h s ≡ Violated) ↔ CoveredAnother h s
unfolding verdict
violated_law h s = (
  λ is. violated_covered h s (verdict_by (violated h s) (has_tasks h s && not (joined h s)) is),
  λ it. ap (λ b. cond b Violated (cond (has_tasks h s && not (joined h s)) NotJoined Plain)) (covered_violated h s it),
)
