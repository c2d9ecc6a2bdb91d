-- What the second format adds taken away is the first.
use Rattle.std.proofs.Common.{[], ℕ, ◌∷◌, ◌≡◌, List, None, Option, Some, ap, codes, map, refl, suc, zero}
use Rattle.tree_dump.specs.{Cause, Clock, Data, History, Items, ScopeInfo, TaskTimes, TaskTold, TimedAdds.TimedAdds, Tree.nested, cause_or_null, info, inner, is_added, items_of, items_without, levels, member, moment, no_members}
use Rattle.tree_dump.specs.{null, number, number_or_null, object, option_map_or, outermost, scope_object, scope_shown, scope_since, task_object, task_shown, task_times, task_told, tasks_of, tasks_shown, unsigned, without}

number_stays : (n : Option ℕ) → without is_added (number_or_null n) ≡ number_or_null n
number_stays None = refl
number_stays (Some n) = refl

cause_stays : (c : Option Cause) → without is_added (cause_or_null c) ≡ cause_or_null c
cause_stays None = refl
cause_stays (Some c) = refl

scope_stays : (i : ScopeInfo) (reading : Option ℕ) (inside other : Data) (tasks others : Items) → without is_added inside ≡ other → items_without is_added tasks ≡ others →
    without is_added (scope_object i (Some reading) inside tasks) ≡ scope_object i None other others
unfolding scope_object
scope_stays i reading inside other tasks others a b = rw (cause_stays i.cause) (rw (number_stays i.deadline) (rw a (rw b refl)))

task_stays : (t : TaskTold) (times : TaskTimes) (inside other : Data) → without is_added inside ≡ other → without is_added (task_object t (Some times) inside) ≡ task_object t None other
unfolding task_object
task_stays t times inside other a = rw a refl

items_stay : {A : Type 0} (f g : A → Data) (xs : List A) → ((x : A) → without is_added (f x) ≡ g x) → items_without is_added (items_of (map f xs)) ≡ items_of (map g xs)
items_stay f g [] each = refl
items_stay f g (x ∷ xs) each = rw (each x) (rw (items_stay f g xs each) refl)

module _ (c : Clock) (h : History) (n : ℕ) (inside : (place : Option ℕ) → without is_added (nested (Some c) h n place) ≡ nested None h n place) where
  shown_stays : (k : ℕ) → without is_added (task_shown (Some c) h (nested (Some c) h n) k) ≡ task_shown None h (nested None h n) k
  shown_stays k = on (task_told h k)
    where
      on : (t : Option TaskTold) → without is_added (option_map_or (λ told. task_object told (Some (task_times c h told.task told.stage)) (nested (Some c) h n told.inner)) t null) ≡ option_map_or (λ told. task_object told None (nested None h n told.inner)) t null
      on None = refl
      on (Some t) = task_stays t (task_times c h t.task t.stage) (nested (Some c) h n t.inner) (nested None h n t.inner) (inside t.inner)

  one_stays : (s : ℕ) → without is_added (scope_shown (Some c) h (nested (Some c) h n) s) ≡ scope_shown None h (nested None h n) s
  one_stays s = on (info h s)
    where
      on : (o : Option ScopeInfo) → without is_added (option_map_or (λ i. scope_object i (Some (scope_since c h i.scope)) (nested (Some c) h n (inner h s)) (tasks_shown (Some c) h (nested (Some c) h n) s)) o null)
          ≡ option_map_or (λ i. scope_object i None (nested None h n (inner h s)) (tasks_shown None h (nested None h n) s)) o null
      on None = refl
      on (Some i) = scope_stays i (scope_since c h i.scope) (nested (Some c) h n (inner h s)) (nested None h n (inner h s)) (tasks_shown (Some c) h (nested (Some c) h n) s) (tasks_shown None h (nested None h n) s) (inside (inner h s))
          (items_stay (task_shown (Some c) h (nested (Some c) h n)) (task_shown None h (nested None h n)) (tasks_of h s) shown_stays)

nested_stays : (c : Clock) (h : History) (n : ℕ) (place : Option ℕ) → without is_added (nested (Some c) h n place) ≡ nested None h n place
unfolding nested
nested_stays c h zero place = refl
nested_stays c h (suc n) None = refl
nested_stays c h (suc n) (Some s) = one_stays c h n (nested_stays c h n) s

pub timed_adds : TimedAdds
timed_adds L c h = ap (λ d. object (member (codes "moment") (number (unsigned (moment h))) (member (codes "root") d no_members))) (nested_stays c h levels (outermost h 0))
