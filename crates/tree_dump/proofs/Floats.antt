-- A dump has no float.
use Rattle.std.proofs.Common.{[], ℕ, ◌∷◌, ◌≡◌, List, None, Option, Some, false, map, option_map, refl, suc, zero}
use Rattle.tree_dump.specs.{Cause, Clock, Data, Failed, History, Items, Limits, Num, ScopeInfo, State, Success, TaskTimes, TaskTold, Text, Tree.nested, Unavailable, cause_or_null, dump_data, has_float, info, inner}
use Rattle.tree_dump.specs.{items_have_float, items_of, levels, null, number_or_null, option_map_or, outermost, result_data, scope_object, scope_shown, scope_since, task_object, task_shown, task_times, task_told, tasks_of}
use Rattle.tree_dump.specs.{tasks_shown, timed_dump_data}

number_whole : (n : Option ℕ) → has_float (number_or_null n) ≡ false
number_whole None = refl
number_whole (Some n) = refl

cause_whole : (c : Option Cause) → has_float (cause_or_null c) ≡ false
cause_whole None = refl
cause_whole (Some c) = refl

scope_whole : (i : ScopeInfo) (since : Option (Option ℕ)) (inner : Data) (tasks : Items) → has_float inner ≡ false → items_have_float tasks ≡ false → has_float (scope_object i since inner tasks) ≡ false
unfolding scope_object
scope_whole i None inner tasks a b = rw (cause_whole i.cause) (rw (number_whole i.deadline) (rw a (rw b refl)))
scope_whole i (Some reading) inner tasks a b = rw (number_whole reading) (rw (cause_whole i.cause) (rw (number_whole i.deadline) (rw a (rw b refl))))

result_whole : (s : State) → has_float (result_data s) ≡ false
result_whole Unavailable = refl
result_whole (Success (Num n)) = refl
result_whole (Success (Text name)) = refl
result_whole (Failed fault) = refl

task_whole : (t : TaskTold) (times : Option TaskTimes) (inner : Data) → has_float inner ≡ false → has_float (task_object t times inner) ≡ false
unfolding task_object
task_whole t None inner a = rw a refl
task_whole t (Some times) inner a = rw (number_whole times.since) (rw (number_whole times.ended) (rw (result_whole t.state) (rw a refl)))

items_whole : {A : Type 0} (f : A → Data) (xs : List A) → ((x : A) → has_float (f x) ≡ false) → items_have_float (items_of (map f xs)) ≡ false
items_whole f [] each = refl
items_whole f (x ∷ xs) each = rw (each x) (items_whole f xs each)

shown_whole : (by : Option Clock) (h : History) (inside : Option ℕ → Data) → ((place : Option ℕ) → has_float (inside place) ≡ false) → (s : ℕ) → has_float (scope_shown by h inside s) ≡ false
shown_whole by h inside each s = on (info h s)
  where
    task : (k : ℕ) (t : Option TaskTold) → has_float (option_map_or (λ told. task_object told (option_map (λ c. task_times c h told.task told.stage) by) (inside told.inner)) t null) ≡ false
    task k None = refl
    task k (Some t) = task_whole t (option_map (λ c. task_times c h t.task t.stage) by) (inside t.inner) (each t.inner)

    on : (i : Option ScopeInfo) → has_float (option_map_or (λ i. scope_object i (option_map (λ c. scope_since c h i.scope) by) (inside (inner h s)) (tasks_shown by h inside s)) i null) ≡ false
    on None = refl
    on (Some i) = scope_whole i (option_map (λ c. scope_since c h i.scope) by) (inside (inner h s)) (tasks_shown by h inside s) (each (inner h s)) (items_whole (task_shown by h inside) (tasks_of h s) (λ k. task k (task_told h k)))

pub nested_whole : (by : Option Clock) (h : History) (levels : ℕ) (place : Option ℕ) → has_float (nested by h levels place) ≡ false
unfolding nested
nested_whole by h zero place = refl
nested_whole by h (suc levels) None = refl
nested_whole by h (suc levels) (Some s) = shown_whole by h (nested by h levels) (nested_whole by h levels) s

pub dump_whole : (h : History) → has_float (dump_data h) ≡ false
dump_whole h = rw (nested_whole None h levels (outermost h 0)) refl

pub timed_whole : (L : Limits) (c : Clock) (h : History) → has_float (timed_dump_data L c h) ≡ false
timed_whole L c h = rw (number_whole c.now) (rw (nested_whole (Some c) h levels (outermost h 0)) refl)
