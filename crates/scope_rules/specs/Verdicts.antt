-- How a scope was closed.
use Rattle.std.specs.Prelude.{ℕ, ◌&&◌, ◌==◌, Bool, false, if◌then◌else◌, length, not, slice_get}
use Rattle.scope_rules.specs.Words.{BeginClose, Event, Plain, Verdict, Violated, list_any, option_map_or}
use Rattle.scope_rules.specs.{History.History, History.before, History.scope_numbers, Scopes.covers, Scopes.joined, Search.some_below, Tasks.has_tasks, declared.types.answers.Verdict.TheVariants.NotJoined}

-- the beginning of the close of scope s, after h, covers scope t, which is another
abbrev pub covers_other : History → ℕ → ℕ → Bool
covers_other h s t = not (t == s) && covers h s t

-- the beginning of the close of scope s, after h, covers another scope
unfoldable pub covers_another : History → ℕ → Bool
covers_another h s = list_any (covers_other h s) (scope_numbers h)

abbrev pub begins_for : History → ℕ → Event → Bool
begins_for h s (BeginClose actor scope) = (scope == s) && covers_another h s
begins_for h s _ = false

abbrev pub violating_at : History → ℕ → ℕ → Bool
violating_at h s i = option_map_or (begins_for (before h i) s) (slice_get h.events i) false

-- the close of scope s, begun for itself, covered another scope: scopes were not closed in reverse
unfoldable pub violated : History → ℕ → Bool
violated h s = some_below (violating_at h s) (length h.events)

-- how scope s was closed
unfoldable pub verdict : History → ℕ → Verdict
verdict h s = if violated h s then Violated else (if has_tasks h s && not (joined h s) then NotJoined else Plain)
