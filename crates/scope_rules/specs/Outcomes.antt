-- What a join answers, decided by what is before it.
use Rattle.std.specs.Prelude.{ℕ, ◌&&◌, Bool, None, Option, Some, if◌then◌else◌, length, option_map, slice_get}
use Rattle.scope_rules.specs.Words.{Completion, Event, Opening, Outcome, option_and_then}
use Rattle.scope_rules.specs.{Answers.Readable, Answers.answer_of, Answers.is_available, Answers.listing_by, Answers.values_by, Cancels.cause, Completions.completion_of, History.History, History.before, History.opening}
use Rattle.scope_rules.specs.{Joining.has_failed, Joining.has_succeeded, Nests.tasks_of, Scopes.joins, Search.earliest, Tasks.state}

-- the completion of a task of scope s that the event is, if the test holds of it and it can be read
abbrev pub readable : (Completion → Bool) → History → ℕ → Event → Option Completion
readable test h s e = option_and_then (λ d. if test d && is_available (state h d.task) then Some d else None) (completion_of h s e)

abbrev pub readable_at : (Completion → Bool) → History → ℕ → ℕ → Option Completion
readable_at test h s i = option_and_then (readable test h s) (slice_get h.events i)

-- the first completion of a task of scope s of which the test holds, of those that can be read
abbrev pub first_read : (Completion → Bool) → History → ℕ → Option Completion
first_read test h s = earliest (readable_at test h s) (length h.events)

-- what can be read of the tasks of scope s
abbrev pub readable_of : History → ℕ → Readable
readable_of h s = record {
  failure = first_read has_failed h s;
  success = first_read has_succeeded h s;
  values = values_by (state h) (tasks_of h s);
  listing = listing_by (state h) (tasks_of h s);
}

-- what a join of scope s, opened so, answers after h
unfoldable pub outcome_of : History → ℕ → Opening → Outcome
outcome_of h s o = answer_of (readable_of h s) s o.policy o.options.expiry (cause h s)

abbrev pub joining_at : History → ℕ → ℕ → Option ℕ
joining_at h s i = option_and_then (λ e. if joins s e then Some i else None) (slice_get h.events i)

-- the place of the Join of scope s
unfoldable pub joining : History → ℕ → Option ℕ
joining h s = earliest (joining_at h s) (length h.events)

-- what the join of scope s answered: decided by what stood before it, whatever came later
unfoldable pub outcome : History → ℕ → Option Outcome
outcome h s = option_and_then (λ i. option_map (outcome_of (before h i) s) (opening h s)) (joining h s)
