-- Who owns a scope, what lies around it, and whether it is joined, closing or closed.
use Rattle.std.specs.Prelude.{ℕ, ◌&&◌, ◌+◌, ◌==◌, ◌||◌, Bool, List, None, Option, Some, false, if◌then◌else◌, length, nat_lt, not, option_map, slice_get}
use Rattle.scope_rules.specs.Words.{BeginClose, EndClose, Event, Join, Opening, list_any, option_and_then, option_map_or, option_or}
use Rattle.scope_rules.specs.{Chains.chain_by, History.History, History.before, History.forking, History.opened_count, History.opening, Search.latest, Search.some_below}

abbrev pub joins : ℕ → Event → Bool
joins s (Join actor scope) = scope == s
joins s _ = false

-- a Join of scope s is in h
unfoldable pub joined : History → ℕ → Bool
joined h s = list_any (joins s) h.events

abbrev pub ends : ℕ → Event → Bool
ends s (EndClose actor scope) = scope == s
ends s _ = false

-- scope s is closed: its EndClose is in h
unfoldable pub closed : History → ℕ → Bool
closed h s = list_any (ends s) h.events

-- the scope that was opened after n others since the base, if the actor opened it and has not closed it
abbrev pub unclosed_of : History → ℕ → ℕ → Option ℕ
unclosed_of h actor n = option_and_then (λ o. if (o.actor == actor) && not (closed h (h.base.scopes + 1 + n)) then Some (h.base.scopes + 1 + n) else None) (opening h (h.base.scopes + 1 + n))

-- the actor's innermost scope: the latest that it opened and has not closed
unfoldable pub innermost : History → ℕ → Option ℕ
innermost h actor = latest (unclosed_of h actor) (opened_count h)

-- the scope in which the actor, a task, was forked
abbrev pub forked_in : History → ℕ → Option ℕ
forked_in h actor = option_map (λ f. f.scope) (forking h actor)

-- the scope that lies around whatever the actor opens next
unfoldable pub surrounding : History → ℕ → Option ℕ
surrounding h actor = option_or (innermost h actor) (forked_in h actor)

-- what lay around the opening
abbrev pub around : History → Opening → Option ℕ
around h o = surrounding (before h o.place) o.actor

-- the scope around scope s
unfoldable pub parent : History → ℕ → Option ℕ
parent h s = option_and_then (around h) (opening h s)

-- the scope whose cancels reach scope s from outside: the parent, unless s is shielded
unfoldable pub outer : History → ℕ → Option ℕ
outer h s = option_and_then (λ o. if o.options.shield then None else around h o) (opening h s)

-- the level of scope s: how many scopes lie around one another from it outwards, itself included,
-- shields or not
unfoldable pub level : History → ℕ → ℕ
level h s = length (chain_by (parent h) s)

-- the level of what the actor opens next
unfoldable pub next_level : History → ℕ → ℕ
next_level h actor = option_map_or (λ p. level h p + 1) (surrounding h actor) 1

-- the chain of scope s: the scope itself and, if it isn't shielded, the chain of its parent
unfoldable pub chain : History → ℕ → List ℕ
chain h s = chain_by (outer h) s

-- the two openings are of one actor
abbrev pub have_one_opener : Option Opening → Option Opening → Bool
have_one_opener (Some a) (Some b) = a.actor == b.actor
have_one_opener _ _ = false

-- the beginning of the close of scope t, after h, covers scope s: it is t, or t's owner opened it
-- later and has not closed it. Shields do not matter.
unfoldable pub covers : History → ℕ → ℕ → Bool
covers h t s = (t == s) || (nat_lt t s && not (closed h s) && have_one_opener (opening h t) (opening h s))

abbrev pub begins_closing : History → ℕ → Event → Bool
begins_closing h s (BeginClose actor scope) = covers h scope s
begins_closing h s _ = false

abbrev pub closing_at : History → ℕ → ℕ → Bool
closing_at h s i = option_map_or (begins_closing (before h i) s) (slice_get h.events i) false

-- the beginning of a close that covers scope s is in h: s is closing or closed
unfoldable pub closing : History → ℕ → Bool
closing h s = some_below (closing_at h s) (length h.events)
