-- What actors see bound.
use Rattle.std.specs.Prelude.{[], ℕ, ◌&&◌, ◌++◌, ◌-◌, ◌==◌, ◌∷◌, Bool, List, None, Option, Some, false, fold, if◌then◌else◌, length, nat_le, not, slice_get, suc, take, zero}
use Rattle.scope_rules.specs.Words.{Bind, Binding, Event, Name, Opening, Unbind, Value, list_any, option_map_or, option_or}
use Rattle.scope_rules.specs.{History.History, History.before, History.forking, History.opening, History.scope_numbers, Names.same_name, Scopes.closed, Search.some_below, Values.same_value}

abbrev pub without_last : List Binding → List Binding
without_last bs = take (length bs - 1) bs

-- the actor's own pairs after the event
abbrev pub stacked : ℕ → List Binding → Event → List Binding
stacked actor bs (Bind by pair) = if by == actor then bs ++ pair ∷ [] else bs
stacked actor bs (Unbind by) = if by == actor then without_last bs else bs
stacked actor bs _ = bs

-- the own pairs that the actor begins with: main those of the base, a task none
abbrev pub first_stack : History → ℕ → List Binding
first_stack h actor = if actor == 0 then h.base.binds else []

-- the actor's own pairs: those it bound, less the last one at each unbind
unfoldable pub stack : History → ℕ → List Binding
stack h actor = fold (stacked actor) (first_stack h actor) h.events

-- the value of the pair, if it has the key
abbrev pub value_under : Name → Option Binding → Option Value
value_under key None = None
value_under key (Some pair) = if same_name pair.key key then Some pair.value else None

-- what the actor sees, looking at most n forks back
unfoldable pub bindings_within : History → ℕ → ℕ → List Binding
bindings_within h zero actor = stack h actor
bindings_within h (suc n) actor = option_map_or (λ f. bindings_within (before h f.place) n f.actor) (forking h actor) [] ++ stack h actor

-- what the actor sees: what its forker saw at the fork, then its own pairs. A forker's number is
-- smaller, so there are at most as many forks back as the actor's number says.
unfoldable pub bindings : History → ℕ → List Binding
bindings h actor = bindings_within h actor actor

-- the value of the last pair with the key
unfoldable pub bound_to : Name → List Binding → Option Value
bound_to key [] = None
bound_to key (b ∷ bs) = option_or (bound_to key bs) (if same_name b.key key then Some b.value else None)

abbrev pub same_pair : Option Binding → Option Binding → Bool
same_pair (Some a) (Some b) = same_name a.key b.key && same_value a.value b.value
same_pair _ _ = false

-- the lists differ at place i
abbrev pub differ_at : List Binding → List Binding → ℕ → Bool
differ_at xs ys i = not (same_pair (slice_get xs i) (slice_get ys i))

-- the lists have the same pairs
unfoldable pub same_pairs : List Binding → List Binding → Bool
same_pairs xs ys = (length xs == length ys) && not (some_below (differ_at xs ys) (length xs))

-- the actor's bindings are those at the opening; what it inherited never changes
abbrev pub bound_as_at : History → ℕ → Opening → Bool
bound_as_at h actor o = same_pairs (stack h actor) (stack (before h o.place) actor)

-- the actor's bindings are those at the opening of scope s
unfoldable pub bound_as_opened : History → ℕ → ℕ → Bool
bound_as_opened h actor s = option_map_or (bound_as_at h actor) (opening h s) false

-- the actor opened scope s, has not closed it, and had at least as many own pairs then as now
abbrev pub opened_above : History → ℕ → ℕ → Bool
opened_above h actor s = option_map_or (λ o. (o.actor == actor) && not (closed h s) && nat_le (length (stack h actor)) (length (stack (before h o.place) actor))) (opening h s) false

-- a scope that the actor has not closed was opened while its last pair was there
unfoldable pub holds_last : History → ℕ → Bool
holds_last h actor = list_any (opened_above h actor) (scope_numbers h)
