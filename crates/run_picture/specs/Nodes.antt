-- The tasks and the scopes of a run as nodes of one tree: first the tasks by number, then the scopes.
use Rattle.std.specs.Prelude.{◌&&◌, ◌+◌, ◌-◌, ◌<◌, ◌==◌, ◌≡◌, ◌≤◌, if◌then◌else◌}
use Rattle.run_picture.specs.Words.{ℕ, Columns, Forest, List, None, Option, Placed, ScopeRow, Some, TaskRow, cond, count_by, get_or, length, nat_lt, option_map_or, slice_get, suc, zero}

-- the row of task k and of scope s, if there is one
abbrev pub task_at : Columns → ℕ → Option TaskRow
task_at c k = if nat_lt c.tasks_before k then slice_get c.tasks.items (k - c.tasks_before - 1) else None

abbrev pub scope_at : Columns → ℕ → Option ScopeRow
scope_at c s = if nat_lt c.scopes_before s then slice_get c.scopes.items (s - c.scopes_before - 1) else None

abbrev pub node_count : Columns → ℕ
node_count c = length c.tasks.items + length c.scopes.items

-- where node n happened: the task was forked or the scope was opened there
abbrev pub node_place : Columns → ℕ → ℕ
node_place c n =
    if nat_lt n (length c.tasks.items) then option_map_or (λ row. row.forked.place) (slice_get c.tasks.items n) 0
    else option_map_or (λ row. row.opened.place) (slice_get c.scopes.items (n - length c.tasks.items)) 0

-- it is a node that happened before the place
pub record IsEarlier (c : Columns) (n place : ℕ) : Type 0 where
  pub within : n < node_count c
  pub sooner : node_place c n < place

-- the keys of the first n nodes: of each the node above it, which happened earlier, or the number of nodes
pub record AreKeys (keys : List ℕ) (c : Columns) (n : ℕ) : Type 0 where
  pub long : length keys ≡ n
  pub small : (i : ℕ) → i < n → get_or keys i 0 ≤ node_count c
  pub sooner : (i : ℕ) → i < n → get_or keys i 0 < node_count c → node_place c (get_or keys i 0) < node_place c i

-- the last node below i with the key
abbrev pub latest : List ℕ → ℕ → ℕ → Option ℕ
latest keys key zero = None
latest keys key (suc i) = if get_or keys i 0 == key then Some i else latest keys key i

-- by key the last one of the first n nodes that has it, and by node the one before it with the same key
pub record IsForestOf (forest : Forest) (keys : List ℕ) (n : ℕ) : Type 0 where
  pub wide : length forest.last.items ≡ length keys + 1
  pub long : length forest.before.items ≡ n
  pub lasts : (key : ℕ) → key < length keys + 1 → get_or forest.last.items key None ≡ latest keys key n
  pub befores : (i : ℕ) → i < n → get_or forest.before.items i None ≡ latest keys (get_or keys i 0) i

-- how often node n is placed
abbrev pub times : ℕ → List Placed → ℕ
times n placed = count_by (λ p. p.node == n) placed

-- how often it is one of the first i nodes with the key
abbrev pub times_below : List ℕ → ℕ → ℕ → ℕ → ℕ
times_below keys key i n = cond (nat_lt n i && (get_or keys n 0 == key)) 1 0

-- of so many nodes each is placed exactly once, and nothing else is
abbrev pub IsOncePlaced : List Placed → ℕ → Type 0
IsOncePlaced placed count = (n : ℕ) → times n placed ≡ cond (nat_lt n count) 1 0
