-- The rows of a picture: a task, a scope, a closed scope with all that lies in it, or tasks of one scope that have ended.
use Rattle.std.specs.Prelude.{if◌then◌else◌, ◌&&◌, ◌++◌, ◌+◌, ◌-◌, ◌<◌, ◌==◌, ◌||◌, ◌∷◌, ◌≡◌, ◌≤◌}
use Rattle.run_picture.specs.Words.{[], ℕ, Alike, All, Below, Bool, Class, Columns, Fold, Folded, List, None, Option, Placed, Rest, Row, ScopeRow, Some, State, TaskRow}
use Rattle.run_picture.specs.Words.{count_by, false, is_settled, is_some, length, min, nat_lt, not, option_map_or, slice_get, true}

abbrev pub is_failed : State → Bool
is_failed (State.Failed fault) = true
is_failed _ = false

abbrev pub class_by : Option TaskRow → Option ScopeRow → Class
class_by (Some t) scope = Class.Task (is_failed t.state) (is_settled t.stage)
class_by None (Some s) = Class.Scope (is_some s.closed)
class_by None None = Class.Scope false

-- what node n is for a fold: a task, failed or not, which has ended or not, or a scope, closed or not
abbrev pub class_of : Columns → ℕ → Class
class_of c n = class_by (slice_get c.tasks.items n) (slice_get c.scopes.items (n - length c.tasks.items))

-- one node more; it counts no further than 2^32 - 1, which are more than there can be
abbrev pub one_more : ℕ → ℕ
one_more n = min (n + 1) 4294967295

abbrev pub more_if : Bool → ℕ → ℕ
more_if more n = if more then one_more n else n

abbrev pub counted : Folded → Class → Folded
counted f (Class.Task failed ended) = record { tasks = one_more f.tasks; failed = more_if failed f.failed; unended = more_if (not ended) f.unended; fold = f.fold }
counted f (Class.Scope closed) = f

-- a row by itself
abbrev pub plain : Placed → Row
plain p = record { node = p.node; depth = p.depth; folded = None }

-- the row that a node begins, with nothing else in it yet
abbrev pub begun_with : Placed → Fold → Row
begun_with p fold = record { node = p.node; depth = p.depth; folded = Some (record { tasks = 0; failed = 0; unended = 0; fold = fold }) }

-- the row that a node begins, in a picture that is folded: a closed scope takes in what lies below it, and a task that has
-- ended takes in those behind it in the same scope that ended alike; with many rows a task takes in all behind it there
abbrev pub begun : Bool → Placed → Class → Row
begun full p (Class.Scope closed) = if closed then begun_with p Below else plain p
begun full p (Class.Task failed ended) = if full then begun_with p Rest else (if ended then begun_with p (Alike failed) else plain p)

-- the node is a task, one that failed, and one that has not ended
abbrev pub is_task : Class → Bool
is_task (Class.Task failed ended) = true
is_task (Class.Scope closed) = false

abbrev pub is_failure : Class → Bool
is_failure (Class.Task failed ended) = failed
is_failure (Class.Scope closed) = false

abbrev pub is_unended : Class → Bool
is_unended (Class.Task failed ended) = not ended
is_unended (Class.Scope closed) = false

-- a task that has ended, or a closed scope
abbrev pub is_done : Class → Bool
is_done (Class.Task failed ended) = ended
is_done (Class.Scope closed) = closed

-- a task that ended so
abbrev pub is_ended_as : Bool → Class → Bool
is_ended_as true (Class.Task true true) = true
is_ended_as false (Class.Task false true) = true
is_ended_as _ _ = false

-- the row takes in the node: a closed scope what lies below it, a run of tasks that have ended one more of them, with what
-- lies below it, and the rest of a scope's tasks one more task, with what lies below it
abbrev pub fits : Fold → Row → Placed → Class → Bool
fits Below r p c = nat_lt r.depth p.depth
fits (Alike failed) r p c = (nat_lt r.depth p.depth && is_done c) || ((r.depth == p.depth) && is_ended_as failed c)
fits Rest r p c = nat_lt r.depth p.depth || ((r.depth == p.depth) && is_task c)

-- the row with the node in it, if it is folded and takes the node in
abbrev pub taken_in : Row → Placed → Class → Option Row
taken_in r p c = option_map_or (λ f. if fits f.fold r p c then Some (record { node = r.node; depth = r.depth; folded = Some (counted f c) }) else None) r.folded None

-- the row stands for the nodes, which are of these classes: it is begun by the first, and the others do not lie higher. A row that
-- is not folded has no others. A folded one counts the tasks among the others, those that failed, and those that have not
-- ended. It is a closed scope with what lies below it; or begins with a task that has ended, and all in it has ended or is
-- closed; or begins with a task, and all in it are tasks or lie lower.
pub record IsFoldOf (of : ℕ → Class) (r : Row) (first : Placed) (inside : List Placed) : Type 0 where
  pub node : r.node ≡ first.node
  pub depth : r.depth ≡ first.depth
  pub lower : All (λ p. first.depth ≤ p.depth) inside
  pub alone : r.folded ≡ None → inside ≡ []
  pub tasks : (f : Folded) → r.folded ≡ Some f → f.tasks ≡ count_by (λ p. is_task (of p.node)) inside
  pub failures : (f : Folded) → r.folded ≡ Some f → f.failed ≡ count_by (λ p. is_failure (of p.node)) inside
  pub unended : (f : Folded) → r.folded ≡ Some f → f.unended ≡ count_by (λ p. is_unended (of p.node)) inside
  pub closed : (f : Folded) → r.folded ≡ Some f → f.fold ≡ Below → (of first.node ≡ Class.Scope true) × All (λ p. first.depth < p.depth) inside
  pub ended : (f : Folded) (failed : Bool) → r.folded ≡ Some f → f.fold ≡ Alike failed → (of first.node ≡ Class.Task failed true) × All (λ p. is_done (of p.node) ≡ true) inside
  pub rest : (f : Folded) → r.folded ≡ Some f → f.fold ≡ Rest → (is_task (of first.node) ≡ true) × All (λ p. (nat_lt first.depth p.depth || is_task (of p.node)) ≡ true) inside

-- the rows stand for the nodes, one stretch of them after the other
pub data StandFor (of : ℕ → Class) : List Row → List Placed → Type 0 where
  nothing : StandFor of [] []
  one_behind : {r : Row} {first : Placed} {inside before : List Placed} {rows : List Row} → StandFor of rows before → IsFoldOf of r first inside → StandFor of (rows ++ r ∷ []) (before ++ first ∷ inside)
