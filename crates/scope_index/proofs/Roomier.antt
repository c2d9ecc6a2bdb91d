-- What is kept with more room is kept of the same history.
use Rattle.std.proofs.Common.{ℕ, ◌≡◌, subst, sym}
use Rattle.scope_index.specs.{AreCancelsOf, AreDeadlinesOf, AreForksOf, AreRowsOf, CancelTable, DeadlineTable, ForkTable.ForkTable, HasRoomForEnds, History, IndexTable, IsIndexOf, RowTable}

-- rows, whatever room they have
pub rows_with_room : (h : History) (rows : RowTable) (n m : ℕ) → AreRowsOf h rows → AreRowsOf h (record rows { scope_room = n; task_room = m })
rows_with_room h rows n m are = record {
  scopes_before = are.scopes_before;
  tasks_before = are.tasks_before;
  main = are.main;
  scope_count = are.scope_count;
  task_count = are.task_count;
  scopes = are.scopes;
  tasks = are.tasks;
}

pub scope_rows_roomier : (h : History) (old new : RowTable) → new ≡ record old { scope_room = new.scope_room } → AreRowsOf h old → AreRowsOf h new
scope_rows_roomier h old new is are = subst (AreRowsOf h) (sym is) (rows_with_room h old new.scope_room old.task_room are)

pub task_rows_roomier : (h : History) (old new : RowTable) → new ≡ record old { task_room = new.task_room } → AreRowsOf h old → AreRowsOf h new
task_rows_roomier h old new is are = subst (AreRowsOf h) (sym is) (rows_with_room h old old.scope_room new.task_room are)

-- an open that was refused room, after it made some
pub kept_for_open : (h : History) (old : IndexTable) (rows : RowTable) (forks : ForkTable) (deadlines : DeadlineTable) → AreRowsOf h rows → AreForksOf h forks → AreDeadlinesOf h deadlines → IsIndexOf h old
    → IsIndexOf h (record old { rows = rows; forks = forks; deadlines = deadlines })
kept_for_open h old rows forks deadlines are have last kept = record { rows = are; cancels = kept.cancels; envs = kept.envs; forks = have; deadlines = last; room = kept.room }

-- a fork that was refused it
pub kept_for_fork : (h : History) (old : IndexTable) (rows : RowTable) (cancels : CancelTable) (forks : ForkTable) → AreRowsOf h rows → AreCancelsOf h cancels → HasRoomForEnds h cancels → AreForksOf h forks → IsIndexOf h old
    → IsIndexOf h (record old { rows = rows; cancels = cancels; forks = forks })
kept_for_fork h old rows cancels forks are first_cancel room have kept = record { rows = are; cancels = first_cancel; envs = kept.envs; forks = have; deadlines = kept.deadlines; room = room }
