-- One accepted event more keeps what a journal keeps, and so does a retirement.
use Rattle.std.proofs.Common.{[], ℕ, ◌+◌, ◌<◌, ◌∷◌, ◌≡◌, ◌≤◌, List, Option, arith, length, length-append, refl}
use Rattle.scope_journal.specs.{Accepts, Event, GREATEST_NUMBER, HasSmallNumbers, History, JournalKeeps.JournalKeeps, LOAD_LIMIT, Legal, Limits, Origin, base_of, begin_mark, end_mark, finish_mark, followed, join_mark, load}
use Rattle.scope_journal.specs.{missing, owed, take_mark, weight}
use Rattle.scope_journal.proofs.Words.{legal_push, load_push, owed_event, stack_within, within_push}

-- with room for its load, an accepted event keeps what is kept
pub kept_push : (L : Limits) (h : History) (e : Event) (capacity more units : ℕ) → JournalKeeps L h capacity units → Accepts L h e → load h + weight e ≤ more → JournalKeeps L (followed h e) more (units + weight e)
kept_push L h e capacity more units kept ok enough = record {
  legal = legal_push L h e kept.legal ok;
  within = within_push L h e kept.within ok;
  covered = omega (arith, kept.covered, owed_event L h e ok, load_push h e, length-append h.events (e ∷ []));
  room = omega (arith, load_push h e, enough);
  counted = omega (arith, kept.counted, load_push h e);
}

-- what is kept has small numbers
pub kept_small : (L : Limits) (h : History) (capacity units : ℕ) → JournalKeeps L h capacity units → L.load ≤ LOAD_LIMIT → HasSmallNumbers h
kept_small L h capacity units kept limit = record {
  events = omega (arith, kept.covered, kept.within.loaded, limit);
  scopes = omega (arith, kept.within.scopes_fit);
  tasks = omega (arith, kept.within.tasks_fit);
}

-- there is room for an event, with room for its load
pub kept_room : (L : Limits) (h : History) (e : Event) (capacity units : ℕ) → JournalKeeps L h capacity units → Accepts L h e → load h + weight e ≤ capacity → length h.events < capacity
kept_room L h e capacity units kept ok enough = omega (arith, kept.covered, enough, owed_event L h e ok)

missing_none : (mark : Event → Option ℕ) (es : List Event) → missing mark [] es ≡ 0
unfolding missing
missing_none mark es = refl

-- a base alone is kept
pub kept_base : (L : Limits) (b : Origin) (capacity : ℕ) → length b.binds ≤ L.load → b.scopes ≤ GREATEST_NUMBER → b.tasks ≤ GREATEST_NUMBER → length b.binds ≤ capacity → JournalKeeps L (record { base = b; events = [] }) capacity (length b.binds)
unfolding Legal load owed
kept_base L b capacity pairs scopes_small tasks_small enough = record {
  legal = λ i e at. absurd cc;
  within = record {
    opened = omega arith;
    forked = omega arith;
    loaded = omega (arith, pairs);
    scopes_fit = omega (arith, scopes_small);
    tasks_fit = omega (arith, tasks_small);
  };
  covered = omega (arith, missing_none join_mark [], missing_none begin_mark [], missing_none end_mark [], missing_none take_mark [], missing_none finish_mark []);
  room = omega (arith, enough);
  counted = omega arith;
}

-- what a retirement leaves is kept, with room for that
pub kept_restart : (L : Limits) (h : History) (capacity units : ℕ) → JournalKeeps L h capacity units → JournalKeeps L (record { base = base_of h; events = [] }) (length (base_of h).binds) (length (base_of h).binds)
unfolding base_of
kept_restart L h capacity units kept =
    kept_base L (base_of h) (length (base_of h).binds) (omega (arith, stack_within h, kept.within.loaded)) kept.within.scopes_fit kept.within.tasks_fit (omega arith)

-- and the room of what was kept is enough
pub restart_room : (L : Limits) (h : History) (capacity units : ℕ) → JournalKeeps L h capacity units → length (base_of h).binds ≤ capacity
unfolding base_of
restart_room L h capacity units kept = omega (arith, stack_within h, kept.room)
