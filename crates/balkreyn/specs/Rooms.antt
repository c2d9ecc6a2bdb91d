-- How much of a realm's room requests take.
use Rattle.std.specs.Prelude.{ℕ, ◌*◌, ◌+◌, ◌-◌, ◌≤◌, false, true}
use Rattle.balkreyn.specs.Words.{FORK_LOAD, Limits, Need, OPEN_LOAD, Room, STEP_LOAD}

-- the load of all that is needed
abbrev pub load_of : Need → ℕ
load_of need = need.scopes * OPEN_LOAD + need.tasks * FORK_LOAD + need.steps * STEP_LOAD

-- all the room of a realm with these limits
abbrev pub room_of : Limits → Room
room_of limits = record { scopes = limits.scopes; tasks = limits.tasks; load = limits.load; is_empty = true }

-- there is so much room
pub record HasRoom (room : Room) (need : Need) : Type 0 where
  pub scopes : need.scopes ≤ room.scopes
  pub tasks : need.tasks ≤ room.tasks
  pub load : load_of need ≤ room.load

-- what is left once so much is taken
abbrev pub room_without : Room → Need → Room
room_without room need = record room { scopes = room.scopes - need.scopes; tasks = room.tasks - need.tasks; load = room.load - load_of need }

-- the same room, with a request in it
abbrev pub in_use : Room → Room
in_use room = record room { is_empty = false }
