-- That the second format of a dump is the first one with members more.
use Rattle.std.specs.Prelude.{ℕ, ◌||◌, ◌≡◌, Bool, List, bytes_eq, codes, if◌then◌else◌}
use Rattle.tree_dump.specs.Terms.{Data, History, Items, Limits, Members, array, boolean, item, member, no_items, no_members, null, number, object, string}
use Rattle.tree_dump.specs.{Ages.Clock, Timed.timed_dump_data, Tree.dump_data}

-- the key of a member that the second format adds
abbrev pub is_added : List ℕ → Bool
is_added key = bytes_eq key (codes "ended") || bytes_eq key (codes "format") || bytes_eq key (codes "limits") || bytes_eq key (codes "now") || bytes_eq key (codes "result") || bytes_eq key (codes "since") || bytes_eq key (codes "used")

-- a value without the members of such keys, and so each value inside it
abbrev mutual
  pub without : (List ℕ → Bool) → Data → Data
  without drops null = null
  without drops (boolean b) = boolean b
  without drops (number n) = number n
  without drops (string s) = string s
  without drops (array ds) = array (items_without drops ds)
  without drops (object ms) = object (members_without drops ms)

  pub items_without : (List ℕ → Bool) → Items → Items
  items_without drops no_items = no_items
  items_without drops (item d ds) = item (without drops d) (items_without drops ds)

  pub members_without : (List ℕ → Bool) → Members → Members
  members_without drops no_members = no_members
  members_without drops (member key d ms) = if drops key then members_without drops ms else member key (without drops d) (members_without drops ms)

-- what the second format adds taken away is the first
abbrev pub TimedAdds : Type 0
TimedAdds = (L : Limits) (c : Clock) (h : History) → without is_added (timed_dump_data L c h) ≡ dump_data h
