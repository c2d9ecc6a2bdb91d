-- The second format of a dump: the first one with times, limits, and what counts against them.
use Rattle.tree_dump.specs.Terms.{ℕ, Data, History, Limits, List, Some, codes, compact_text, forked_count, load, member, moment, no_members, number, object, opened_count, outermost, unsigned}
use Rattle.tree_dump.specs.{Ages.Clock, Objects.number_or_null, Tree.levels, Tree.nested}

-- units of load, scopes and tasks
abbrev pub amounts : ℕ → ℕ → ℕ → Data
amounts units scopes tasks =
    object (member (codes "load") (number (unsigned units))
    (member (codes "scopes") (number (unsigned scopes))
    (member (codes "tasks") (number (unsigned tasks)) no_members)))

-- what a realm takes
abbrev pub limits_data : Limits → Data
limits_data L = amounts L.load L.scopes L.tasks

-- what counts against it: the load so far, and the scopes and tasks since the base
abbrev pub used_data : History → Data
used_data h = amounts (load h) (opened_count h) (forked_count h)

-- the tree with since when each scope is open and each task runs or ran, the last reading, the limits and what is used of them
abbrev pub timed_dump_data : Limits → Clock → History → Data
timed_dump_data L c h =
    object (member (codes "format") (number (unsigned 2))
    (member (codes "limits") (limits_data L)
    (member (codes "moment") (number (unsigned (moment h)))
    (member (codes "now") (number_or_null c.now)
    (member (codes "root") (nested (Some c) h levels (outermost h 0))
    (member (codes "used") (used_data h) no_members))))))

-- what a dump of the history is in the second format
unfoldable pub timed_dump_text : Limits → Clock → History → List ℕ
timed_dump_text L c h = compact_text (timed_dump_data L c h)
