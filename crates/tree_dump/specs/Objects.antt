-- The objects of a dump, member by member, in the order of their keys.
use Rattle.tree_dump.specs.Terms.{ℕ, Cause, Data, Failed, Items, List, Members, None, Num, Option, ScopeInfo, Some, State, Success, TaskTimes, TaskTold, Text, Unavailable, array, boolean, codes, fault_text, joiner_text, kind_word}
use Rattle.tree_dump.specs.Terms.{member, negative, no_members, null, number, object, option_map, stage_word, state_word, string, text_of, unsigned}
use Rattle.tree_dump.specs.Words.{expiry_word, scope_stage_word}

-- a moment, if there is one
abbrev pub number_or_null : Option ℕ → Data
number_or_null None = null
number_or_null (Some n) = number (unsigned n)

-- the scope whose own cancel it is, and what made that
abbrev pub cause_or_null : Option Cause → Data
cause_or_null None = null
cause_or_null (Some cause) =
    object (member (codes "by") (number (unsigned cause.scope))
    (member (codes "kind") (string (kind_word cause.kind)) no_members))

-- a member more, if the dump tells times
abbrev pub with_more : List ℕ → Option Data → Members → Members
with_more key None rest = rest
with_more key (Some value) rest = member key value rest

-- since when, if the dump tells times: a reading of the clock, or null
abbrev pub with_since : Option (Option ℕ) → Members → Members
with_since since rest = with_more (codes "since") (option_map number_or_null since) rest

-- what can be read of a task: its value, a number or a text, or its fault, or null
abbrev pub result_data : State → Data
result_data Unavailable = null
result_data (Success (Num n)) = number (negative n)
result_data (Success (Text name)) = string (text_of name)
result_data (Failed fault) = string (fault_text fault)

-- a scope, of what there is to say of it, since when it is open, what lies inside it, and its tasks
unfoldable pub scope_object : ScopeInfo → Option (Option ℕ) → Data → Items → Data
scope_object info since inner tasks =
    object (member (codes "cause") (cause_or_null info.cause)
    (member (codes "deadline") (number_or_null info.deadline)
    (member (codes "expiry") (string (expiry_word info.expiry))
    (member (codes "id") (number (unsigned info.scope))
    (member (codes "inner") inner
    (member (codes "joined") (boolean info.joined)
    (member (codes "joiner") (string (joiner_text info.policy))
    (member (codes "owner") (number (unsigned info.owner))
    (member (codes "shield") (boolean info.shield)
    (with_since since
    (member (codes "stage") (string (scope_stage_word info.stage))
    (member (codes "tasks") (array tasks) no_members))))))))))))

-- a task, of what there is to say of it, when it started and ended, and what lies inside it
unfoldable pub task_object : TaskTold → Option TaskTimes → Data → Data
task_object told times inner =
    object (with_more (codes "ended") (option_map (λ t. number_or_null t.ended) times)
    (member (codes "id") (number (unsigned told.task))
    (member (codes "inner") inner
    (member (codes "name") (string (text_of told.label.name))
    (with_more (codes "result") (option_map (λ t. result_data told.state) times)
    (with_since (option_map (λ t. t.since) times)
    (member (codes "stage") (string (stage_word told.stage))
    (member (codes "state") (string (state_word told.state)) no_members))))))))
