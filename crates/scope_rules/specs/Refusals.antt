-- The numbers, words and lines of refusals.
use Rattle.std.specs.Prelude.{ℕ, ◌++◌, List, codes}
use Rattle.scope_rules.specs.Words.{AlreadyJoined, BadWord, ClockBack, Memory, NoScope, NoTask, NotBound, NotFailed, NotOwner, NotReady, NotSuccess, Refusal, Rejected, Retired, Structure, TooDeep, TooMany, WrongStage, decimal}
use Rattle.scope_rules.specs.declared.types.refusals.Refusal.TheVariants.{Closed, NotJoined, Unavailable}

abbrev pub refusal_number : Refusal → ℕ
refusal_number NoScope = 1
refusal_number NotOwner = 2
refusal_number Closed = 3
refusal_number AlreadyJoined = 4
refusal_number NotJoined = 5
refusal_number Structure = 6
refusal_number NoTask = 7
refusal_number WrongStage = 8
refusal_number ClockBack = 9
refusal_number TooMany = 10
refusal_number NotReady = 11
refusal_number NotBound = 12
refusal_number Unavailable = 13
refusal_number NotSuccess = 14
refusal_number NotFailed = 15
refusal_number Rejected = 16
refusal_number Memory = 17
refusal_number BadWord = 18
refusal_number TooDeep = 19
refusal_number Retired = 20

abbrev pub word_of : Refusal → List ℕ
word_of NoScope = codes "no-scope"
word_of NotOwner = codes "not-owner"
word_of Closed = codes "closed"
word_of AlreadyJoined = codes "already-joined"
word_of NotJoined = codes "not-joined"
word_of Structure = codes "structure"
word_of NoTask = codes "no-task"
word_of WrongStage = codes "wrong-stage"
word_of ClockBack = codes "clock-back"
word_of TooMany = codes "too-many"
word_of NotReady = codes "not-ready"
word_of NotBound = codes "not-bound"
word_of Unavailable = codes "unavailable"
word_of NotSuccess = codes "not-success"
word_of NotFailed = codes "not-failed"
word_of Rejected = codes "rejected"
word_of Memory = codes "memory"
word_of BadWord = codes "bad-word"
word_of TooDeep = codes "too-deep"
word_of Retired = codes "retired"

-- `refused N word`
abbrev pub line_of : Refusal → List ℕ
line_of r = codes "refused " ++ decimal (refusal_number r) ++ codes " " ++ word_of r
