-- What a command does to a realm, said in one fact: what it answers by its row of the table, and what it leaves.
use Rattle.std.specs.Prelude.{ℕ, ◌≡◌, Result, true}
use Rattle.scope_checks.specs.Words.{Already, Answers, AnswersOrMemory, Cancelling, Event, EventReply, Origin, Realm, Refusal, after, after_recording, after_retiring, base_of, check_of, is_already, recording, retire_check}
use Rattle.scope_checks.specs.EventReplies.{Performs, after_telling}

-- it answers the value and adds its event, or it is refused what the check refuses and adds nothing
abbrev pub Enters : {A : Type 0} → Realm → Event → A → Result A Refusal → Realm → Type 0
Enters old e value result new = Answers (check_of old.limits old.history e) value result × (new ≡ after old e result)

-- the same; or every check passed, it is refused memory and adds nothing
abbrev pub EntersOrMemory : {A : Type 0} → Realm → Event → A → Result A Refusal → Realm → Type 0
EntersOrMemory old e value result new = AnswersOrMemory (check_of old.limits old.history e) value result × (new ≡ after old e result)

-- it is told whether all was so already, and adds its event if it was not
abbrev pub Notes : Realm → Event → Result Cancelling Refusal → Realm → Type 0
Notes old e result new = Answers (check_of old.limits old.history e) (recording old.history e) result × (new ≡ after_recording old e result)

-- the same, if it adds its event by memory; what was so already takes none
abbrev pub NotesOrMemory : Realm → Event → Result Cancelling Refusal → Realm → Type 0
NotesOrMemory old e result new =
    AnswersOrMemory (check_of old.limits old.history e) (recording old.history e) result
    × (is_already old.history e ≡ true → Answers (check_of old.limits old.history e) Already result)
    × (new ≡ after_recording old e result)

-- whichever command it is: it is told what its event tells, and adds that or nothing
abbrev pub Tells : Realm → Event → Result EventReply Refusal → Realm → Type 0
Tells old e result new = Performs old.limits old.history e result × (new ≡ after_telling old e result)

-- a retirement by the actor answers the base that the history leaves, and leaves it alone
abbrev pub Retires : Realm → ℕ → Result Origin Refusal → Realm → Type 0
Retires old actor result new = AnswersOrMemory (retire_check old.history actor) (base_of old.history) result × (new ≡ after_retiring old result)
