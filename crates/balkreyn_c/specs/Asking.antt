-- What a query is answered, and what it writes.
use Rattle.std.specs.Prelude.{ℕ, ℤ, ◌++◌, Err, List, None, Ok, Option, Result, Some, drop, if◌then◌else◌, length, nat_le}
use Rattle.balkreyn_c.specs.Words.{At, Effective, Fault, History, Num, Refusal, Text, TimedRealm, Value, text_of}
use Rattle.balkreyn_c.specs.Numbers.{no_realm}

-- the number that the history gives, or that there is no realm
abbrev pub asked : Option TimedRealm → (History → ℤ) → ℤ
asked None tell = no_realm
asked (Some timed) tell = tell timed.realm.history

-- what the history makes of what stood there, or that
abbrev pub written : {A : Type 0} → Option TimedRealm → (History → A → A) → A → A
written None write old = old
written (Some timed) write old = write timed.realm.history old

-- a buffer, with the items at its head if there is room for them all
abbrev pub placed : {A : Type 0} → List A → List A → List A
placed items old = if nat_le (length items) (length old) then items ++ drop (length items) old else old

abbrev pub text_in : List ℕ → List ℕ → List ℕ
text_in text old = placed text old

-- the number, if a number is answered
abbrev pub value_written : Result Value Refusal → ℤ → ℤ
value_written (Ok (Num number)) old = number
value_written (Ok (Text name)) old = old
value_written (Err r) old = old

-- the text, if a text is answered
abbrev pub value_text_in : Result Value Refusal → List ℕ → List ℕ
value_text_in (Ok (Num number)) old = old
value_text_in (Ok (Text name)) old = text_in (text_of name) old
value_text_in (Err r) old = old

abbrev pub fault_text_in : Result Fault Refusal → List ℕ → List ℕ
fault_text_in (Ok fault) old = text_in (text_of fault.0) old
fault_text_in (Err r) old = old

-- the moment, if the deadline in effect is one
abbrev pub until_written : Result Effective Refusal → ℕ → ℕ
until_written (Ok (At moment)) old = moment
until_written other old = old
