-- What a line of a script does to the realm of a book, and what is told of it. What a line is answered and what it
-- leaves are those of scripts.
use Rattle.std.specs.Prelude.{ℕ, ℤ, ◌≡◌, ◌⊎◌, Err, List, None, Option, Some, length, pos}
use Rattle.balkreyn_c.specs.Words.{Ask, Command, Do, Line, Memory, Performed, Performs, Realm, Refusal, Retire, Retires, Tells, TimedRealm, line_reply, line_said, realm_after, realm_after_line}
use Rattle.balkreyn_c.specs.{Asking.text_in, Numbers.no_realm, Numbers.refused, Numbers.untold, Timed.times_left}
use Rattle.script_words.specs.declared.commands.Line.TheVariants.{Command as command}
use Rattle.script_words.specs.declared.reply.Reply.TheVariants as reply
use Rattle.balkreyn_c.specs.declared.line.Performed.TheVariants as performed

-- what came of a command that was refused so
abbrev pub not_done : Refusal → Performed
not_done Memory = performed.Memory
not_done r = performed.Answered (reply.Refused r)

-- the command may be refused memory before anything is done
abbrev pub MayWant : Realm → Command → Type 0
MayWant old (Do e) = Tells old e (Err Memory) old
MayWant old (Retire actor) = Retires old actor (Err Memory) old
MayWant old (Ask query) = ⊥

-- memory was refused, and nothing was done
pub record Stopped (old : Realm) (c : Command) (new : Realm) : Type 0 where
  pub wants : MayWant old c
  pub kept : new ≡ old

-- the command was performed and has its reply; or it was, and there was no memory for that; or nothing was done
abbrev pub DidPerform : Realm → Command → Performed → Realm → Type 0
DidPerform old c (performed.Answered said) new = Performs old c new said
DidPerform old c performed.Untold new = new ≡ realm_after old c
DidPerform old c performed.Memory new = Stopped old c new

-- the line was performed, and its reply was told: it is written if there is room
pub record Replies (old : Realm) (said : Line) (answer : ℤ) (new : Realm) (was now : List ℕ) : Type 0 where
  pub number : answer ≡ pos (length (line_reply old said))
  pub written : now ≡ text_in (line_reply old said) was
  pub realm : new ≡ realm_after_line old said

-- the line was performed, and there was no memory for its reply
pub record IsUntold (old : Realm) (said : Line) (answer : ℤ) (new : Realm) (was now : List ℕ) : Type 0 where
  pub number : answer ≡ untold
  pub kept : now ≡ was
  pub realm : new ≡ realm_after_line old said

-- a line may be refused memory
abbrev pub LineWants : Realm → Line → Type 0
LineWants old (command c) = MayWant old c
LineWants old other = ⊥

-- nothing was done
pub record IsStopped (old : Realm) (said : Line) (answer : ℤ) (new : Realm) (was now : List ℕ) : Type 0 where
  pub wants : LineWants old said
  pub number : answer ≡ refused Memory
  pub kept : now ≡ was
  pub realm : new ≡ old

abbrev pub DoesLine : Realm → Line → ℤ → Realm → List ℕ → List ℕ → Type 0
DoesLine old said answer new was now = Replies old said answer new was now ⊎ (IsUntold old said answer new was now ⊎ IsStopped old said answer new was now)

pub record NoLine (answer : ℤ) (new : Option TimedRealm) (was now : List ℕ) : Type 0 where
  pub number : answer ≡ no_realm
  pub none : new ≡ None
  pub kept : now ≡ was

pub record TakesLine (old : TimedRealm) (line : List ℕ) (answer : ℤ) (new : Option TimedRealm) (was now : List ℕ) : Type 0 where
  pub timed : TimedRealm
  pub holds : new ≡ Some timed
  pub does : DoesLine old.realm (line_said line) answer timed.realm was now
  pub times : timed.times.items ≡ times_left timed.realm.history old.times.items

abbrev pub Lines : Option TimedRealm → List ℕ → ℤ → Option TimedRealm → List ℕ → List ℕ → Type 0
Lines None line answer new was now = NoLine answer new was now
Lines (Some old) line answer new was now = TakesLine old line answer new was now
