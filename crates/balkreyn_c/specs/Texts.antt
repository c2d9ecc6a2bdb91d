-- The texts that go out.
use Rattle.std.specs.Prelude.{[], ℕ, ℤ, ◌++◌, ◌∷◌, ◌≡◌, ◌⊎◌, Err, List, None, Ok, Option, Result, Some, length, pos}
use Rattle.balkreyn_c.specs.Words.{AnswersValue, History, Memory, Outcome, Refusal, Reply, TimedRealm, outcome, outcome_check, reply_text}
use Rattle.balkreyn_c.specs.{Asking.text_in, Numbers.no_realm, Numbers.number_of, Numbers.refused, Numbers.untold}
use Rattle.script_words.specs.declared.reply.Reply.TheVariants as reply

-- the line of the reply, with its line feed
abbrev pub reply_line : Reply → List ℕ
reply_line said = reply_text said ++ 10 ∷ []

-- nothing was written
pub record Silent (number answer : ℤ) (old new : List ℕ) : Type 0 where
  pub number_is : answer ≡ number
  pub kept : new ≡ old

-- the text was written if there is room, and its length is answered
pub record Writes (text : List ℕ) (answer : ℤ) (old new : List ℕ) : Type 0 where
  pub number : answer ≡ pos (length text)
  pub written : new ≡ text_in text old

-- the text was written if there is room; or there was no memory for it
abbrev pub WritesReply : List ℕ → ℤ → List ℕ → List ℕ → Type 0
WritesReply text answer old new = Writes text answer old new ⊎ Silent untold answer old new

-- the text was written if there is room; or memory was refused
abbrev pub WritesOrNot : List ℕ → ℤ → List ℕ → List ℕ → Type 0
WritesOrNot text answer old new = Writes text answer old new ⊎ Silent (refused Memory) answer old new

-- the same of a text of the realm
abbrev pub Shows : Option TimedRealm → (TimedRealm → List ℕ) → ℤ → List ℕ → List ℕ → Type 0
Shows None text answer old new = Silent no_realm answer old new
Shows (Some timed) text answer old new = WritesOrNot (text timed) answer old new

abbrev pub outcome_line : Outcome → List ℕ
outcome_line o = reply_line (reply.Outcome o)

abbrev pub outcome_line_in : Result Outcome Refusal → List ℕ → List ℕ
outcome_line_in (Ok o) old = text_in (outcome_line o) old
outcome_line_in (Err r) old = old

-- the line of what the join answered; or its refusal, or want of memory
pub record TellsLine (h : History) (scope : ℕ) (answer : ℤ) (old new : List ℕ) : Type 0 where
  pub reply : Result Outcome Refusal
  pub tells : AnswersValue (outcome_check h scope) (outcome h scope) reply
  pub number : answer ≡ number_of (λ o. pos (length (outcome_line o))) reply
  pub text : new ≡ outcome_line_in reply old

abbrev pub OutcomeLine : Option TimedRealm → ℕ → ℤ → List ℕ → List ℕ → Type 0
OutcomeLine None scope answer old new = Silent no_realm answer old new
OutcomeLine (Some timed) scope answer old new = TellsLine timed.realm.history scope answer old new
