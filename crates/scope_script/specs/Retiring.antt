-- A list of commands with its retirements, and the same without them.
use Rattle.std.specs.Prelude.{[], ℕ, ◌++◌, ◌||◌, ◌∷◌, ◌≡◌, Bool, List, false, if◌then◌else◌, not, true}
use Rattle.script_words.specs.declared.commands.Command.{Command}
use Rattle.scope_script.specs.Terms.{Ask, Do, Limits, Origin, Query, Realm, Refused, Reply, Retire, filter, flat_map, is_let_go, list_any, names_let_go, reply_text, starting, the_start}
use Rattle.scope_script.specs.Replying.{realm_after, reply_to}
use Rattle.scope_rules.specs.declared.types.refusals.Refusal.TheVariants as refusal
use Rattle.script_words.specs.declared.commands.Query.TheVariants as query

-- the query names a scope or a task that was discarded
abbrev pub asks_let_go : Origin → Query → Bool
asks_let_go b (query.State task) = is_let_go b.tasks task
asks_let_go b (query.Stage task) = is_let_go b.tasks task
asks_let_go b (query.Result actor task) = is_let_go b.tasks actor || is_let_go b.tasks task
asks_let_go b (query.Fault actor task) = is_let_go b.tasks actor || is_let_go b.tasks task
asks_let_go b (query.Cause scope) = is_let_go b.scopes scope
asks_let_go b (query.Until scope) = is_let_go b.scopes scope
asks_let_go b (query.Counts scope) = is_let_go b.scopes scope
asks_let_go b (query.Get actor key) = is_let_go b.tasks actor

-- the command names one; what a retirement names does not matter
abbrev pub tells_let_go : Origin → Command → Bool
tells_let_go b (Do e) = names_let_go b e
tells_let_go b (Retire actor) = false
tells_let_go b (Ask asked) = asks_let_go b asked

-- one of the commands names a number that was discarded by then
unfoldable pub tell_let_go : Realm → List Command → Bool
tell_let_go realm [] = false
tell_let_go realm (command ∷ commands) = tells_let_go realm.history.base command || tell_let_go (realm_after realm command) commands

abbrev pub is_retirement : Command → Bool
is_retirement (Retire actor) = true
is_retirement _ = false

abbrev pub without_retirements : List Command → List Command
without_retirements commands = filter (λ command. not (is_retirement command)) commands

-- the replies to commands in turn
unfoldable pub replies_in_turn : Realm → List Command → List Reply
replies_in_turn realm [] = []
replies_in_turn realm (command ∷ commands) = reply_to realm command ∷ replies_in_turn (realm_after realm command) commands

-- the same, those to retirements aside
unfoldable pub replies_aside : Realm → List Command → List Reply
replies_aside realm [] = []
replies_aside realm (command ∷ commands) = if is_retirement command then replies_aside (realm_after realm command) commands else reply_to realm command ∷ replies_aside (realm_after realm command) commands

-- their lines
abbrev pub lines_of : List Reply → List ℕ
lines_of replies = flat_map (λ reply. reply_text reply ++ 10 ∷ []) replies

abbrev pub is_too_many : Reply → Bool
is_too_many (Refused refusal.TooMany) = true
is_too_many _ = false

-- a fresh realm of the limits
abbrev pub fresh : Limits → Realm
fresh L = starting L the_start

-- without its retirements the list meets no limit, and no command behind an accepted retirement names a
-- number that was discarded
pub record RetiresFreely (L : Limits) (commands : List Command) : Type 0 where
  pub enough : list_any is_too_many (replies_in_turn (fresh L) (without_retirements commands)) ≡ false
  pub known : tell_let_go (fresh L) commands ≡ false

-- then the replies are the same with the retirements, their own replies aside
abbrev pub RepliesStay : Type 0
RepliesStay = (L : Limits) (commands : List Command) → RetiresFreely L commands → replies_in_turn (fresh L) (without_retirements commands) ≡ replies_aside (fresh L) commands

-- and so are their lines
abbrev pub ReplyTextStays : Type 0
ReplyTextStays = (L : Limits) (commands : List Command) → RetiresFreely L commands → lines_of (replies_in_turn (fresh L) (without_retirements commands)) ≡ lines_of (replies_aside (fresh L) commands)
