-- What a run of a script has read, written and left behind.
use Rattle.std.specs.Prelude.{ℕ, ◌≡◌, List, Option}
use Rattle.scope_script.specs.Terms.{Appends, Consumes, IsAtEnd, Limits, Mode, Realm, Tally}
use Rattle.scope_script.specs.{Sessions.realm_of_script, Sessions.replies_of, Sessions.shown, Streams.AppendsPart, Tallies.tally_of_script}

-- the run came to the end of its script: it read all bytes, wrote exactly the replies to them, and
-- left the realm that they leave
pub record RunsToEnd (unread unread_new written written_new : Option (List ℕ)) (mode : Mode) (L : Limits) (realm : Realm) : Type 0 where
  pub script : List ℕ
  pub read : Consumes unread unread_new script
  pub all : IsAtEnd unread_new
  pub replied : Appends written written_new (shown mode (replies_of L script))
  pub left : realm ≡ realm_of_script L script

-- the run came to the end of its script, of which so many lines were refused
pub record RunsTallied (unread unread_new written written_new : Option (List ℕ)) (mode : Mode) (L : Limits) (realm : Realm) (tally : Tally) : Type 0 where
  pub ends : RunsToEnd unread unread_new written written_new mode L realm
  pub counted : tally ≡ tally_of_script L ends.script

-- the run of this script wrote exactly the replies to it, left the realm that it leaves, and refused so many lines
pub record RunsText (written written_new : Option (List ℕ)) (mode : Mode) (L : Limits) (script : List ℕ) (realm : Realm) (tally : Tally) : Type 0 where
  pub replied : Appends written written_new (shown mode (replies_of L script))
  pub left : realm ≡ realm_of_script L script
  pub counted : tally ≡ tally_of_script L script

-- a fault ended the run: it wrote a beginning of the replies to what it read
pub record RunsPartly (unread unread_new written written_new : Option (List ℕ)) (mode : Mode) (L : Limits) : Type 0 where
  pub script : List ℕ
  pub read : Consumes unread unread_new script
  pub replied : AppendsPart written written_new (shown mode (replies_of L script))
