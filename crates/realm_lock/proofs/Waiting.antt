-- What a call keeps that waits under the lock, from turn to turn.
use Rattle.share_ledger.specs.Holders.{Agrees}
use Rattle.realm_lock.specs.{IsBegun, OwnerValue, SeesMore, TokenOf, history_seen}
use Rattle.realm_lock.proofs.Words.{ℕ}

-- the token has seen what it had seen, and then steps of others; the close of scope s goes on
abbrev pub IsClosing : OwnerValue → OwnerValue → ℕ → Type 0
IsClosing old now s = SeesMore old now × Agrees (TokenOf old.actor) old.seen now.seen × IsBegun (history_seen now) old.actor s
