-- A pool's state, as contracts see it, and what each call makes of it.
use Rattle.std.specs.Prelude.{[], ℕ, ◌&&◌, ◌++◌, ◌+◌, ◌-◌, ◌<◌, ◌^◌, ◌||◌, ◌∷◌, ◌≡◌, ◌≤◌, ◌⊎◌, Bool, IsSome, List, None, Option, Some, false, if◌then◌else◌, is_some, length, min, nat_lt, not, option_to_list, true}
use Rattle.thread_pool.specs.Words.{All, Answer, Next}
use Rattle.thread_pool.specs.declared.state.{SubmitError.SubmitError, Wish.Wish}
use Rattle.thread_pool.specs.declared.state.Answer.TheVariants as answer
use Rattle.thread_pool.specs.declared.state.SubmitError.TheVariants as refused
use Rattle.thread_pool.specs.declared.state.Next.TheVariants as next
use Rattle.thread_pool.specs.declared.state.Wish.TheVariants as wish

-- how many threads may rest and how many do; the items that nobody has taken, the oldest first, and whether a thread
-- was called for them that has not come yet; how many forks wait for a thread, were made one, and are to be told that
-- none could be; the threads that ended and are to be joined; and whether the pool is closed
pub record Books (O : Type 0) : Type 0 where
  pub keep : ℕ
  pub resting : ℕ
  pub queue : List O
  pub called : Bool
  pub wanted : ℕ
  pub made : ℕ
  pub unmade : ℕ
  pub ended : List ℕ
  pub closed : Bool

abbrev pub books : {O : Type 0} → ℕ → ℕ → List O → Bool → ℕ → ℕ → ℕ → List ℕ → Bool → Books O
books keep resting queue called wanted made unmade ended closed = record { keep = keep; resting = resting; queue = queue; called = called; wanted = wanted; made = made; unmade = unmade; ended = ended; closed = closed }

-- how many more of each there is room for
pub record Room : Type 0 where
  pub resting : ℕ
  pub queue : ℕ
  pub made : ℕ
  pub ended : ℕ

abbrev pub room : ℕ → ℕ → ℕ → ℕ → Room
room resting queue made ended = record { resting = resting; queue = queue; made = made; ended = ended }

pub record PoolStateValue (O : Type 0) : Type 0 where
  pub books : Books O
  pub room : Room

-- the threads that will take an item: those that rest, and the one that was called
abbrev pub takers : {O : Type 0} → Books O → ℕ
takers b = b.resting + (if b.called then 1 else 0)

-- how many of so many items there are threads for
abbrev pub fitting : {O : Type 0} → ℕ → Books O → ℕ
fitting items b = min items (takers b - length b.queue)

-- no more threads rest than may. Until the pool is closed there are never more items than threads that will take one,
-- and if there is one, a thread is on the way; then nobody rests
pub record IsConsistent {O : Type 0} (b : Books O) : Type 0 where
  pub kept : b.resting ≤ b.keep
  pub served : b.closed ≡ false → length b.queue ≤ takers b
  pub on_the_way : b.closed ≡ false → 0 < length b.queue → b.called ≡ true
  pub drained : b.closed ≡ true → b.resting ≡ 0

-- nobody yet, and nothing to do
abbrev pub nobody : {O : Type 0} → ℕ → Books O
nobody keep = books keep 0 [] false 0 0 0 [] false

-- the item came into the queue, since there was a thread more for it, and a thread is on the way: who was called before,
-- or one that rested
pub record Takes {O T : Type 0} (item : O) (called : Option T) (old new : Books O) : Type 0 where
  pub while_open : old.closed ≡ false
  pub for_thread : length old.queue < takers old
  pub one : is_some called ≡ not old.called
  pub left : new.resting + length (option_to_list called) ≡ old.resting
  pub became : new ≡ record old { queue = old.queue ++ item ∷ []; called = true; resting = new.resting }

-- somebody is called who rested, exactly if there is an item and nobody is on the way
abbrev pub is_calling : Bool → ℕ → ℕ → Bool
is_calling called items resting = not called && nat_lt 0 items && nat_lt 0 resting

-- the first of the items came into the queue: all for which there was a thread, if there was room, and none if the pool
-- is closed. If there is an item then, a thread is on the way: who was called before, or one that rested
pub record TakesFirst {O T : Type 0} (items left : List O) (called : Option T) (old : PoolStateValue O) (new : Books O) : Type 0 where
  pub taken : List O
  pub are : items ≡ taken ++ left
  pub none : old.books.closed ≡ true → taken ≡ []
  pub for_threads : old.books.closed ≡ false → length old.books.queue + length taken ≤ takers old.books
  pub all : old.books.closed ≡ false → fitting (length items) old.books ≤ old.room.queue → length taken ≡ fitting (length items) old.books
  pub calls : is_some called ≡ is_calling old.books.called (length new.queue) old.books.resting
  pub resting : new.resting + length (option_to_list called) ≡ old.books.resting
  pub became : new ≡ record old.books { queue = old.books.queue ++ taken; called = old.books.called || is_some called; resting = new.resting }

-- why it did not: the pool is closed, or has no room; or there are as many items as threads that will take one
abbrev pub IsRefused : {O : Type 0} → SubmitError → PoolStateValue O → Type 0
IsRefused refused.Thread s = (s.books.closed ≡ false) × (takers s.books ≤ length s.books.queue)
IsRefused refused.Pool s = (s.books.closed ≡ true) ⊎ (s.room.queue ≡ 0)

-- what a fork asks for that lacks it
abbrev pub asked : {O : Type 0} → SubmitError → Books O → Books O
asked refused.Thread b = record b { wanted = min (b.wanted + 1) (2 ^ 64 - 1) }
asked refused.Pool b = b

-- a thread was made for a fork; if none was, none could be
abbrev pub Tells : {O : Type 0} → Answer O → Books O → Books O → Type 0
Tells (answer.Made handoff) old new = (0 < old.made) × (new ≡ record old { made = old.made - 1 })
Tells answer.Unmade old new = (old.made ≡ 0) × (0 < old.unmade) × (new ≡ record old { unmade = old.unmade - 1 })

-- the oldest item is given, if there is one, and somebody is called for the others, if there are any and one rests
pub record Comes {O T : Type 0} (item : Option O) (called : Option T) (old new : Books O) : Type 0 where
  pub given : old.queue ≡ option_to_list item ++ new.queue
  pub some : 0 < length old.queue → IsSome item
  pub calls : is_some called ≡ is_calling false (length new.queue) old.resting
  pub left : new.resting + length (option_to_list called) ≡ old.resting
  pub became : new ≡ record old { queue = new.queue; called = is_some called; resting = new.resting }

-- a thread may rest: it has a handoff, the pool is not closed, and fewer rest than may
abbrev pub MayRest : {O T : Type 0} → Option T → Books O → Type 0
MayRest handoff b = IsSome handoff × (b.closed ≡ false) × (b.resting < b.keep)

-- a thread takes the oldest item; if there is none, it rests if it may and there is room, and else it is noted as ended
abbrev pub Goes : {O T : Type 0} → Option T → ℕ → Next O → PoolStateValue O → Books O → Type 0
Goes handoff number (next.Run item) old new = (old.books.queue ≡ item ∷ new.queue) × (new ≡ record old.books { queue = new.queue })
Goes handoff number next.Rest old new = (old.books.queue ≡ []) × MayRest handoff old.books × (new ≡ record old.books { resting = old.books.resting + 1 })
Goes handoff number next.End old new =
    (old.books.queue ≡ [])
    × (MayRest handoff old.books → old.room.resting ≡ 0)
    × (0 < old.room.ended → new.ended ≡ old.books.ended ++ number ∷ [])
    × (new ≡ record old.books { ended = new.ended })

-- each wish for a thread is told once, and before the end; the end comes once the pool is closed
abbrev pub Wishes : {O : Type 0} → Wish → Books O → Books O → Type 0
Wishes wish.Thread old new = (0 < old.wanted) × (new ≡ record old { wanted = old.wanted - 1 })
Wishes wish.Nothing old new = (old.wanted ≡ 0) × (old.closed ≡ false) × (new ≡ old)
Wishes wish.End old new = (old.wanted ≡ 0) × (old.closed ≡ true) × (new ≡ old)

-- a fork will be told of the thread that was made, if there is room for it; else that none could be made
abbrev pub IsTold : {O T : Type 0} → Option T → PoolStateValue O → Books O → Type 0
IsTold None old new = new ≡ record old.books { unmade = min (old.books.unmade + 1) (2 ^ 64 - 1) }
IsTold (Some handoff) old new = (new ≡ record old.books { made = old.books.made + 1 }) ⊎ ((old.room.made ≡ 0) × (new ≡ record old.books { unmade = min (old.books.unmade + 1) (2 ^ 64 - 1) }))

-- there is room for what so many threads bring with them
abbrev pub HasRoomFor : {O : Type 0} → ℕ → PoolStateValue O → Type 0
HasRoomFor threads s = (min threads s.books.keep ≤ s.room.resting) × (threads ≤ s.room.queue) × (threads ≤ s.room.ended) × (1 ≤ s.room.made)
