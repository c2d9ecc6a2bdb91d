-- What a book of the code stands for.
use Rattle.std.specs.Prelude.{Result, Ok, Err}
use Rattle.scope_rules.specs.declared.types.capacity.Limits.{Limits}
use Rattle.scope_rules.specs.declared.types.refusals.Refusal.{Refusal}
use Rattle.scope_rules.specs.History.{History}
use Rattle.scope_rules.specs.Replies.{Realm}
use Rattle.scope_book.specs.declared.state.book.BookState.{BookState}

-- the realm that the book is the replay of: its limits, and its history
abbrev pub realm_of : {C : _} {g : _} {f : _} {m : _} → BookState C g f m → Realm
realm_of book = book.realm

abbrev pub limits_of : {C : _} {g : _} {f : _} {m : _} → BookState C g f m → Limits
limits_of book = (realm_of book).limits

abbrev pub history_of : {C : _} {g : _} {f : _} {m : _} → BookState C g f m → History
history_of book = (realm_of book).history

-- what was answered, without what a refusal hands back
abbrev pub refusal_alone : {A B : Type 0} → Result A (Refusal × B) → Result A Refusal
refusal_alone (Ok x) = Ok x
refusal_alone (Err e) = Err e.0

-- the realm of the book that was answered
abbrev pub realm_given : {C : _} {g : _} {f : _} {m : _} → Result (BookState C g f m) Refusal → Result Realm Refusal
realm_given (Ok book) = Ok (realm_of book)
realm_given (Err r) = Err r
