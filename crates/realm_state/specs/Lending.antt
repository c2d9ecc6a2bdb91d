-- What a realm is once a list that it lent is handed back.
use Rattle.std.specs.Prelude.{⊤, ◌≡◌}
use Rattle.realm_state.specs.Words.{Fml, MutBor, Realm, follows_so}
use Rattle.realm_state.specs.contracts.realm.RealmState.{the_row}
use mathlib.Core.Option.{none}

-- it is what it was before
abbrev pub KeepsRealm : MutBor Realm → Fml
KeepsRealm realm = follows_so the_row the_row realm.ghost_name none (λ _ _. ⊤) (λ last. last ≡ realm.now)
