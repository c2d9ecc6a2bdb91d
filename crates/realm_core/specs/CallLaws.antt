-- How the words for what calls did are put together, if one call follows another.
use Rattle.std.specs.Prelude.{ℕ, ◌<◌, ◌≡◌, List, Some, false, true}
use Rattle.realm_core.specs.Words.{Adds, Agrees, History, Holder, Legal, Limits, Looks, Opening, RealmStep, closed, closing, opening}

-- a holder agrees with what it has seen
abbrev pub HoldersAgree : Type 0
HoldersAgree = (who : Holder) (seen : List RealmStep) → Agrees who seen seen

-- what agrees with a list agrees with each list with which that agrees
abbrev pub AgreementsGoOn : Type 0
AgreementsGoOn = (who : Holder) (xs ys zs : List RealmStep) → Agrees who xs ys → Agrees who ys zs → Agrees who xs zs

-- a look after looks is a look
abbrev pub LooksGoOn : Type 0
LooksGoOn = (who : Holder) (L : Limits) (xs ys zs : List RealmStep) → Agrees who xs ys → Looks who L ys zs → Looks who L xs zs

-- and a step that is added after looks is added
abbrev pub AddsGoOn : Type 0
AddsGoOn = (who : Holder) (L : Limits) (xs ys zs : List RealmStep) (x : RealmStep) → Agrees who xs ys → Adds who L ys x zs → Adds who L xs x zs

-- if a scope is closing and not closed, each scope that its owner opened later and has not closed is
-- closing
abbrev pub LaterScopesClose : Type 0
LaterScopesClose = (L : Limits) (h : History) (s t : ℕ) (o x : Opening) → Legal L h → opening h s ≡ Some o → opening h t ≡ Some x → o.actor ≡ x.actor → s < t → closing h s ≡ true → closed h s ≡ false → closed h t ≡ false → closing h t ≡ true
