-- What the table asks of each move.
use Rattle.std.proofs.Common.{[], ℕ, ◌++◌, ◌∙◌, ◌∷◌, ◌≡◌, List, Some, ap, refl}
use Rattle.share_ledger.specs.{Allows, Holder, Holding, Joins, Keeping, Ledger, LedgerView, Limited, Limits, MayAppend, Me, Opening, RealmStep, Said, Share, Spent, Splits, State, Stepped, TellsAppended, TellsLimited, TellsLooked}
use Rattle.share_ledger.specs.{TokenOf, given_out, handed_in, keeping, keeps, left_in, newly_named, with_named}
use Rattle.share_ledger.proofs.Keeps.{append_keeps, append_tells, give_out_keeps, hand_in_keeps, limit_keeps, look_keeps, look_tells}
use mathlib.Core.Option as m

-- the rule, as the table reads it
abbrev pub holds : State Said LedgerView → Type 0
holds s = Ledger s.views

pub limit_allowed : (slots id : ℕ) (me : Me Said LedgerView) (f : ℕ → ℕ) (L : Limits) → me.0 ≡ Opening → Allows holds slots id me 0 f (λ n after. TellsLimited (m.some (Limited L)) me after)
limit_allowed slots id me f L is = λ s r count at fits.
    (keeping L [] (TokenOf 0 ∷ []), keeps, tt, limit_keeps s.views id L r (at ∙ ap m.some is), refl)

pub append_allowed : (slots id : ℕ) (me : Me Said LedgerView) (f : ℕ → ℕ) (L : Limits) (steps : List RealmStep) (hand : List Holder) (x : RealmStep) → me.0 ≡ keeping L steps hand → MayAppend steps hand x → Allows holds slots id me 0 f (λ n after. TellsAppended (m.some (Stepped x)) me after)
append_allowed slots id me f L steps hand x is may = λ s r count at fits.
    (keeping L (steps ++ x ∷ []) (with_named (newly_named steps x) hand), keeps, tt, append_keeps s.views id L steps hand x may r (at ∙ ap m.some is), rw is (refl, append_tells s.views id L steps hand x may r (at ∙ ap m.some is)))

pub look_allowed : (slots id : ℕ) (me : Me Said LedgerView) (f : ℕ → ℕ) (L : Limits) (steps : List RealmStep) (share : Share) (hand : List Holder) → me.0 ≡ Keeping L steps (Some share) hand → Allows holds slots id me 0 f (λ n after. TellsLooked me after)
look_allowed slots id me f L steps share hand is = λ s r count at fits.
    let there = at ∙ ap m.some is in
    let told = look_tells s.views id L steps share hand r there in
    (keeping L steps (share.holder ∷ hand), keeps, tt, look_keeps s.views id L steps share hand r there, (rw is (refl, told.0, told.1), refl))

pub hand_in_allowed : (id other : ℕ) (v w : LedgerView) (L : Limits) (steps : List RealmStep) (hand : List Holder) (share : Share) → v ≡ keeping L steps hand → w ≡ Holding share → Joins holds id v other w (handed_in v w) Spent
hand_in_allowed id other v w L steps hand share is held = λ s r at apart there.
    rw (is, held) (hand_in_keeps s.views id other L steps hand share r (at ∙ ap m.some is) apart (rw (is, held) at there))

pub give_out_allowed : (id : ℕ) (v : LedgerView) (L : Limits) (steps : List RealmStep) (who : Holder) (hand : List Holder) → v ≡ keeping L steps (who ∷ hand) → Splits holds id v (left_in v) (given_out v)
give_out_allowed id v L steps who hand is = λ s r at.
    rw is (give_out_keeps s.views id L steps who hand r (at ∙ ap m.some is))
