-- The keeper's seat between two moves, in the words of contracts.
use Rattle.std.proofs.Common.{[], ℕ, ◌<◌, ◌∙◌, ◌∷◌, ◌≡◌, List, Some, ap, arith, refl}
use Rattle.share_ledger.specs.{Allows, Holder, Holding, IsReady, IsShareOf, Joins, Keeping, LedgerView, Limits, Me, RealmStep, Said, Share, Spent, TellsLooked, hand_of, handed_in, holder_of, holding, keeping, limits_of, steps_of}
use Rattle.share_ledger.specs.{view_of}
use Rattle.share_ledger.proofs.Allowed.{hand_in_allowed, holds, look_allowed}

pub a_word : (words : ℕ) → words ≡ 1 → 0 < words
a_word words is = omega arith

-- what the seat of a badge knows
badge_view : (views : List LedgerView) (who : Holder) (v : LedgerView) → IsShareOf views who → views ≡ v ∷ [] → v ≡ holding (limits_of (view_of views)) who (steps_of (view_of views))
badge_view views who v is so = cc

abbrev share_of : List LedgerView → Share
share_of views = record { limits = limits_of (view_of views); holder = holder_of (view_of views); seen = steps_of (view_of views) }

-- the keeper's view once a share has arrived
arrived_view : (before after : Me Said LedgerView) (w : LedgerView) (L : Limits) (steps : List RealmStep) (hand : List Holder) (share : Share) → before.0 ≡ keeping L steps hand → w ≡ Holding share → after ≡ (handed_in before.0 w, before.1) → after.0 ≡ Keeping L steps (Some share) hand
arrived_view before after w L steps hand share is held so = ap (λ (p : Me Said LedgerView). p.0) so ∙ rw (is, held) refl

-- the share of a badge may be handed in
pub share_allowed : (id other : ℕ) (v w : LedgerView) (views : List LedgerView) → IsReady v (hand_of v) → IsShareOf views (holder_of (view_of views)) → views ≡ w ∷ [] → Joins holds id v other w (handed_in v w) Spent
share_allowed id other v w views ready share is = hand_in_allowed id other v w (limits_of v) (steps_of v) (hand_of v) (share_of views) ready (badge_view views (holder_of (view_of views)) w share is)

-- once it has arrived, the keeper may look
pub arrived_allowed : (slots id : ℕ) (before after : Me Said LedgerView) (w : LedgerView) (views : List LedgerView) → IsReady before.0 (hand_of before.0) → IsShareOf views (holder_of (view_of views)) → views ≡ w ∷ [] → after ≡ (handed_in before.0 w, before.1) → Allows holds slots id after 0 (λ n. n) (λ n then. TellsLooked after then)
arrived_allowed slots id before after w views ready share is so =
    let v = before.0 in
    let held = badge_view views (holder_of (view_of views)) w share is in
    look_allowed slots id after (λ n. n) (limits_of v) (steps_of v) (share_of views) (hand_of v) (arrived_view before after w (limits_of v) (steps_of v) (hand_of v) (share_of views) ready held so)
