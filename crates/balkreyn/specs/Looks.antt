-- What is written of a realm's history, once that was copied out of it.
use Rattle.std.specs.Prelude.{ℕ, ◌≡◌, List, MatchResult, Result, String, string_bytes}
use Rattle.balkreyn.specs.Words.{Clock, History, Memory, Refusal, Waits, tree_by, with_waits}

-- it is a copy of just this history; or there was no memory for one
abbrev pub IsCopyOf : History → Result History Refusal → Type 0
IsCopyOf h copied = MatchResult copied (λ c. c ≡ h) (λ refusal. refusal ≡ Memory)

-- it is the tree by this clock, with calls in which actors wait: no clause knows those, since each may write its own at any
-- time; or there was no memory for it
abbrev pub SaysWaits : {Z : Type 0} → Clock → History → Result (String Z) Refusal → Type 0
SaysWaits c h result = MatchResult result (λ written. (w : Waits) × (string_bytes written ≡ tree_by (with_waits c w) h)) (λ refusal. refusal ≡ Memory)

-- it is just this text; or there was no memory for it
abbrev pub Says : {Z : Type 0} → List ℕ → Result (String Z) Refusal → Type 0
Says text result = MatchResult result (λ written. string_bytes written ≡ text) (λ refusal. refusal ≡ Memory)
