-- What the report of a close shows.
use Rattle.std.specs.Prelude.{[], ℕ, ◌++◌, ◌∷◌, ◌≡◌, List, Some, false, map, option_map, true}
use Rattle.realm_core.specs.Words.{History, LogValue, Verdict, closed, closing, log, verdict}
use Rattle.scope_log.specs.declared.entries.LogEntry.TheVariants as entry

-- what is shown of one scope: its number, how it was closed, and its log
abbrev pub Shown : Type 0
Shown = ℕ × Verdict × LogValue

-- the numbers of what is shown
abbrev pub numbers : List Shown → List ℕ
numbers shown = map (λ (x : Shown). x.0) shown

-- the log with the end of the close at its end
abbrev pub with_end : ℕ → LogValue → LogValue
with_end a l = record l { entries = l.entries ++ entry.EndClose a ∷ [] }

-- scope s is closing, and this is how it is closed and its log, once the actor's end of its close is added
pub record IsPrepared (h : History) (a s : ℕ) (how : Verdict) (shown : LogValue) : Type 0 where
  pub begun : closing h s ≡ true
  pub unclosed : closed h s ≡ false
  pub judged : how ≡ verdict h s
  pub logged : option_map (with_end a) (log h s) ≡ Some shown

-- the same of several scopes
abbrev pub ArePrepared : History → ℕ → List Shown → Type 0
ArePrepared h a [] = Unit {0}
ArePrepared h a (x ∷ xs) = IsPrepared h a x.0 x.1 x.2 × ArePrepared h a xs

-- this is how scope s was closed, and its log
pub record IsReported (h : History) (s : ℕ) (how : Verdict) (shown : LogValue) : Type 0 where
  pub over : closed h s ≡ true
  pub judged : how ≡ verdict h s
  pub logged : log h s ≡ Some shown

-- the same of several scopes
abbrev pub AreReported : History → List Shown → Type 0
AreReported h [] = Unit {0}
AreReported h (x ∷ xs) = IsReported h x.0 x.1 x.2 × AreReported h xs
