-- What is asked for with any token is of no task.
use Rattle.std.proofs.Common.{ℕ, ◌≡◌, None, false, refl}
use Rattle.share_ledger.specs.{Ask, asked, ending_of, finishes, is_fork, rejects, starts}
use Rattle.share_ledger.specs.declared.steps.Ask.TheVariants as ask

pub asks_no_fork : (q : Ask) → is_fork (asked q) ≡ false
asks_no_fork (ask.Cancel scope) = refl
asks_no_fork (ask.Move scope deadline) = refl
asks_no_fork (ask.Tick now) = refl

pub asks_no_reject : (k : ℕ) (q : Ask) → rejects k (asked q) ≡ false
asks_no_reject k (ask.Cancel scope) = refl
asks_no_reject k (ask.Move scope deadline) = refl
asks_no_reject k (ask.Tick now) = refl

pub asks_no_start : (k : ℕ) (q : Ask) → starts k (asked q) ≡ false
asks_no_start k (ask.Cancel scope) = refl
asks_no_start k (ask.Move scope deadline) = refl
asks_no_start k (ask.Tick now) = refl

pub asks_no_finish : (k : ℕ) (q : Ask) → finishes k (asked q) ≡ false
asks_no_finish k (ask.Cancel scope) = refl
asks_no_finish k (ask.Move scope deadline) = refl
asks_no_finish k (ask.Tick now) = refl

pub asks_no_end : (k i : ℕ) (q : Ask) → ending_of k i (asked q) ≡ None
asks_no_end k i (ask.Cancel scope) = refl
asks_no_end k i (ask.Move scope deadline) = refl
asks_no_end k i (ask.Tick now) = refl
