-- What is kept of a begun line says what the line says, and why it is bad.
use Rattle.std.specs.Prelude.{◌<◌, ◌≡◌, if◌then◌else◌}
use Rattle.quote_plan.specs.{ℕ, BadWord, Bool, LINE_LIMIT, List, Mode, Named, None, PlanWhy, Some, StandsFor, false, fields, is_return, is_tab, length, line_said, list_any}
use Rattle.quote_plan.specs.{long, nat_lt, same, true, unwrap_or, why_after, why_of, why_of_bytes}
use Rattle.quote_plan.proofs.Words.{◌∙◌, ap, lt-ltb, refl, sym}

-- ---- what it says

too_long : (text : List ℕ) → LINE_LIMIT < length text → nat_lt LINE_LIMIT (length text) ≡ true
too_long text more = lt-ltb LINE_LIMIT (length text) more

long_is_bad : (text : List ℕ) → LINE_LIMIT < length text → line_said text ≡ BadWord
unfolding line_said
long_is_bad text more = rw (too_long text more) refl

pub says_same : (kept line : List ℕ) → StandsFor kept line → line_said kept ≡ line_said line
says_same kept line (same is) = ap line_said is
says_same kept line (long one other returns tabs) = long_is_bad kept one ∙ sym (long_is_bad line other)

why_alike : (modes : List Mode) (offers : List Named) (kept line : List ℕ) (r t : Bool) →
    unwrap_or (if r then Some PlanWhy.CarriageReturn else if t then Some PlanWhy.Tab else if true then Some PlanWhy.TooLong else None) (why_after modes offers (fields kept))
    ≡ unwrap_or (if r then Some PlanWhy.CarriageReturn else if t then Some PlanWhy.Tab else if true then Some PlanWhy.TooLong else None) (why_after modes offers (fields line))
why_alike modes offers kept line true t = refl
why_alike modes offers kept line false true = refl
why_alike modes offers kept line false false = refl

pub bad_alike : (modes : List Mode) (offers : List Named) (kept line : List ℕ) → StandsFor kept line → why_of modes offers kept ≡ why_of modes offers line
unfolding why_of why_of_bytes
bad_alike modes offers kept line (same is) = ap (why_of modes offers) is
bad_alike modes offers kept line (long one other returns tabs) =
    rw (too_long kept one, too_long line other, returns, tabs) (why_alike modes offers kept line (list_any is_return line) (list_any is_tab line))
