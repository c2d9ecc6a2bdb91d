-- What will be shown is made from the scope inwards, and is in the order of the ends once it is reversed.
use Rattle.std.proofs.Common.{[], ℕ, ◌++◌, ◌∙◌, ◌∷◌, ◌≡◌, IsSome, List, None, Option, Some, arith, option_map, refl, reverse, subst, sym, true}
use Rattle.realm_core.specs.{ArePrepared, CanClose, History, InEndOrder, Legal, Limits, LogValue, Reports.Shown, Verdict, closing, inner, log, numbers, opening, verdict, with_end}
use Rattle.realm_core.proofs.Words.{HasUnclosed, reverse-append}
use Rattle.realm_core.proofs.{LaterClosing.later_closing, Walks.IsNext, Walks.IsWalked, Walks.inner_is, Walks.inner_none, Walks.top_unclosed, Walks.walk_on, Walks.walk_rises, Walks.walked_order}

-- what was made so far, the latest scope first, and which scope comes next
pub record IsPreparing (h : History) (a s : ℕ) (shown : List Shown) (next : Option ℕ) : Type 0 where
  top : ℕ
  walked : IsWalked h a s (numbers shown) top
  onward : next ≡ inner h top
  prepared : ArePrepared h a shown

own : (h : History) (a s : ℕ) → CanClose h a s → HasUnclosed h a s
own h a s can = record { opened = can.opened; is = can.is; by = can.by; unclosed = can.unclosed }

pub preparing_begins : (h : History) (a s : ℕ) (next : Option ℕ) → next ≡ inner h s → IsPreparing h a s [] next
preparing_begins h a s next is = record { top = s; walked = refl; onward = is; prepared = tt }

module _ (L : Limits) (h : History) (a s : ℕ) (legal : Legal L h) (can : CanClose h a s) where
  next_here : (shown : List Shown) (here : ℕ) (so_far : IsPreparing h a s shown (Some here)) → IsNext h a so_far.top here
  next_here shown here so_far =
      let top = top_unclosed h a s so_far.top (numbers shown) (own h a s can) so_far.walked in
      inner_is h a so_far.top here top.opened top.is top.by (sym so_far.onward)

  -- the next scope was opened, and is closing
  pub next_opened : (shown : List Shown) (here : ℕ) → IsPreparing h a s shown (Some here) → IsSome (opening h here)
  next_opened shown here so_far = let it = next_here shown here so_far in rw it.unclosed.is refl

  pub next_begun : (shown : List Shown) (here : ℕ) → IsPreparing h a s shown (Some here) → closing h here ≡ true
  next_begun shown here so_far =
      let it = next_here shown here so_far in
      let rise = walk_rises h a s so_far.top (numbers shown) so_far.walked in
      later_closing L h s here can.opened it.unclosed.opened legal can.is it.unclosed.is (can.by ∙ sym it.unclosed.by) (omega (arith, rise, it.later)) can.begun can.unclosed it.unclosed.unclosed

  pub preparing_goes_on : (shown : List Shown) (here : ℕ) (how : Verdict) (l : LogValue) (next : Option ℕ) → IsPreparing h a s shown (Some here) → how ≡ verdict h here → option_map (with_end a) (log h here) ≡ Some l → next ≡ inner h here → IsPreparing h a s ((here, how, l) ∷ shown) next
  preparing_goes_on shown here how l next so_far judged logged is =
      let it = next_here shown here so_far in
      record {
        top = here;
        walked = walk_on h a s so_far.top here (numbers shown) so_far.walked it;
        onward = is;
        prepared = (record { begun = next_begun shown here so_far; unclosed = it.unclosed.unclosed; judged = judged; logged = logged }, so_far.prepared);
      }

  pub all_ordered : (shown : List Shown) → IsPreparing h a s shown None → InEndOrder h a s (numbers shown)
  all_ordered shown so_far =
      let top = top_unclosed h a s so_far.top (numbers shown) (own h a s can) so_far.walked in
      walked_order h a s so_far.top (numbers shown) (own h a s can) so_far.walked (inner_none h a so_far.top top.opened top.is top.by (sym so_far.onward))

pub all_prepared : (h : History) (a s : ℕ) (shown : List Shown) (next : Option ℕ) → IsPreparing h a s shown next → ArePrepared h a shown
all_prepared h a s shown next so_far = so_far.prepared

-- one more at the end is one more at the front of the reverse
pub one_more : (h : History) (a s : ℕ) (shown : List Shown) (x : Shown) (next : Option ℕ) → IsPreparing h a s (x ∷ reverse shown) next → IsPreparing h a s (reverse (shown ++ x ∷ [])) next
one_more h a s shown x next so_far = subst (λ (xs : List Shown). IsPreparing h a s xs next) (sym (reverse-append shown (x ∷ []))) so_far
