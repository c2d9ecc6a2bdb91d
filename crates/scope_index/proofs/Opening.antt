-- What is kept after a scope is opened.
use Rattle.std.proofs.Common.{ℕ, ◌+◌, ◌∙◌, ◌≡◌, ◌≤◌, Bool, Err, Ok, Result, ap, arith, false, inl, inr, length, refl, slice_get, subst, suc, sym, true, zero}
use Rattle.scope_index.specs.{Accepts, AreCancelsOf, AreForksOf, AreOneMore, CancelTable, Event, Fork, ForkTable.ForkTable, HasRoomForEnds, History, IndexTables.forks_in, Legal, Limits, OnErr, Open, Options, Policy, followed}
use Rattle.scope_index.specs.{forks_of, scopes}
use Rattle.scope_index.proofs.Words.{IsOpened, along, count_same, eqb-true, fork_passed, get_of_push, next_unopened, opening_stays}

-- an accepted fork is in an opened scope
fork_opened : (L : Limits) (h : History) (e : Event) (s : ℕ) → Accepts L h e → forks_in s e ≡ true → IsOpened h s
fork_opened L h (Fork a t label) s ok it =
    let owner = (fork_passed L h a t label ok).owner in
    subst (IsOpened h) (eqb-true t s it) (record { opened = owner.opened; is = owner.is })
fork_opened L h _ s ok it = absurd cc

opened_then : (h : History) (e : Event) (s : ℕ) → IsOpened h s → IsOpened (followed h e) s
opened_then h e s it = record { opened = it.opened; is = opening_stays h e s it.opened it.is }

forks_step : (L : Limits) (h : History) (e : Event) → Accepts L h e → ((s : ℕ) → 1 ≤ forks_of h s → IsOpened h s) → (s : ℕ) → 1 ≤ forks_of (followed h e) s → IsOpened (followed h e) s
forks_step L h e ok was s more = by (forks_in s e) refl
  where
    by : (b : Bool) → forks_in s e ≡ b → IsOpened (followed h e) s
    by true it = opened_then h e s (fork_opened L h e s ok it)
    by false it = opened_then h e s (was s (omega (arith, more, count_same (forks_in s) h e it)))

-- in a legal history, tasks are forked in opened scopes alone
pub forks_opened : (L : Limits) (h : History) (s : ℕ) → Legal L h → 1 ≤ forks_of h s → IsOpened h s
forks_opened L h s legal more =
    along L (λ g. (t : ℕ) → 1 ≤ forks_of g t → IsOpened g t) (λ b t some. absurd (omega (arith, some))) (λ g e lawful ok was. forks_step L g e ok was) h legal s more

none_forked : (L : Limits) (h : History) → Legal L h → forks_of h (scopes h + 1) ≤ 0
none_forked L h legal = by (forks_of h (scopes h + 1)) refl
  where
    by : (n : ℕ) → forks_of h (scopes h + 1) ≡ n → forks_of h (scopes h + 1) ≤ 0
    by zero is = omega (arith, is)
    by (suc n) is = absurd (next_unopened h (forks_opened L h (scopes h + 1) legal (omega (arith, is))))

-- the new scope's account wants no room yet, and that of the others stays
pub room_opened : (L : Limits) (h : History) (a : ℕ) (policy : Policy) (options : Options) (old new : CancelTable) → Legal L h → AreCancelsOf h old → HasRoomForEnds h old → new.before ≡ old.before → AreOneMore old.accounts new.accounts
    → HasRoomForEnds (followed h (Open a policy options)) new
room_opened L h a policy options old new legal cancels room before more i x at listed =
    elim (get_of_push old.accounts more.0 x i (sym (ap (λ xs. slice_get xs i) more.1) ∙ at)) [
      | inl there ↦
          let was = room i x there.1 listed in
          let same = count_same (forks_in (old.before + 1 + i)) h (Open a policy options) refl in
          subst (λ b. forks_of (followed h (Open a policy options)) (b + 1 + i) ≤ length x.seen + x.room) (sym before) (omega (arith, was, same))
      | inr here ↦
          let number : new.before + 1 + i ≡ scopes h + 1 = omega (arith, before, here.0, cancels.numbered, cancels.counted) in
          let same = count_same (forks_in (scopes h + 1)) h (Open a policy options) refl in
          subst (λ s. forks_of (followed h (Open a policy options)) s ≤ length x.seen + x.room) (sym number) (omega (arith, none_forked L h legal, same))
    ]

-- what holds anyway holds if there is an error
pub on_err_anyway : {T E P : Type 0} (r : Result T E) → P → OnErr r P
on_err_anyway (Ok x) so = tt
on_err_anyway (Err e) so = so

-- forks with more room are forks of the same history
pub forks_roomier : (h : History) (old new : ForkTable) → new ≡ record old { spare = new.spare } → AreForksOf h old → AreForksOf h new
forks_roomier h old new is are = subst (AreForksOf h) (sym is) (record { numbered = are.numbered; count = are.count; lists = are.lists })
