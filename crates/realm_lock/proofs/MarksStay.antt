-- A mark stays as long as its scope has a number since the base.
use Rattle.std.proofs.Common.{[], ℕ, ◌++◌, ◌∷◌, ◌≡◌, ◌≤◌, ◌⊎◌, List, Some, ap, append-nil, append_assoc, arith, inl, inr, refl, subst, sym}
use Rattle.realm_lock.specs.{Asked, Cancellation, Cause, Happened, History, IsLegal, IsMarkOf, Legal, Limits, RealmStep, Retirement, advance, asked, base_of, history_of, mark_of}
use Rattle.realm_lock.proofs.Words.{beginning_legal, history-push, legal_history, opened_after}
use Rattle.realm_lock.proofs.CancelsGrow.{grows_by, marked}

-- the mark is still that of scope s, or s was retired
abbrev MarkOrRetired : History → ℕ → Cancellation → Type 0
MarkOrRetired h s m = (mark_of h s ≡ Some m) ⊎ (s ≤ h.base.scopes)

stays_by_step : (L : Limits) (h : History) (x : RealmStep) (s : ℕ) (m : Cancellation) → Legal L h → MarkOrRetired h s m → MarkOrRetired (advance h x) s m
unfolding base_of
stays_by_step L h (Happened e) s m legal (inl is) = inl ((grows_by L h e legal).kept s m is).0
stays_by_step L h (Happened e) s m legal (inr gone) = inr gone
stays_by_step L h (Asked actor q) s m legal (inl is) = inl ((grows_by L h (asked q) legal).kept s m is).0
stays_by_step L h (Asked actor q) s m legal (inr gone) = inr gone
stays_by_step L h Retirement s m legal (inl is) = inr (let it = marked h s m is in let n = opened_after h s it.opened it.is in omega (arith, n.1, n.2))
stays_by_step L h Retirement s m legal (inr gone) = inr (omega (arith, gone))

stays_on : (L : Limits) (seen more : List RealmStep) (s : ℕ) (m : Cancellation) → IsLegal L (seen ++ more) → MarkOrRetired (history_of seen) s m → MarkOrRetired (history_of (seen ++ more)) s m
stays_on L seen [] s m lawful it = subst (λ xs. MarkOrRetired (history_of xs) s m) (sym (append-nil seen)) it
stays_on L seen (x ∷ more) s m lawful it =
    let same : seen ++ x ∷ more ≡ (seen ++ x ∷ []) ++ more = sym (append_assoc seen (x ∷ []) more) in
    let legal = legal_history L seen (beginning_legal L seen (x ∷ more) lawful) in
    let next = subst (λ (h : History). MarkOrRetired h s m) (sym (history-push seen x)) (stays_by_step L (history_of seen) x s m legal it) in
    subst (λ xs. MarkOrRetired (history_of xs) s m) (sym same) (stays_on L (seen ++ x ∷ []) more s m (subst (IsLegal L) same lawful) next)

-- what a view accepts is the scope's mark
as_mark : (h : History) (s : ℕ) (c : Cause) (n : ℕ) → IsMarkOf h s c n → mark_of h s ≡ Some (record { cause = c; number = n })
as_mark h s c n is = rw (is.placed, is.caused) refl

pub accepted_marks_agree : (L : Limits) (seen more : List RealmStep) (s : ℕ) (first then : Cause) (at place : ℕ) → IsLegal L (seen ++ more) → IsMarkOf (history_of seen) s first at → IsMarkOf (history_of (seen ++ more)) s then place → (first ≡ then) × (at ≡ place)
accepted_marks_agree L seen more s first then at place lawful one other =
    let m : Cancellation = record { cause = first; number = at } in
    let k : Cancellation = record { cause = then; number = place } in
    let last = as_mark (history_of (seen ++ more)) s then place other in
    let same : m ≡ k = elim (stays_on L seen more s m lawful (inl (as_mark (history_of seen) s first at one))) [
      | inl is ↦ cc (is, last)
      | inr gone ↦ absurd (let it = marked (history_of (seen ++ more)) s k last in let n = opened_after (history_of (seen ++ more)) s it.opened it.is in omega (arith, n.2, gone))
    ] in
    (ap (λ (x : Cancellation). x.cause) same, ap (λ (x : Cancellation). x.number) same)
