-- What was done by a context that knows the realm's time.
use Rattle.std.specs.Prelude.{ℕ, ◌≡◌, Err, IfSome, MatchResult, None, Ok, Option, Result, Some, false, is_some, true}
use Rattle.balkreyn.specs.{CalledWithState, EndsTries, HasCome, HasPassed, Heard, Mark, Mut, MutBor, OwnerValue, Refusal, Slept, Stopped, Waited, history_seen}
use Rattle.balkreyn.proofs.Words.{inl, refl, subst, sym, true≢false}

-- if no mark was shown, the moment has passed
pub slept : {K : Type 0} (reads : K → K → ℕ → Type 0) (reading : K → Option ℕ) (old new : OwnerValue) (start last : K) (given until : ℕ) → given ≡ until → (result : Result (Option Mark) Refusal) → MatchResult result (λ _. Waited reads old start new last) (Stopped reads old new start last) → (result ≡ Ok None → HasPassed (Some given) (reading last)) → Slept reads reading old new start last until result
slept reads reading old new start last given until same (Ok None) waits passed = (waits, subst (λ u. HasPassed (Some u) (reading last)) same (passed refl))
slept reads reading old new start last given until same (Ok (Some mark)) waits passed = waits
slept reads reading old new start last given until same (Err refusal) waits passed = waits

-- if no mark was shown, each deadline that had come was passed
pub heard : {K : Type 0} (reads : K → K → ℕ → Type 0) (reading : K → Option ℕ) (old new : OwnerValue) (start last : K) (result : Result (Option Mark) Refusal) → MatchResult result (λ _. Waited reads old start new last) (Stopped reads old new start last) → (result ≡ Ok None → IfSome (reading last) (λ now. HasCome (history_seen new) now → ⊥)) → Heard reads reading old new start last result
heard reads reading old new start last (Ok None) waits passed = (waits, passed refl)
heard reads reading old new start last (Ok (Some mark)) waits passed = waits
heard reads reading old new start last (Err refusal) waits passed = waits

-- ---- tries

module _ {F X A T E : Type 0} (calls : Mut F (MutBor X × (A × Unit {0})) (Result T E × (MutBor X × Unit {0}))) where
  -- what a call found is that
  pub called_so : (state : F) (begun : X) (number : A) (found other : Result T E) (state_new : F) (ended : X) → found ≡ other → CalledWithState calls state begun number found state_new ended → CalledWithState calls state begun number other state_new ended
  called_so state begun number found other state_new ended same called = subst (λ r. CalledWithState calls state begun number r state_new ended) same called

module _ {X T E : Type 0} (makes : Refusal → E → Type 0) (sleeps : X → X → Result (Option Mark) Refusal → Type 0) (is_last : Type 0) where
  -- the last try that may be
  pub last_try : is_last → (found : Result T E) (ended : X) → EndsTries makes sleeps is_last found ended ended found
  last_try last (Ok value) ended = (refl, refl)
  last_try last (Err error) ended = inl (last, refl, refl)

-- a mark was shown, or none
pub mark_of : (P : Option Mark → Type 0) (shown : Option Mark) → is_some shown ≡ true → P shown → (mark : Mark) × P (Some mark)
mark_of P (Some mark) some p = (mark, p)
mark_of P None some p = absurd (true≢false (sym some))

pub none_of : (P : Option Mark → Type 0) (shown : Option Mark) → is_some shown ≡ false → P shown → P None
none_of P None none p = p
none_of P (Some mark) none p = absurd (true≢false none)

-- a mark was shown, and it is what is answered
pub shown_of : {E : Type 0} (P : Option Mark → Type 0) (shown : Option Mark) (result : Result (Option Mark) E) → is_some shown ≡ true → result ≡ Ok shown → P shown → (mark : Mark) × P (Some mark) × (result ≡ Ok (Some mark))
shown_of P (Some mark) result some same p = (mark, p, same)
shown_of P None result some same p = absurd (true≢false (sym some))
