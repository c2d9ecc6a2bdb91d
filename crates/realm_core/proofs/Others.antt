-- What no step of another's takes away of what a token shows is so still, after any number of them.
use Rattle.std.proofs.Common.{[], ℕ, ◌++◌, ◌||◌, ◌∙◌, ◌∷◌, ◌≡◌, Bool, List, ap, false, refl, subst, sym}
use Rattle.realm_core.specs.{Agrees, History, IsLegal, Legal, LegalFrom, Limits, Passes, RealmStep, TokenOf, advance, advanced, history_of, is_own, list_any}
use Rattle.realm_core.proofs.Words.{advanced-append, legal_advance, legal_beginning, legal_history}

not_or : (b c : Bool) → (b || c) ≡ false → (b ≡ false) × (c ≡ false)
not_or false false so = (refl, refl)
not_or _ _ so = absurd cc

legal_rest : (L : Limits) (h : History) (xs ys : List RealmStep) → LegalFrom L h (xs ++ ys) → LegalFrom L (advanced h xs) ys
legal_rest L h [] ys lawful = lawful
legal_rest L h (x ∷ xs) ys lawful = legal_rest L (advance h x) xs ys lawful.1

lawful_later : (L : Limits) (a : ℕ) (old new : List RealmStep) (agrees : Agrees (TokenOf a) old new) → IsLegal L new → LegalFrom L (history_of old) agrees.later
unfolding history_of IsLegal
lawful_later L a old new agrees lawful = legal_rest L _ old agrees.later (subst (λ (xs : List RealmStep). IsLegal L xs) agrees.is lawful)

legal_old : (L : Limits) (a : ℕ) (old new : List RealmStep) (agrees : Agrees (TokenOf a) old new) → IsLegal L new → Legal L (history_of old)
unfolding IsLegal
legal_old L a old new agrees lawful = legal_history L old (legal_beginning L _ old agrees.later (subst (λ (xs : List RealmStep). IsLegal L xs) agrees.is lawful))

history_later : (a : ℕ) (old new : List RealmStep) (agrees : Agrees (TokenOf a) old new) → advanced (history_of old) agrees.later ≡ history_of new
unfolding history_of
history_later a old new agrees = sym (ap history_of agrees.is ∙ advanced-append _ old agrees.later)

-- the last step of a legal list passed
pub last_passes : (L : Limits) (xs : List RealmStep) (x : RealmStep) → IsLegal L (xs ++ x ∷ []) → Passes L (history_of xs) x
unfolding history_of IsLegal
last_passes L xs x lawful = (legal_rest L _ xs (x ∷ []) lawful).0

module _ (L : Limits) (a : ℕ) (P : History → Type 0) (stays : (h : History) (x : RealmStep) → Legal L h → P h → Passes L h x → is_own (TokenOf a) x ≡ false → P (advance h x)) where
  past : (h : History) (later : List RealmStep) → Legal L h → P h → LegalFrom L h later → list_any (is_own (TokenOf a)) later ≡ false → P (advanced h later)
  past h [] legal it lawful others = it
  past h (x ∷ later) legal it lawful others =
      let both = not_or (is_own (TokenOf a) x) (list_any (is_own (TokenOf a)) later) others in
      past (advance h x) later (legal_advance L h x legal lawful.0) (stays h x legal it lawful.0 both.0) lawful.1 both.1

  pub still : (old new : List RealmStep) → Agrees (TokenOf a) old new → IsLegal L new → P (history_of old) → P (history_of new)
  still old new agrees lawful it =
      subst P (history_later a old new agrees)
      (past (history_of old) agrees.later (legal_old L a old new agrees lawful) it (lawful_later L a old new agrees lawful) agrees.others)
