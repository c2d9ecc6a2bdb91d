-- Who was never forked, and isn't main, has no own pairs.
use Rattle.std.proofs.Common.{[], ℕ, ◌<◌, ◌==◌, ◌∙◌, ◌∷◌, ◌≡◌, Bool, List, None, Option, Some, ap, arith, cond, false, inl, inr, refl, subst, sym, true}
use Rattle.scoped_env.specs.{Accepts, Bind, Binding, Event, Forking, History, Legal, Limits, Origin, Unbind, Words.stack, followed, forking, row_check, stacked}
use Rattle.scoped_env.proofs.Words.{IsActor, actor_passed, along, checks_at, forking_stays, ne_eqb, running_forked, stack_push}

-- who binds is main, or runs
binder_acts : (L : Limits) (h : History) (a : ℕ) (pair : Binding) → Accepts L h (Bind a pair) → IsActor h a
unfolding row_check
binder_acts L h a pair ok = actor_passed h a (checks_at _ 0 _ ok.passed refl)

-- who was never forked does not run
never_acts : (h : History) (a : ℕ) → IsActor h a → 0 < a → forking h a ≡ None → ⊥
never_acts h a who later none =
    elim who [
      | inl main ↦ omega (arith, main, later)
      | inr runs ↦
          let it = running_forked h a runs in
          let both : Some it.forked ≡ None = sym it.is ∙ none in
          cc
    ]

-- who is not there after one event more was not there before
unforked_before : (h : History) (e : Event) (a : ℕ) (o : Option Forking) → forking h a ≡ o → forking (followed h e) a ≡ None → forking h a ≡ None
unforked_before h e a None is none = is
unforked_before h e a (Some f) is none = let both : Some f ≡ None = sym (forking_stays h e a f is) ∙ none in absurd cc

-- each actor with own pairs is main, or was forked
OthersHaveNone : History → Type 0
OthersHaveNone h = (a : ℕ) → 0 < a → forking h a ≡ None → stack h a ≡ []

-- so it is at the base
others_start : (b : Origin) → OthersHaveNone (record { base = b; events = [] })
unfolding OthersHaveNone stack
others_start b a later none = ap (λ c. cond c b.binds []) (ne_eqb a 0 (omega (arith, later)))

-- one of two that are the same
one_of_both : {A : Type 0} (b : Bool) (x : A) → cond b x x ≡ x
one_of_both true x = refl
one_of_both false x = refl

-- an accepted event gives no pair to who was never forked
stacked_none : (L : Limits) (h : History) (e : Event) (a : ℕ) → Accepts L h e → 0 < a → forking h a ≡ None → stacked a [] e ≡ []
stacked_none L h (Bind by pair) a ok later none =
    let apart : by ≡ a → ⊥ = λ (is : by ≡ a). never_acts h a (subst (IsActor h) is (binder_acts L h by pair ok)) later none in
    ap (λ b. cond b (pair ∷ []) []) (ne_eqb by a apart)
stacked_none L h (Unbind by) a ok later none = one_of_both (by == a) []
stacked_none L h _ a ok later none = refl

-- and each accepted event keeps it so
others_step : (L : Limits) (h : History) (e : Event) → Accepts L h e → OthersHaveNone h → OthersHaveNone (followed h e)
unfolding OthersHaveNone
others_step L h e ok so a later none =
    let then = unforked_before h e a (forking h a) refl none in
    stack_push h e a ∙ (ap (λ (bs : List Binding). stacked a bs e) (so a later then) ∙ stacked_none L h e a ok later then)

-- in a legal history an actor that isn't main, and was never forked, has no own pairs
pub unforked_stack : (L : Limits) (h : History) (a : ℕ) → Legal L h → 0 < a → forking h a ≡ None → stack h a ≡ []
unfolding OthersHaveNone
unforked_stack L h a legal later none = along L OthersHaveNone others_start (λ g e lawful ok was. others_step L g e ok was) h legal a later none
