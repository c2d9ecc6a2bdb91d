-- What a task inherits never changes: what its forker saw at the fork.
use Rattle.std.proofs.Common.{[], ℕ, ◌++◌, ◌<◌, ◌↔◌, ◌∙◌, ◌≡◌, ◌≤◌, ◌⊎◌, IsTrue, List, None, Option, Some, ap, arith, false, inl, inr, refl, subst, suc, sym, true, zero}
use Rattle.scope_rules.specs.{Accepts, Binding, Decides, Fork, Forking, History.History, Legal.Legal, Limits, Opening, before, bindings, bindings_within, bound_as_at, bound_as_opened, declared.types.events.Event.TheVariants.Open}
use Rattle.scope_rules.specs.{forking, opening, option_map_or, same_pairs, stack}
use Rattle.scope_rules.proofs.Words.{append_cancel_left, length-take, same_Some}
use Rattle.scope_rules.proofs.{BindingRows.IsForked, BindingRows.fork_bound, BindingRows.fork_opened, BindingRows.fork_owned, BindingRows.forker_acts, BindingRows.opener_acts, Earlier.before_of_before, Earlier.forking_event}
use Rattle.scope_rules.proofs.{Earlier.forking_since, Earlier.forking_within, Earlier.opening_event, Earlier.opening_since, Earlier.opening_within, Earlier.task_given, Growing.forking_number, Nesting.legal_before}
use Rattle.scope_rules.proofs.{SamePairs.same_pairs_tell}

-- what was forked was accepted
pub fork_was_accepted : (L : Limits) (h : History) (k : ℕ) (f : Forking) → Legal L h → forking h k ≡ Some f → Accepts L (before h f.place) (Fork f.actor f.scope f.label)
unfolding Legal
fork_was_accepted L h k f legal is = legal f.place (Fork f.actor f.scope f.label) (forking_event h k f is)

-- what was opened was accepted
pub open_was_accepted : (L : Limits) (h : History) (s : ℕ) (o : Opening) → Legal L h → opening h s ≡ Some o → Accepts L (before h o.place) (Open o.actor o.policy o.options)
unfolding Legal
open_was_accepted L h s o legal is = legal o.place (Open o.actor o.policy o.options) (opening_event h s o is)

-- a forker has a smaller number than its task
pub forker_smaller : (L : Limits) (h : History) (k : ℕ) (f : Forking) → Legal L h → forking h k ≡ Some f → f.actor < k
forker_smaller L h k f legal is =
    let number = forking_number h k f is in
    elim (forker_acts L (before h f.place) f (fork_was_accepted L h k f legal is)) [
      | inl main ↦ omega (arith, number, main)
      | inr task ↦ omega (arith, number, (task_given (before h f.place) f.actor task.forked task.is).1)
    ]

same_inherited : (f g : Forking → List Binding) (o : Option Forking) → ((x : Forking) → o ≡ Some x → f x ≡ g x) → option_map_or f o [] ≡ option_map_or g o []
same_inherited f g None same = refl
same_inherited f g (Some x) same = same x refl

none_inherited : (f : Forking → List Binding) (o : Option Forking) → ((x : Forking) → o ≡ Some x → ⊥) → option_map_or f o [] ≡ []
none_inherited f None never = refl
none_inherited f (Some x) never = absurd (never x refl)

-- what an actor sees, looked at far enough, is whole
pub bindings_enough : (L : Limits) (h : History) (n m a : ℕ) → Legal L h → a ≤ n → a ≤ m → bindings_within h n a ≡ bindings_within h m a
unfolding bindings_within
bindings_enough L h zero zero a legal first second = refl
bindings_enough L h zero (suc m) a legal first second =
    sym (ap (λ xs. xs ++ stack h a) (none_inherited (λ x. bindings_within (before h x.place) m x.actor) (forking h a) (λ x is. omega (arith, first, (task_given h a x is).0))))
bindings_enough L h (suc n) zero a legal first second =
    ap (λ xs. xs ++ stack h a) (none_inherited (λ x. bindings_within (before h x.place) n x.actor) (forking h a) (λ x is. omega (arith, second, (task_given h a x is).0)))
bindings_enough L h (suc n) (suc m) a legal first second =
    ap (λ xs. xs ++ stack h a) (same_inherited (λ x. bindings_within (before h x.place) n x.actor) (λ x. bindings_within (before h x.place) m x.actor) (forking h a)
    (λ x is. bindings_enough L (before h x.place) n m x.actor (legal_before L h x.place legal) (omega (arith, first, forker_smaller L h a x legal is)) (omega (arith, second, forker_smaller L h a x legal is))))

-- a task sees what its forker saw at the fork, then its own pairs
pub bindings_of_task : (L : Limits) (h : History) (a : ℕ) (f : Forking) → Legal L h → forking h a ≡ Some f → bindings h a ≡ bindings (before h f.place) f.actor ++ stack h a
unfolding bindings bindings_within
bindings_of_task L h a f legal is =
    bindings_enough L h a (suc a) a legal (omega arith) (omega arith)
    ∙ (ap (λ o. option_map_or (λ (x : Forking). bindings_within (before h x.place) a x.actor) o [] ++ stack h a) is
    ∙ ap (λ xs. xs ++ stack h a) (bindings_enough L (before h f.place) a f.actor f.actor (legal_before L h f.place legal) (omega (arith, forker_smaller L h a f legal is)) (omega arith)))

-- main sees its own pairs alone
pub bindings_of_main : (h : History) → bindings h 0 ≡ stack h 0
unfolding bindings bindings_within
bindings_of_main h = refl

-- what an actor inherits is what it inherited at a place before
pub record Inherits (h : History) (n a : ℕ) : Type 0 where
  pub inherited : List Binding
  pub now : bindings h a ≡ inherited ++ stack h a
  pub then : bindings (before h n) a ≡ inherited ++ stack (before h n) a

inherits_main : (h : History) (n a : ℕ) → a ≡ 0 → Inherits h n a
inherits_main h n a main = subst (λ (b : ℕ). Inherits h n b) (sym main) (record { inherited = []; now = bindings_of_main h; then = bindings_of_main (before h n) })

inherits_task : (L : Limits) (h : History) (n a : ℕ) (f : Forking) → Legal L h → forking (before h n) a ≡ Some f → Inherits h n a
inherits_task L h n a f legal is =
    let inside : f.place ≤ n = omega (arith, forking_within (before h n) a f is, length-take n h.events) in
    record {
      inherited = bindings (before h f.place) f.actor;
      now = bindings_of_task L h a f legal (forking_since h a n f is);
      then = bindings_of_task L (before h n) a f (legal_before L h n legal) is ∙ ap (λ (g : History). bindings g f.actor ++ stack (before h n) a) (before_of_before h n f.place inside);
    }

-- who acted at a place inherits since what it inherited there
pub inherits : (L : Limits) (h : History) (n a : ℕ) → Legal L h → (a ≡ 0) ⊎ IsForked (before h n) a → Inherits h n a
inherits L h n a legal who =
    elim who [ inl main ↦ inherits_main h n a main | inr task ↦ inherits_task L h n a task.forked legal task.is ]

-- so its bindings are the same if its own pairs are
pub same_bindings : (h : History) (n a : ℕ) → Inherits h n a → (stack h a ≡ stack (before h n) a) ↔ (bindings h a ≡ bindings (before h n) a)
same_bindings h n a it = (
  λ same. it.now ∙ (ap (λ xs. it.inherited ++ xs) same ∙ sym it.then),
  λ same. append_cancel_left it.inherited (stack h a) (stack (before h n) a) (sym it.now ∙ (same ∙ it.then)),
)

-- the test of a fork compares the actor's own pairs with those at the opening
pub bound_as_opened_own : (h : History) (a s : ℕ) (o : Opening) → opening h s ≡ Some o → Decides (bound_as_opened h a s) (stack h a ≡ stack (before h o.place) a)
unfolding bound_as_opened
bound_as_opened_own h a s o is =
    let told : Decides (same_pairs (stack h a) (stack (before h o.place) a)) (stack h a ≡ stack (before h o.place) a) = same_pairs_tell _ _ in
    subst (λ (x : Option Opening). Decides (option_map_or (bound_as_at h a) x false) (stack h a ≡ stack (before h o.place) a)) (sym is) told

-- the test of a fork says that the actor sees what it saw at the opening
pub bound_as_opened_says : (L : Limits) (h : History) (s : ℕ) (o : Opening) → Legal L h → opening h s ≡ Some o → IsTrue (bound_as_opened h o.actor s) ↔ (bindings h o.actor ≡ bindings (before h o.place) o.actor)
bound_as_opened_says L h s o legal is =
    let own = bound_as_opened_own h o.actor s o is in
    let whole = same_bindings h o.place o.actor (inherits L h o.place o.actor legal (opener_acts L (before h o.place) o (open_was_accepted L h s o legal is))) in
    (λ told. whole.0 (own.0 told), λ same. own.1 (whole.1 same))

-- each task of a scope was forked with the bindings of the scope's opening
pub forked_as_opened : (L : Limits) (h : History) (k : ℕ) (f : Forking) (o : Opening) → Legal L h → forking h k ≡ Some f → opening h f.scope ≡ Some o → bindings (before h f.place) f.actor ≡ bindings (before h o.place) o.actor
forked_as_opened L h k f o legal forked is =
    let ok = fork_was_accepted L h k f legal forked in
    let it = fork_opened L (before h f.place) f ok in
    let p = it.opened in
    let owner : p.actor ≡ f.actor = fork_owned L (before h f.place) f p ok it.is in
    let inside : p.place ≤ f.place = omega (arith, opening_within (before h f.place) f.scope p it.is, length-take f.place h.events) in
    let same : p ≡ o = same_Some p o (sym (opening_since h f.scope f.place p it.is) ∙ is) in
    let told : bound_as_opened (before h f.place) p.actor f.scope ≡ true = ap (λ a. bound_as_opened (before h f.place) a f.scope) owner ∙ fork_bound L (before h f.place) f ok in
    let says = (bound_as_opened_says L (before h f.place) f.scope p (legal_before L h f.place legal) it.is).0 told in
    ap (bindings (before h f.place)) (sym owner)
    ∙ (says
    ∙ (ap (λ (g : History). bindings g p.actor) (before_of_before h f.place p.place inside)
    ∙ ap (λ (x : Opening). bindings (before h x.place) x.actor) same))
