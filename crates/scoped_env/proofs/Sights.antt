-- What an actor sees, and what it inherited, along a history.
use Rattle.std.proofs.Common.{[], ℕ, ◌++◌, ◌<◌, ◌∙◌, ◌≡◌, List, None, Option, Some, ap, arith, length, refl, suc, zero}
use Rattle.scoped_env.specs.{Binding, Event, Forking, History, Layers.Layers, Legal, Limits, Words.before, Words.stack, all_pairs, bindings, bindings_within, followed, forking, inherited_as, inherited_by, layers_of, option_map_or}
use Rattle.scoped_env.specs.{stacked}
use Rattle.scoped_env.proofs.Words.{before_push, bindings_of_main, bindings_of_task, forking_within, main_unforked, stack_push}

-- inherited pairs with own ones above them
abbrev pub layers_at : List Binding → List Binding → Layers
layers_at inherited own = record { inherited = inherited; stack = own }

-- an actor sees what it inherited, then its own pairs
sees_by : (L : Limits) (h : History) (a : ℕ) (o : Option Forking) → Legal L h → forking h a ≡ o → bindings h a ≡ inherited_as h o ++ stack h a
unfolding bindings bindings_within
sees_by L h a (Some f) legal is = bindings_of_task L h a f legal is
sees_by L h zero None legal is = bindings_of_main h
sees_by L h (suc n) None legal is =
    ap (λ o. option_map_or (λ (f : Forking). bindings_within (before h f.place) n f.actor) o [] ++ stack h (suc n)) is

-- what an actor sees is all its pairs
pub sees_layers : (L : Limits) (h : History) (a : ℕ) → Legal L h → bindings h a ≡ all_pairs (layers_of h a)
sees_layers L h a legal = sees_by L h a (forking h a) legal refl

-- if there was no fork nothing is inherited
none_inherited : (h : History) (o : Option Forking) → ((f : Forking) → o ≡ Some f → ⊥) → inherited_as h o ≡ []
none_inherited h None never = refl
none_inherited h (Some f) never = absurd (never f refl)

-- main inherits nothing
pub main_inherits_none : (h : History) → inherited_by h 0 ≡ []
main_inherits_none h = none_inherited h (forking h 0) (λ f is. main_unforked h 0 f refl is)

-- one event more leaves what was seen before a fork
inherited_before : (h : History) (e : Event) (o : Option Forking) → ((f : Forking) → o ≡ Some f → f.place < length h.events) → inherited_as (followed h e) o ≡ inherited_as h o
inherited_before h e None within = refl
inherited_before h e (Some f) within = ap (λ (g : History). bindings g f.actor) (before_push h e f.place (omega (arith, within f refl)))

-- what an actor inherited stays
pub inherited_stays : (h : History) (e : Event) (a : ℕ) → forking (followed h e) a ≡ forking h a → inherited_by (followed h e) a ≡ inherited_by h a
inherited_stays h e a same = ap (inherited_as (followed h e)) same ∙ inherited_before h e (forking h a) (λ f is. forking_within h a f is)

-- the pairs of an actor after an event that does not fork it
pub layers_after : (h : History) (e : Event) (a : ℕ) → forking (followed h e) a ≡ forking h a → layers_of (followed h e) a ≡ layers_at (inherited_by h a) (stacked a (stack h a) e)
layers_after h e a same = ap (λ xs. layers_at xs (stack (followed h e) a)) (inherited_stays h e a same) ∙ ap (layers_at (inherited_by h a)) (stack_push h e a)
