-- What a tick, binds and retirements leave of a fresh realm.
use Rattle.std.proofs.Common.{[], ℕ, ◌++◌, ◌+◌, ◌<◌, ◌∙◌, ◌∷◌, ◌≡◌, ◌≤◌, List, None, Ok, Option, Some, ap, append-nil, append_assoc, arith, count_by, false, fold, length, map, nat_lt, option_map, refl, slice_get, subst, suc}
use Rattle.std.proofs.Common.{sum_by, sym, take, zero}
use Rattle.script_journal.specs.{Accepts, Binding, Event, History, Legal, Limits, Origin, base_of, before, checks, innermost, is_fork, is_open, known_actor, last_of, latest, load, moment, opened_count, retire_check, row_check}
use Rattle.script_journal.specs.{stack, stacked, the_start, then_check, tick_of, weight}
use Rattle.script_journal.proofs.Lemmas.{count_by-cons, length-take, nat_tests, slice_get-map, slice_get_within, take-map}
use Rattle.scope_rules.specs.declared.types.events.Event.TheVariants as event

-- a history of the base
abbrev pub from : Origin → List Event → History
from base es = record { base = base; events = es }

-- a base before which no scope or task was numbered
abbrev pub unnumbered : ℕ → List Binding → Origin
unnumbered moment pairs = record { moment = moment; scopes = 0; tasks = 0; binds = pairs }

-- main may retire where no scope was opened
pub may_retire : (h : History) → opened_count h ≡ 0 → retire_check h 0 ≡ Ok tt
unfolding retire_check checks then_check known_actor innermost latest
may_retire h none = rw none refl

tick_accepted : (L : Limits) (n : ℕ) → 1 ≤ L.load → Accepts L (from the_start []) (event.Tick n)
unfolding row_check checks then_check load moment last_of
tick_accepted L n some_load =
    let forward : nat_lt n 0 ≡ false = grind (arith, nat_tests) in
    let fits : nat_lt L.load (0 + 0 + 1) ≡ false = grind (arith, nat_tests) in
    record { passed = rw (forward, fits) refl; recorded = refl }

pub tick_legal : (L : Limits) (n : ℕ) → 1 ≤ L.load → Legal L (from the_start (event.Tick n ∷ []))
unfolding Legal
tick_legal L n some_load zero e at = let same : event.Tick n ≡ e = cc in subst (λ (d : Event). Accepts L (from the_start []) d) same (tick_accepted L n some_load)
tick_legal L n some_load (suc i) e at = absurd cc

pub tick_leaves : (n : ℕ) → base_of (from the_start (event.Tick n ∷ [])) ≡ unnumbered n []
unfolding base_of moment last_of stack
tick_leaves n = refl

abbrev pub bind_of : Binding → Event
bind_of pair = event.Bind 0 pair

pub bound_there : (o : Option Binding) (e : Event) → option_map bind_of o ≡ Some e → (pair : Binding) × (o ≡ Some pair) × (bind_of pair ≡ e)
bound_there None e is = absurd cc
bound_there (Some pair) e is = (pair, refl, cc)

bound_load : (pairs : List Binding) → sum_by weight (map bind_of pairs) ≡ length pairs
bound_load pairs = weighed 0 pairs ∙ omega arith
  where
    weighed : (a : ℕ) (ps : List Binding) → fold (λ b x. b + weight x) a (map bind_of ps) ≡ a + length ps
    weighed a [] = omega arith
    weighed a (pair ∷ ps) = omega (arith, weighed (a + 1) ps)

pub none_opened : (pairs : List Binding) → count_by is_open (map bind_of pairs) ≡ 0
none_opened [] = refl
none_opened (pair ∷ pairs) = count_by-cons is_open (bind_of pair) (map bind_of pairs) ∙ omega (arith, none_opened pairs)

none_forked : (pairs : List Binding) → count_by is_fork (map bind_of pairs) ≡ 0
none_forked [] = refl
none_forked (pair ∷ pairs) = count_by-cons is_fork (bind_of pair) (map bind_of pairs) ∙ omega (arith, none_forked pairs)

no_tick : (pairs : List Binding) → last_of tick_of (map bind_of pairs) ≡ None
unfolding last_of
no_tick [] = refl
no_tick (pair ∷ pairs) = rw (no_tick pairs) refl

all_stacked : (first pairs : List Binding) → fold (stacked 0) first (map bind_of pairs) ≡ first ++ pairs
all_stacked first [] = sym (append-nil first)
all_stacked first (pair ∷ pairs) = all_stacked (first ++ pair ∷ []) pairs ∙ append_assoc first (pair ∷ []) pairs

-- the pairs bound behind a moment
abbrev pub binding : ℕ → List Binding → History
binding n pairs = from (unnumbered n []) (map bind_of pairs)

pub binds_leave : (n : ℕ) (pairs : List Binding) → base_of (binding n pairs) ≡ unnumbered n pairs
unfolding base_of moment stack
binds_leave n pairs = rw (no_tick pairs, none_opened pairs, none_forked pairs, all_stacked [] pairs) refl

bind_accepted : (L : Limits) (n : ℕ) (done : List Binding) (pair : Binding) → length done < L.load → Accepts L (binding n done) (bind_of pair)
unfolding row_check checks then_check load known_actor
bind_accepted L n done pair less =
    let fits : nat_lt L.load (0 + length done + 1) ≡ false = grind (arith, nat_tests) in
    record { passed = rw (bound_load done, fits) refl; recorded = refl }

pub binds_legal : (L : Limits) (n : ℕ) (pairs : List Binding) → length pairs ≤ L.load → Legal L (binding n pairs)
unfolding Legal
binds_legal L n pairs less i e at =
    let it = bound_there (slice_get pairs i) e (sym (slice_get-map bind_of pairs i) ∙ at) in
    let done : before (binding n pairs) i ≡ binding n (take i pairs) = ap (from (unnumbered n [])) (take-map bind_of i pairs) in
    let within : length (take i pairs) < L.load = omega (arith, length-take i pairs, slice_get_within pairs i it.0 it.1) in
    subst (λ (h : History). Accepts L h e) (sym done) (subst (λ (d : Event). Accepts L (binding n (take i pairs)) d) it.2 (bind_accepted L n (take i pairs) it.0 within))
