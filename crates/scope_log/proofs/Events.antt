-- What is read of the events of a history is read of it without dues.
use Rattle.std.proofs.Common.{[], ℕ, ◌+◌, ◌==◌, ◌∙◌, ◌∷◌, ◌≡◌, Bool, List, None, Option, Some, ap, cond, count_by, false, length, map, option_map, refl, slice_get, sym, take, true}
use Rattle.scope_log.specs.{Event, Fork, Forking, History, Words.moment, before, followed, forked_count, forking, forking_of, is_fork, is_open, load, numbered_at, opened_count, opening, opening_of, option_and_then, tick_of}
use Rattle.scope_log.specs.{weight, without_due, without_dues}
use Rattle.scope_log.proofs.Words.{fun_ext, length-map, map-append, slice_get-map, take-map}
use Rattle.scope_log.proofs.Mapped.{count_mapped, earliest_mapped, last_mapped, sum_mapped}

open_same : (e : Event) → is_open (without_due e) ≡ is_open e
open_same (Fork actor scope label) = refl
open_same _ = refl

fork_same : (e : Event) → is_fork (without_due e) ≡ is_fork e
fork_same (Fork actor scope label) = refl
fork_same _ = refl

tick_same : (e : Event) → tick_of (without_due e) ≡ tick_of e
tick_same (Fork actor scope label) = refl
tick_same _ = refl

weight_same : (e : Event) → weight (without_due e) ≡ weight e
weight_same (Fork actor scope label) = refl
weight_same _ = refl

pub without_before : (h : History) (i : ℕ) → before (without_dues h) i ≡ without_dues (before h i)
without_before h i = ap (λ (es : List Event). record { base = h.base; events = es }) (take-map without_due i h.events)

pub without_followed : (h : History) (e : Event) → followed (without_dues h) (without_due e) ≡ without_dues (followed h e)
without_followed h e = ap (λ (es : List Event). record { base = h.base; events = es }) (sym (map-append without_due h.events (e ∷ [])))

pub without_length : (h : History) → length (without_dues h).events ≡ length h.events
without_length h = length-map h.events without_due

pub without_at : (h : History) (i : ℕ) → slice_get (without_dues h).events i ≡ option_map without_due (slice_get h.events i)
without_at h i = slice_get-map without_due h.events i

pub same_opened : (h : History) → opened_count (without_dues h) ≡ opened_count h
same_opened h = count_mapped without_due is_open open_same h.events

pub same_forked : (h : History) → forked_count (without_dues h) ≡ forked_count h
same_forked h = count_mapped without_due is_fork fork_same h.events

pub same_load : (h : History) → load (without_dues h) ≡ load h
unfolding load
same_load h = ap (λ n. length h.base.binds + n) (sum_mapped without_due weight weight_same h.events)

pub same_moment : (h : History) → moment (without_dues h) ≡ moment h
unfolding moment
same_moment h = rw (last_mapped without_due tick_of tick_same h.events) refl

-- ---- the numbers that events got

counted : (kind : Event → Bool) → ((e : Event) → kind (without_due e) ≡ kind e) → (es : List Event) (i : ℕ) → count_by kind (take i (map without_due es)) ≡ count_by kind (take i es)
counted kind same es i = ap (count_by kind) (take-map without_due i es) ∙ count_mapped without_due kind same (take i es)

opening_same : (i : ℕ) (o : Option Event) → option_and_then (opening_of i) (option_map without_due o) ≡ option_and_then (opening_of i) o
opening_same i None = refl
opening_same i (Some (Fork actor scope label)) = refl
opening_same i (Some _) = refl

-- the forking, with a label that expects no end
abbrev pub forking_without : Forking → Forking
forking_without f = record f { label = record f.label { due = None } }

forking_same : (i : ℕ) (o : Option Event) → option_and_then (forking_of i) (option_map without_due o) ≡ option_map forking_without (option_and_then (forking_of i) o)
forking_same i None = refl
forking_same i (Some (Fork actor scope label)) = refl
forking_same i (Some _) = refl

opening_at : (h : History) (s i : ℕ) → numbered_at is_open opening_of h.base.scopes (without_dues h).events s i ≡ numbered_at is_open opening_of h.base.scopes h.events s i
opening_at h s i = rw (counted is_open open_same h.events i, without_at h i, opening_same i (slice_get h.events i)) refl

forking_if : (here : Bool) (o : Option Forking) → cond here (option_map forking_without o) None ≡ option_map forking_without (cond here o None)
forking_if true o = refl
forking_if false o = refl

forking_at : (h : History) (k i : ℕ) → numbered_at is_fork forking_of h.base.tasks (without_dues h).events k i ≡ option_map forking_without (numbered_at is_fork forking_of h.base.tasks h.events k i)
forking_at h k i =
    rw (counted is_fork fork_same h.events i, without_at h i, forking_same i (slice_get h.events i))
    (forking_if (h.base.tasks + count_by is_fork (take i h.events) + 1 == k) (option_and_then (forking_of i) (slice_get h.events i)))

pub same_opening : (h : History) → opening (without_dues h) ≡ opening h
unfolding opening
same_opening h = fun_ext (λ s. rw (without_length h, fun_ext (opening_at h s)) refl)

pub same_forking : (h : History) (k : ℕ) → forking (without_dues h) k ≡ option_map forking_without (forking h k)
unfolding forking
same_forking h k = rw (without_length h, fun_ext (forking_at h k)) (earliest_mapped forking_without (numbered_at is_fork forking_of h.base.tasks h.events k) (length h.events))
