-- What is read of scopes is read of them without dues.
use Rattle.std.proofs.Common.{ℕ, ◌∙◌, ◌≡◌, None, Option, Some, ap, cond, false, length, option_map, refl, slice_get}
use Rattle.scope_log.specs.{BeginClose, Event, Fork, Forking, History, Opening, Words.closed, Words.closing, Words.innermost, Words.joined, around, before, begins_closing, chain_by, closing_at, covers, ends, forked_in, forking}
use Rattle.scope_log.specs.{joins, level, next_level, opening, option_and_then, option_map_or, outer, parent, surrounding, unclosed_of, without_due, without_dues}
use Rattle.scope_log.proofs.Words.{fun_ext}
use Rattle.scope_log.proofs.{Events.forking_without, Events.same_forking, Events.same_opened, Events.same_opening, Events.without_at, Events.without_before, Events.without_length, Mapped.any_mapped, Mapped.map_or_mapped}

joins_same : (s : ℕ) (e : Event) → joins s (without_due e) ≡ joins s e
joins_same s (Fork actor scope label) = refl
joins_same s _ = refl

pub same_joined : (h : History) (s : ℕ) → joined (without_dues h) s ≡ joined h s
unfolding joined
same_joined h s = any_mapped without_due (joins s) (joins_same s) h.events

ends_same : (s : ℕ) (e : Event) → ends s (without_due e) ≡ ends s e
ends_same s (Fork actor scope label) = refl
ends_same s _ = refl

pub same_closed : (h : History) → closed (without_dues h) ≡ closed h
unfolding closed
same_closed h = fun_ext (λ s. any_mapped without_due (ends s) (ends_same s) h.events)

same_unclosed : (h : History) (a n : ℕ) → unclosed_of (without_dues h) a n ≡ unclosed_of h a n
same_unclosed h a n = rw (same_opening h, same_closed h) refl

pub same_innermost : (h : History) (a : ℕ) → innermost (without_dues h) a ≡ innermost h a
unfolding innermost
same_innermost h a = rw (same_opened h, fun_ext (same_unclosed h a)) refl

home_same : (o : Option Forking) → option_map (λ (f : Forking). f.scope) (option_map forking_without o) ≡ option_map (λ (f : Forking). f.scope) o
home_same None = refl
home_same (Some f) = refl

same_forked_in : (h : History) (a : ℕ) → forked_in (without_dues h) a ≡ forked_in h a
same_forked_in h a = rw (same_forking h a) (home_same (forking h a))

pub same_surrounding : (h : History) (a : ℕ) → surrounding (without_dues h) a ≡ surrounding h a
unfolding surrounding
same_surrounding h a = rw (same_innermost h a, same_forked_in h a) refl

same_around : (h : History) → around (without_dues h) ≡ around h
same_around h = fun_ext (λ o. ap (λ (g : History). surrounding g o.actor) (without_before h o.place) ∙ same_surrounding (before h o.place) o.actor)

same_parent : (h : History) → parent (without_dues h) ≡ parent h
unfolding parent
same_parent h = fun_ext (λ s. rw (same_opening h) (ap (λ f. option_and_then f (opening h s)) (same_around h)))

pub same_outer : (h : History) → outer (without_dues h) ≡ outer h
unfolding outer
same_outer h = fun_ext (λ s. rw (same_opening h) (ap (λ f. option_and_then (λ (o : Opening). cond o.options.shield None (f o)) (opening h s)) (same_around h)))

same_level : (h : History) → level (without_dues h) ≡ level h
unfolding level
same_level h = ap (λ f s. length (chain_by f s)) (same_parent h)

pub same_next_level : (h : History) (a : ℕ) → next_level (without_dues h) a ≡ next_level h a
unfolding next_level
same_next_level h a = rw (same_surrounding h a, same_level h) refl

pub same_covers : (h : History) (t s : ℕ) → covers (without_dues h) t s ≡ covers h t s
unfolding covers
same_covers h t s = rw (same_closed h, same_opening h) refl

begins_same : (h : History) (s : ℕ) (e : Event) → begins_closing (without_dues h) s (without_due e) ≡ begins_closing h s e
begins_same h s (BeginClose actor scope) = same_covers h scope s
begins_same h s (Fork actor scope label) = refl
begins_same h s _ = refl

same_closing_at : (h : History) (s i : ℕ) → closing_at (without_dues h) s i ≡ closing_at h s i
same_closing_at h s i =
    ap (λ (g : History). option_map_or (begins_closing g s) (slice_get (without_dues h).events i) false) (without_before h i)
    ∙ (ap (λ o. option_map_or (begins_closing (without_dues (before h i)) s) o false) (without_at h i)
    ∙ map_or_mapped without_due (begins_closing (without_dues (before h i)) s) (begins_closing (before h i) s) (begins_same (before h i) s) false (slice_get h.events i))

pub same_closing : (h : History) → closing (without_dues h) ≡ closing h
unfolding closing
same_closing h = fun_ext (λ s. rw (without_length h, fun_ext (same_closing_at h s)) refl)
