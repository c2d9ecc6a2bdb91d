-- What is read of scopes stays, but for the numbers, if so many others were numbered before.
use Rattle.std.proofs.Common.{ℕ, ◌&&◌, ◌+◌, ◌==◌, ◌∙◌, ◌≡◌, Bool, None, Option, Some, ap, arith, cond, false, length, not, option_map, refl, slice_get, true}
use Rattle.script_journal.specs.{BeginClose, EndClose, Event, Forking, History, Join, Legal, Limits, Opening, around, before, begins_closing, chain_by, closed, closing, closing_at, covers, ends, forked_in, forking}
use Rattle.script_journal.specs.{have_one_opener, innermost, joined, joins, level, next_level, opened_count, opening, option_and_then, option_map_or, outer, parent, surrounding, unclosed_of}
use Rattle.script_journal.proofs.Lemmas.{chain_shifted, fun_ext, length-map, map_or_mapped, parent_inward}
use Rattle.script_journal.proofs.{RaisedEvents.raise, RaisedEvents.raised_at, RaisedEvents.raised_before, RaisedEvents.raised_forking, RaisedEvents.raised_length, RaisedEvents.raised_opened, RaisedEvents.raised_opening}
use Rattle.script_journal.proofs.{Raising.any_raised, Raising.before_behind, Raising.latest_raised, Raising.or_raised, Raising.raised, Raising.same_behind, Raising.up, Raising.up_forking, Raising.up_opening, Raising.up_same}

module _ (S K : ℕ) where
  joins_raised : (s : ℕ) (e : Event) → joins (S + s) (raised S K e) ≡ joins s e
  joins_raised s (Join actor scope) = same_behind S scope s
  joins_raised s _ = refl

  pub raised_joined : (h : History) (s : ℕ) → joined (raise S K h) (S + s) ≡ joined h s
  unfolding joined
  raised_joined h s = any_raised (raised S K) (joins (S + s)) (joins s) (joins_raised s) h.events

  ends_raised : (s : ℕ) (e : Event) → ends (S + s) (raised S K e) ≡ ends s e
  ends_raised s (EndClose actor scope) = same_behind S scope s
  ends_raised s _ = refl

  pub raised_closed : (h : History) (s : ℕ) → closed (raise S K h) (S + s) ≡ closed h s
  unfolding closed
  raised_closed h s = any_raised (raised S K) (ends (S + s)) (ends s) (ends_raised s) h.events

  -- the scope, if the actor opened it and has not closed it
  abbrev its_unclosed : History → ℕ → ℕ → Option ℕ
  its_unclosed h a s = option_and_then (λ o. cond ((o.actor == a) && not (closed h s)) (Some s) None) (opening h s)

  number_if : (b : Bool) (s : ℕ) → cond b (Some (S + s)) None ≡ option_map (λ t. S + t) (cond b (Some s) None)
  number_if true s = refl
  number_if false s = refl

  opener_same : (h : History) (a s : ℕ) (o : Option Opening) → option_and_then (λ (x : Opening). cond ((x.actor == up K a) && not (closed h s)) (Some (S + s)) None) (option_map (up_opening K) o) ≡ option_map (λ t. S + t) (option_and_then (λ (x : Opening). cond ((x.actor == a) && not (closed h s)) (Some s) None) o)
  opener_same h a s None = refl
  opener_same h a s (Some x) = rw (up_same K x.actor a) (number_if ((x.actor == a) && not (closed h s)) s)

  still_unclosed : (h : History) (a s : ℕ) → its_unclosed (raise S K h) (up K a) (S + s) ≡ option_map (λ t. S + t) (its_unclosed h a s)
  still_unclosed h a s = rw (raised_opening S K h s, raised_closed h s) (opener_same h a s (opening h s))

  next_raised : (b n : ℕ) → S + b + 1 + n ≡ S + (b + 1 + n)
  next_raised b n = omega arith

  unclosed_raised : (h : History) (a n : ℕ) → unclosed_of (raise S K h) (up K a) n ≡ option_map (λ t. S + t) (unclosed_of h a n)
  unclosed_raised h a n = ap (its_unclosed (raise S K h) (up K a)) (next_raised h.base.scopes n) ∙ still_unclosed h a (h.base.scopes + 1 + n)

  pub raised_innermost : (h : History) (a : ℕ) → innermost (raise S K h) (up K a) ≡ option_map (λ t. S + t) (innermost h a)
  unfolding innermost
  raised_innermost h a = rw (raised_opened S K h, fun_ext (unclosed_raised h a)) (latest_raised (λ t. S + t) (unclosed_of h a) (opened_count h))

  home_raised : (o : Option Forking) → option_map (λ (f : Forking). f.scope) (option_map (up_forking S K) o) ≡ option_map (λ t. S + t) (option_map (λ (f : Forking). f.scope) o)
  home_raised None = refl
  home_raised (Some f) = refl

  raised_forked_in : (h : History) (a : ℕ) → forked_in (raise S K h) (up K a) ≡ option_map (λ t. S + t) (forked_in h a)
  raised_forked_in h a = rw (raised_forking S K h a) (home_raised (forking h a))

  raised_surrounding : (h : History) (a : ℕ) → surrounding (raise S K h) (up K a) ≡ option_map (λ t. S + t) (surrounding h a)
  unfolding surrounding
  raised_surrounding h a = rw (raised_innermost h a, raised_forked_in h a) (or_raised (λ t. S + t) (innermost h a) (forked_in h a))

  raised_around : (h : History) (o : Opening) → around (raise S K h) (up_opening K o) ≡ option_map (λ t. S + t) (around h o)
  raised_around h o = ap (λ (g : History). surrounding g (up K o.actor)) (raised_before S K h o.place) ∙ raised_surrounding (before h o.place) o.actor

  parent_of : (h : History) (o : Option Opening) → option_and_then (around (raise S K h)) (option_map (up_opening K) o) ≡ option_map (λ t. S + t) (option_and_then (around h) o)
  parent_of h None = refl
  parent_of h (Some o) = raised_around h o

  raised_parent : (h : History) (s : ℕ) → parent (raise S K h) (S + s) ≡ option_map (λ t. S + t) (parent h s)
  unfolding parent
  raised_parent h s = rw (raised_opening S K h s) (parent_of h (opening h s))

  shielded_raised : (shield : Bool) (o p : Option ℕ) → o ≡ option_map (λ t. S + t) p → cond shield None o ≡ option_map (λ t. S + t) (cond shield None p)
  shielded_raised true o p same = refl
  shielded_raised false o p same = same

  outer_of : (h : History) (o : Option Opening) → option_and_then (λ (x : Opening). cond x.options.shield None (around (raise S K h) x)) (option_map (up_opening K) o) ≡ option_map (λ t. S + t) (option_and_then (λ (x : Opening). cond x.options.shield None (around h x)) o)
  outer_of h None = refl
  outer_of h (Some x) = shielded_raised x.options.shield (around (raise S K h) (up_opening K x)) (around h x) (raised_around h x)

  pub raised_outer : (h : History) (s : ℕ) → outer (raise S K h) (S + s) ≡ option_map (λ t. S + t) (outer h s)
  unfolding outer
  raised_outer h s = rw (raised_opening S K h s) (outer_of h (opening h s))

  raised_level : (L : Limits) (h : History) (s : ℕ) → Legal L h → Legal L (raise S K h) → level (raise S K h) (S + s) ≡ level h s
  unfolding level
  raised_level L h s legal later =
      ap length (chain_shifted S (parent h) (parent (raise S K h)) (parent_inward L h legal) (parent_inward L (raise S K h) later) (raised_parent h) s)
      ∙ length-map (chain_by (parent h) s) (λ p. S + p)

  one_more : (f g : ℕ → ℕ) → ((s : ℕ) → f (S + s) ≡ g s) → (o : Option ℕ) → option_map_or (λ p. f p + 1) (option_map (λ t. S + t) o) 1 ≡ option_map_or (λ p. g p + 1) o 1
  one_more f g same None = refl
  one_more f g same (Some p) = rw (same p) refl

  pub raised_next_level : (L : Limits) (h : History) (a : ℕ) → Legal L h → Legal L (raise S K h) → next_level (raise S K h) (up K a) ≡ next_level h a
  unfolding next_level
  raised_next_level L h a legal later = rw (raised_surrounding h a) (one_more (level (raise S K h)) (level h) (λ s. raised_level L h s legal later) (surrounding h a))

  one_opener : (o p : Option Opening) → have_one_opener (option_map (up_opening K) o) (option_map (up_opening K) p) ≡ have_one_opener o p
  one_opener None p = refl
  one_opener (Some a) None = refl
  one_opener (Some a) (Some b) = up_same K a.actor b.actor

  pub raised_covers : (h : History) (t s : ℕ) → covers (raise S K h) (S + t) (S + s) ≡ covers h t s
  unfolding covers
  raised_covers h t s = rw (same_behind S t s, before_behind S t s, raised_closed h s, raised_opening S K h t, raised_opening S K h s, one_opener (opening h t) (opening h s)) refl

  begins_raised : (h : History) (s : ℕ) (e : Event) → begins_closing (raise S K h) (S + s) (raised S K e) ≡ begins_closing h s e
  begins_raised h s (BeginClose actor scope) = raised_covers h scope s
  begins_raised h s _ = refl

  raised_closing_at : (h : History) (s i : ℕ) → closing_at (raise S K h) (S + s) i ≡ closing_at h s i
  raised_closing_at h s i =
      ap (λ (g : History). option_map_or (begins_closing g (S + s)) (slice_get (raise S K h).events i) false) (raised_before S K h i)
      ∙ (ap (λ o. option_map_or (begins_closing (raise S K (before h i)) (S + s)) o false) (raised_at S K h i)
      ∙ map_or_mapped (raised S K) (begins_closing (raise S K (before h i)) (S + s)) (begins_closing (before h i) s) (begins_raised (before h i) s) false (slice_get h.events i))

  pub raised_closing : (h : History) (s : ℕ) → closing (raise S K h) (S + s) ≡ closing h s
  unfolding closing
  raised_closing h s = rw (raised_length S K h, fun_ext (raised_closing_at h s)) refl
