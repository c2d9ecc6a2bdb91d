-- The own cancel that one event more gives a scope.
use Rattle.std.proofs.Common.{[], ℕ, ◌+◌, ◌∙◌, ◌∷◌, ◌≡◌, None, Option, Some, ap, arith, cond, length, length-append, option_map, refl}
use Rattle.scope_rules.specs.{CauseKind, Deadline, Event, History.History, Joiner, Opening, OwnCancel, before, direct_kind, followed, joiner_fires, opening, option_or, overdue, own, own_at}
use Rattle.scope_rules.proofs.{Growing.own_grows, OneEventMore.last_event, Pushing.before_all, Pushing.before_last}

-- how the event, the next of h, cancels the scope by itself
abbrev pub kind_next : History → Event → ℕ → Option CauseKind
kind_next h e s = option_or (direct_kind h s e) (cond (joiner_fires (followed h e) s e) (Some Joiner) (cond (overdue (followed h e) s) (Some Deadline) None))

abbrev pub own_from : ℕ → CauseKind → OwnCancel
own_from place kind = record { place = place; kind = kind }

before_next : (h : History) (e : Event) → before (followed h e) (length h.events + 1) ≡ followed h e
before_next h e = before_all (followed h e) (length h.events + 1) (omega (arith, length-append h.events (e ∷ [])))

own_last : (h : History) (e : Event) (s : ℕ) (o : Opening) → opening (followed h e) s ≡ Some o
    → own_at (followed h e) s (length h.events) ≡ option_map (own_from (length h.events)) (kind_next h e s)
unfolding own_at
own_last h e s o is = rw (before_last h e) (rw (before_next h e) (rw (last_event h.events e) (rw is refl)))

-- the own cancel of a scope that is opened by then stays, or is the event's
pub own_next : (h : History) (e : Event) (s : ℕ) (o : Opening) → opening (followed h e) s ≡ Some o
    → own (followed h e) s ≡ option_or (own h s) (option_map (own_from (length h.events)) (kind_next h e s))
own_next h e s o is = own_grows h e s ∙ ap (option_or (own h s)) (own_last h e s o is)
