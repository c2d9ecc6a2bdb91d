-- What one event more makes of the moment and of deadlines.
use Rattle.std.proofs.Common.{[], ℕ, ◌++◌, ◌||◌, ◌∙◌, ◌∷◌, ◌≡◌, Bool, None, Option, Some, ap, cond, false, refl, sym, true, unwrap_or}
use Rattle.scope_rules.specs.{Event, History.History, History.moment, Opening, Scopes.joined, counting_deadline, deadline, followed, joins, last_of, move_of, opening, option_and_then, option_map_or, option_or, tick_of}
use Rattle.scope_rules.proofs.{Growing.opening_stays, OneEventMore.joined_grows, Prefixes.last_of-push}

or_else : {A : Type 0} (o p : Option A) (x : A) → unwrap_or (option_or o p) x ≡ unwrap_or o (unwrap_or p x)
or_else None p x = refl
or_else (Some y) p x = refl

-- the moment is that of the tick, or stays
pub moment_grows : (h : History) (e : Event) → moment (followed h e) ≡ unwrap_or (tick_of e) (moment h)
unfolding moment
moment_grows h e = ap (λ o. unwrap_or o h.base.moment) (last_of-push tick_of h.events e) ∙ or_else (tick_of e) (last_of tick_of h.events) h.base.moment

map_or_else : {A : Type 0} (o p : Option A) (x : A) → option_map_or (λ y. y) (option_or o p) x ≡ option_map_or (λ y. y) o (option_map_or (λ y. y) p x)
map_or_else None p x = refl
map_or_else (Some y) p x = refl

-- the deadline of an opened scope is that of the move, or stays
pub deadline_grows : (h : History) (e : Event) (s : ℕ) (o : Opening) → opening h s ≡ Some o
    → deadline (followed h e) s ≡ option_map_or (λ d. d) (move_of s e) (deadline h s)
unfolding deadline
deadline_grows h e s o is =
    ap (λ (x : Option Opening). option_map_or (λ d. d) (last_of (move_of s) (h.events ++ e ∷ [])) (option_and_then (λ (y : Opening). y.options.deadline) x)) (opening_stays h e s o is)
    ∙ (ap (λ m. option_map_or (λ d. d) m o.options.deadline) (last_of-push (move_of s) h.events e)
    ∙ (map_or_else (move_of s e) (last_of (move_of s) h.events) o.options.deadline
    ∙ ap (λ (x : Option Opening). option_map_or (λ d. d) (move_of s e) (option_map_or (λ d. d) (last_of (move_of s) h.events) (option_and_then (λ (y : Opening). y.options.deadline) x))) (sym is)))

cond_or : {A : Type 0} (a b : Bool) (x : Option A) → cond (a || b) None x ≡ cond b None (cond a None x)
cond_or true true x = refl
cond_or true false x = refl
cond_or false b x = refl

-- the deadline that counts is gone once the scope is joined
pub counting_grows : (h : History) (e : Event) (s : ℕ) (o : Opening) → opening h s ≡ Some o
    → counting_deadline (followed h e) s ≡ cond (joined h s || joins s e) None (option_map_or (λ d. d) (move_of s e) (deadline h s))
unfolding counting_deadline
counting_grows h e s o is =
    ap (λ b. cond b None (deadline (followed h e) s)) (joined_grows h e s)
    ∙ ap (λ d. cond (joined h s || joins s e) None d) (deadline_grows h e s o is)
