-- How what is kept of own deadlines goes on by one event.
use Rattle.std.proofs.Common.{[], ℕ, ◌+◌, ◌∙◌, ◌∷◌, ◌≡◌, ◌≢◌, None, Option, Some, ap, arith, cond, false, length-append, refl, subst, sym}
use Rattle.scope_rows.specs.{AreDeadlinesOf, DeadlineTable.DeadlineTable, Event, HasDeadline, History, Legal, Limits, Move, Open, Opening, Options, Origin, Policy, deadline, deadline_in, followed, is_open, last_of, move_of}
use Rattle.scope_rows.specs.{moves_deadlines, no_deadlines, opening, option_and_then, option_map_or, option_or, place_of, scopes, with_deadline, with_open}
use Rattle.scope_rows.proofs.Words.{IsOpened, count_push, eq-eqb, last_of-push, moved_opened, ne_eqb, next_opening, opened_after, opening_other, opening_same}
use Rattle.scope_rows.proofs.{Altering.altered_length, Keeping.count_same, Places.entry_there, Places.opened_numbered, Places.right_altered, Places.right_pushed}

-- ---- what is there

-- a realm begins with no deadlines
pub begins : (before : ℕ) (b : Origin) (t : DeadlineTable) → t ≡ no_deadlines before → b.scopes ≡ before → AreDeadlinesOf (record { base = b; events = [] }) t
begins before b t is scopes =
    subst (AreDeadlinesOf (record { base = b; events = [] })) (sym is) (record { numbered = sym scopes; count = refl; deadlines = λ i d at. absurd cc })

-- the entry of a scope is its own deadline
pub deadline_there : (h : History) (t : DeadlineTable) (s : ℕ) → HasDeadline t s → AreDeadlinesOf h t → deadline_in t s ≡ deadline h s
deadline_there h t s has are = entry_there (λ n d. d ≡ deadline h n) t.before t.deadlines s None has are.deadlines

-- an opened scope has an entry
pub opened_has_deadline : (h : History) (t : DeadlineTable) (s : ℕ) → AreDeadlinesOf h t → IsOpened h s → HasDeadline t s
opened_has_deadline h t s are it = opened_numbered h t.before t.deadlines s are.numbered are.count it

-- room for more leaves the deadlines
pub roomier : (h : History) (t u : DeadlineTable) → u ≡ record t { spare = u.spare } → AreDeadlinesOf h t → AreDeadlinesOf h u
roomier h t u is are = subst (AreDeadlinesOf h) (sym is) (record { numbered = are.numbered; count = are.count; deadlines = are.deadlines })

-- ---- one event more

-- the last move, or else the deadline of the opening
abbrev given : Option (Option ℕ) → Option Opening → Option ℕ
given m o = option_map_or (λ d. d) m (option_and_then (λ (x : Opening). x.options.deadline) o)

-- the deadline after one event more
deadline_more : (h : History) (e : Event) (s : ℕ) → deadline (followed h e) s ≡ given (option_or (move_of s e) (last_of (move_of s) h.events)) (opening (followed h e) s)
unfolding deadline
deadline_more h e s = ap (λ m. given m (opening (followed h e) s)) (last_of-push (move_of s) h.events e)

-- an event that leaves the opening of the scope, and doesn't move its deadline, leaves that
same_deadline : (h : History) (e : Event) (s : ℕ) → opening (followed h e) s ≡ opening h s → move_of s e ≡ None → deadline (followed h e) s ≡ deadline h s
unfolding deadline
same_deadline h e s same still =
    deadline_more h e s
    ∙ (ap (λ m. given (option_or m (last_of (move_of s) h.events)) (opening (followed h e) s)) still ∙ ap (given (last_of (move_of s) h.events)) same)

opens_none : (e : Event) → moves_deadlines e ≡ false → is_open e ≡ false
opens_none (Open actor policy options) other = absurd cc
opens_none _ other = refl

moves_none : (e : Event) (s : ℕ) → moves_deadlines e ≡ false → move_of s e ≡ None
moves_none (Move scope deadline) s other = absurd cc
moves_none _ s other = refl

-- an event that neither opens nor moves leaves the table
pub deadlines_stay : (h : History) (e : Event) (t : DeadlineTable) → moves_deadlines e ≡ false → AreDeadlinesOf h t → AreDeadlinesOf (followed h e) t
deadlines_stay h e t other are = record {
  numbered = are.numbered;
  count = are.count ∙ sym (count_same is_open h e (opens_none e other));
  deadlines = λ i d at.
      let s = t.before + 1 + i in
      are.deadlines i d at ∙ sym (same_deadline h e s (opening_same h e s (opens_none e other)) (moves_none e s other));
}

-- ---- an open

-- no scope that is still to be opened was moved
unmoved_by : (L : Limits) (h : History) (m : Option (Option ℕ)) → Legal L h → last_of (move_of (scopes h + 1)) h.events ≡ m → m ≡ None
unmoved_by L h None legal is = refl
unmoved_by L h (Some d) legal is =
    let it = moved_opened L h (scopes h + 1) d legal is in
    let number = opened_after h (scopes h + 1) it.opened it.is in
    absurd (omega (arith, number.1, number.2))

module _ (L : Limits) (h : History) (t : DeadlineTable) (a : ℕ) (policy : Policy) (options : Options) (legal : Legal L h) (are : AreDeadlinesOf h t) where
  -- the new scope has the deadline that it is opened with
  new_deadline : deadline (followed h (Open a policy options)) (scopes h + 1) ≡ options.deadline
  new_deadline =
      let s = scopes h + 1 in
      deadline_more h (Open a policy options) s
      ∙ (ap (λ m. given m (opening (followed h (Open a policy options)) s)) (unmoved_by L h (last_of (move_of s) h.events) legal refl) ∙ ap (given None) (next_opening h a policy options))

  one_opened : AreDeadlinesOf (followed h (Open a policy options)) (with_open t options.deadline)
  one_opened = record {
    numbered = are.numbered;
    count = let longer = length-append t.deadlines (options.deadline ∷ []) in let pushed = count_push is_open h.events (Open a policy options) in omega (arith, longer, pushed, are.count);
    deadlines =
        let e = Open a policy options in
        right_pushed (λ n d. d ≡ deadline h n) (λ n d. d ≡ deadline (followed h e) n) t.before t.deadlines options.deadline (scopes h + 1) (omega (arith, are.numbered, are.count))
        (λ n d less it. it ∙ sym (same_deadline h e n (opening_other h e n (λ same. omega (arith, same, less))) refl)) (sym new_deadline) are.deadlines;
  }

-- an open adds a scope with its deadline
pub opened_agrees : (L : Limits) (h : History) (t u : DeadlineTable) (a : ℕ) (policy : Policy) (options : Options) (d : Option ℕ) → u ≡ with_open t d → options.deadline ≡ d → Legal L h → AreDeadlinesOf h t → AreDeadlinesOf (followed h (Open a policy options)) u
opened_agrees L h t u a policy options d is given_so legal are =
    subst (AreDeadlinesOf (followed h (Open a policy options))) (sym (is ∙ ap (with_open t) (sym given_so))) (one_opened L h t a policy options legal are)

-- ---- a move

module _ (h : History) (t : DeadlineTable) (s : ℕ) (d : Option ℕ) (has : HasDeadline t s) (are : AreDeadlinesOf h t) where
  moved_here : deadline (followed h (Move s d)) s ≡ d
  moved_here =
      deadline_more h (Move s d) s
      ∙ ap (λ b. given (option_or (cond b (Some d) None) (last_of (move_of s) h.events)) (opening (followed h (Move s d)) s)) (eq-eqb s s refl)

  moved_there : (n : ℕ) → s ≢ n → deadline (followed h (Move s d)) n ≡ deadline h n
  moved_there n apart = same_deadline h (Move s d) n (opening_same h (Move s d) n refl) (ap (λ b. cond b (Some d) None) (ne_eqb s n apart))

  one_moved : AreDeadlinesOf (followed h (Move s d)) (with_deadline t s d)
  one_moved = record {
    numbered = are.numbered;
    count = altered_length (λ old. d) t.deadlines (place_of t.before s) ∙ (are.count ∙ sym (count_same is_open h (Move s d) refl));
    deadlines =
        right_altered (λ n x. x ≡ deadline h n) (λ n x. x ≡ deadline (followed h (Move s d)) n) (λ old. d) t.before t.deadlines s has.0 (λ n x apart it. it ∙ sym (moved_there n (λ same. apart (sym same)))) (λ x at it. sym moved_here) are.deadlines;
  }

-- a move sets the deadline of its scope
pub moved_agrees : (h : History) (t u : DeadlineTable) (s : ℕ) (d : Option ℕ) → u ≡ with_deadline t s d → HasDeadline t s → AreDeadlinesOf h t → AreDeadlinesOf (followed h (Move s d)) u
moved_agrees h t u s d is has are = subst (AreDeadlinesOf (followed h (Move s d))) (sym is) (one_moved h t s d has are)
