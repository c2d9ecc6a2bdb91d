-- An actor's own pairs, and how many they are, after one event more.
use Rattle.std.proofs.Common.{[], ℕ, ◌++◌, ◌+◌, ◌-◌, ◌<◌, ◌==◌, ◌∙◌, ◌∷◌, ◌≡◌, ◌≢◌, ◌≤◌, Bool, List, Some, ap, arith, cond, false, length, length-append, refl, slice_get, sym, take, true}
use Rattle.scope_rules.specs.{Bind, Binding, Event, History.History, Unbind, before, followed, height_after, stack, stacked, without_last}
use Rattle.scope_rules.proofs.Words.{eq-eqb, eqb-true, length-take, ne_eqb, take-append-le, take-take}
use Rattle.scope_rules.proofs.{Pushing.before_all, Pushing.before_last, Stacks.length_stacked, Stacks.stack_more}

get_last : {A : Type 0} (xs : List A) (x : A) → slice_get (xs ++ x ∷ []) (length xs) ≡ Some x
get_last [] x = refl
get_last (y ∷ xs) x = get_last xs x

before_whole : (h : History) (e : Event) → before (followed h e) (length h.events + 1) ≡ followed h e
before_whole h e = before_all (followed h e) (length h.events + 1) (omega (arith, length-append h.events (e ∷ [])))

-- an actor's own pairs after an event
pub stack_push : (h : History) (e : Event) (a : ℕ) → stack (followed h e) a ≡ stacked a (stack h a) e
stack_push h e a =
    ap (λ (g : History). stack g a) (sym (before_whole h e))
    ∙ (stack_more (followed h e) a (length h.events) e (get_last h.events e)
    ∙ ap (λ (g : History). stacked a (stack g a) e) (before_last h e))

-- how many they are after it
pub height_push : (h : History) (e : Event) (a : ℕ) → length (stack (followed h e) a) ≡ height_after a (length (stack h a)) e
height_push h e a = ap length (stack_push h e a) ∙ length_stacked a (stack h a) e

-- a bind puts its pair at the end
pub stacked_bind : (a : ℕ) (bs : List Binding) (pair : Binding) → stacked a bs (Bind a pair) ≡ bs ++ pair ∷ []
stacked_bind a bs pair = ap (λ b. cond b (bs ++ pair ∷ []) bs) (eq-eqb a a refl)

-- an unbind takes the last pair
pub stacked_unbind : (a : ℕ) (bs : List Binding) → stacked a bs (Unbind a) ≡ without_last bs
stacked_unbind a bs = ap (λ b. cond b (without_last bs) bs) (eq-eqb a a refl)

-- a bind of another actor changes nothing
pub stacked_bind_other : (a by : ℕ) (bs : List Binding) (pair : Binding) → by ≢ a → stacked a bs (Bind by pair) ≡ bs
stacked_bind_other a by bs pair apart = ap (λ b. cond b (bs ++ pair ∷ []) bs) (ne_eqb by a apart)

-- an unbind of another actor changes nothing
pub stacked_unbind_other : (a by : ℕ) (bs : List Binding) → by ≢ a → stacked a bs (Unbind by) ≡ bs
stacked_unbind_other a by bs apart = ap (λ b. cond b (without_last bs) bs) (ne_eqb by a apart)

-- a bind adds its pair to the actor's own
pub bind_adds : (h : History) (a : ℕ) (pair : Binding) → stack (followed h (Bind a pair)) a ≡ stack h a ++ pair ∷ []
bind_adds h a pair = stack_push h (Bind a pair) a ∙ stacked_bind a (stack h a) pair

-- a bind of another actor leaves the actor's own pairs
pub bind_of_other : (h : History) (a by : ℕ) (pair : Binding) → by ≢ a → stack (followed h (Bind by pair)) a ≡ stack h a
bind_of_other h a by pair apart = stack_push h (Bind by pair) a ∙ stacked_bind_other a by (stack h a) pair apart

-- an unbind takes the last of the actor's own pairs
pub unbind_takes : (h : History) (a : ℕ) → stack (followed h (Unbind a)) a ≡ without_last (stack h a)
unbind_takes h a = stack_push h (Unbind a) a ∙ stacked_unbind a (stack h a)

-- an unbind of another actor leaves the actor's own pairs
pub unbind_of_other : (h : History) (a by : ℕ) → by ≢ a → stack (followed h (Unbind by)) a ≡ stack h a
unbind_of_other h a by apart = stack_push h (Unbind by) a ∙ stacked_unbind_other a by (stack h a) apart

-- a bind makes the stack higher by one
pub bind_heightens : (h : History) (a : ℕ) (pair : Binding) → length (stack (followed h (Bind a pair)) a) ≡ length (stack h a) + 1
bind_heightens h a pair = ap length (bind_adds h a pair) ∙ length-append (stack h a) (pair ∷ [])

-- an unbind makes it lower by one
pub unbind_lowers : (h : History) (a : ℕ) → length (stack (followed h (Unbind a)) a) ≡ length (stack h a) - 1
unbind_lowers h a = ap length (unbind_takes h a) ∙ (length-take (length (stack h a) - 1) (stack h a) ∙ omega arith)

unbind_keeps_by : (b : Bool) (n m : ℕ) → n ≤ m → (b ≡ true → n + 1 ≤ m) → n ≤ cond b (m - 1) m
unbind_keeps_by true n m enough more = omega (arith, more refl)
unbind_keeps_by false n m enough more = enough

bind_keeps_by : (b : Bool) (n m : ℕ) → n ≤ m → n ≤ cond b (m + 1) m
bind_keeps_by true n m enough = omega arith
bind_keeps_by false n m enough = enough

-- a stack falls by an unbind of its actor alone
pub height_kept : (a n m : ℕ) (e : Event) → n ≤ m → (e ≡ Unbind a → n + 1 ≤ m) → n ≤ height_after a m e
height_kept a n m (Bind by pair) enough more = bind_keeps_by (by == a) n m enough
height_kept a n m (Unbind by) enough more = unbind_keeps_by (by == a) n m enough (λ is. more (ap Unbind (eqb-true by a is)))
height_kept a n m _ enough more = enough

take_bind_by : (b : Bool) (n : ℕ) (bs : List Binding) (pair : Binding) → n ≤ length bs → take n (cond b (bs ++ pair ∷ []) bs) ≡ take n bs
take_bind_by true n bs pair within = take-append-le n bs (pair ∷ []) within
take_bind_by false n bs pair within = refl

take_unbind_by : (b : Bool) (n : ℕ) (bs : List Binding) → n ≤ length (cond b (without_last bs) bs) → take n (cond b (without_last bs) bs) ≡ take n bs
take_unbind_by true n bs within = take-take n (length bs - 1) bs (omega (arith, within, length-take (length bs - 1) bs))
take_unbind_by false n bs within = refl

-- an event leaves the pairs that stay as they were
pub stacked_keeps : (a n : ℕ) (bs : List Binding) (e : Event) → n ≤ length bs → n ≤ length (stacked a bs e) → take n (stacked a bs e) ≡ take n bs
stacked_keeps a n bs (Bind by pair) within after = take_bind_by (by == a) n bs pair within
stacked_keeps a n bs (Unbind by) within after = take_unbind_by (by == a) n bs after
stacked_keeps a n bs _ within after = refl

-- an event that makes the stack higher is a bind of its actor
pub record Heightens (a n : ℕ) (bs : List Binding) (e : Event) : Type 0 where
  pub pair : Binding
  pub is : e ≡ Bind a pair
  pub by_one : n ≡ length bs + 1

bind_heightens_by : (a by n : ℕ) (bs : List Binding) (pair : Binding) (b : Bool) → (by == a) ≡ b → length bs < n → n ≤ length (cond b (bs ++ pair ∷ []) bs) → Heightens a n bs (Bind by pair)
bind_heightens_by a by n bs pair true is below after = record {
  pair = pair;
  is = ap (λ m. Bind m pair) (eqb-true by a is);
  by_one = omega (arith, below, after, length-append bs (pair ∷ []));
}
bind_heightens_by a by n bs pair false is below after = absurd (omega (arith, below, after))

unbind_lowers_by : (n : ℕ) (bs : List Binding) (b : Bool) → length bs < n → n ≤ length (cond b (without_last bs) bs) → ⊥
unbind_lowers_by n bs true below after = omega (arith, below, after, length-take (length bs - 1) bs)
unbind_lowers_by n bs false below after = omega (arith, below, after)

pub stacked_heightens : (a n : ℕ) (bs : List Binding) (e : Event) → length bs < n → n ≤ length (stacked a bs e) → Heightens a n bs e
stacked_heightens a n bs (Bind by pair) below after = bind_heightens_by a by n bs pair (by == a) refl below after
stacked_heightens a n bs (Unbind by) below after = absurd (unbind_lowers_by n bs (by == a) below after)
stacked_heightens a n bs _ below after = absurd (omega (arith, below, after))
