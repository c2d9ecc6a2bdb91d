-- How an actor's own pairs change by one event.
use Rattle.std.proofs.Common.{[], ℕ, ◌++◌, ◌+◌, ◌-◌, ◌<◌, ◌==◌, ◌∙◌, ◌∷◌, ◌≡◌, ◌≢◌, ◌≤◌, Bool, List, None, Option, Some, ap, arith, cond, false, fold, length, length-append, nat_le, refl, slice_get, suc, sym, take, true, zero}
use Rattle.scope_rules.specs.{Bind, Binding, Event, History.History, Name, Unbind, Value, before, bound_to, cons_option, first_stack, height_after, option_or, pair_after, stack, stacked, value_under, without_last}
use Rattle.scope_rules.proofs.Words.{eqb-false, eqb-true, leb-false, leb-true, length-take, slice_get_past, take_all}
use Rattle.scope_rules.proofs.Prefixes.{option_or-assoc, option_or-none, take_at}

fold-push : {A B : Type 0} (f : B → A → B) (z : B) (xs : List A) (x : A) → fold f z (xs ++ x ∷ []) ≡ f (fold f z xs) x
fold-push f z [] x = refl
fold-push f z (y ∷ ys) x = fold-push f (f z y) ys x

pub stack_none : (h : History) (a : ℕ) → stack (before h 0) a ≡ first_stack h a
unfolding stack
stack_none h a = refl

pub stack_more : (h : History) (a i : ℕ) (e : Event) → slice_get h.events i ≡ Some e → stack (before h (i + 1)) a ≡ stacked a (stack (before h i) a) e
unfolding stack
stack_more h a i e at = ap (fold (stacked a) (first_stack h a)) (take_at h.events i e at) ∙ fold-push (stacked a) (first_stack h a) (take i h.events) e

pub stack_whole : (h : History) (a i : ℕ) → length h.events ≤ i → stack (before h i) a ≡ stack h a
unfolding stack
stack_whole h a i all = ap (fold (stacked a) (first_stack h a)) (take_all i h.events all)

length_if : (b : Bool) (xs ys : List Binding) → length (cond b xs ys) ≡ cond b (length xs) (length ys)
length_if true xs ys = refl
length_if false xs ys = refl

length_without_last : (bs : List Binding) → length (without_last bs) ≡ length bs - 1
length_without_last bs = length-take (length bs - 1) bs ∙ omega arith

pub length_stacked : (a : ℕ) (bs : List Binding) (e : Event) → length (stacked a bs e) ≡ height_after a (length bs) e
length_stacked a bs (Bind by pair) = length_if (by == a) _ _ ∙ ap (λ n. cond (by == a) n (length bs)) (length-append bs (pair ∷ []))
length_stacked a bs (Unbind by) = length_if (by == a) _ _ ∙ ap (λ n. cond (by == a) n (length bs)) (length_without_last bs)
length_stacked a bs _ = refl

pub height_more : (h : History) (a i n : ℕ) (e : Event) → slice_get h.events i ≡ Some e → n ≡ length (stack (before h i) a) → height_after a n e ≡ length (stack (before h (i + 1)) a)
height_more h a i n e at so = ap (λ m. height_after a m e) so ∙ (sym (length_stacked a (stack (before h i) a) e) ∙ ap length (sym (stack_more h a i e at)))

-- at most one pair more
pub cond_bound : (b : Bool) (m n k : ℕ) → m ≤ k → n ≤ k → cond b m n ≤ k
cond_bound true m n k first second = first
cond_bound false m n k first second = second

pub height_bound : (a n : ℕ) (e : Event) → height_after a n e ≤ n + 1
height_bound a n (Bind by pair) = cond_bound (by == a) (n + 1) n (n + 1) (omega arith) (omega arith)
height_bound a n (Unbind by) = cond_bound (by == a) (n - 1) n (n + 1) (omega arith) (omega arith)
height_bound a n _ = omega arith

slice_get_end : (bs : List Binding) (pair : Binding) → slice_get (bs ++ pair ∷ []) (length bs) ≡ Some pair
slice_get_end [] pair = refl
slice_get_end (b ∷ bs) pair = slice_get_end bs pair

slice_get_before_end : (bs : List Binding) (pair : Binding) (j : ℕ) → length bs ≢ j → slice_get (bs ++ pair ∷ []) j ≡ slice_get bs j
slice_get_before_end [] pair zero apart = absurd (apart refl)
slice_get_before_end [] pair (suc j) apart = refl
slice_get_before_end (b ∷ bs) pair zero apart = refl
slice_get_before_end (b ∷ bs) pair (suc j) apart = slice_get_before_end bs pair j (λ same. apart (ap suc same))

push_by : (b : Bool) (bs : List Binding) (pair : Binding) (j : ℕ) → (length bs == j) ≡ b → slice_get (bs ++ pair ∷ []) j ≡ cond b (Some pair) (slice_get bs j)
push_by true bs pair j is = ap (slice_get (bs ++ pair ∷ [])) (sym (eqb-true _ _ is)) ∙ slice_get_end bs pair
push_by false bs pair j is = slice_get_before_end bs pair j (eqb-false _ _ is)

slice_get-push : (bs : List Binding) (pair : Binding) (j : ℕ) → slice_get (bs ++ pair ∷ []) j ≡ cond (length bs == j) (Some pair) (slice_get bs j)
slice_get-push bs pair j = push_by (length bs == j) bs pair j refl

slice_get_take : (bs : List Binding) (n j : ℕ) → j < n → slice_get (take n bs) j ≡ slice_get bs j
slice_get_take bs zero j within = absurd (omega arith)
slice_get_take [] (suc n) j within = refl
slice_get_take (b ∷ bs) (suc n) zero within = refl
slice_get_take (b ∷ bs) (suc n) (suc j) within = slice_get_take bs n j (omega arith)

take_by : (b : Bool) (bs : List Binding) (n j : ℕ) → nat_le n j ≡ b → slice_get (take n bs) j ≡ cond b None (slice_get bs j)
take_by true bs n j is = slice_get_past (take n bs) j (rw length-take (omega (arith, leb-true _ _ is)))
take_by false bs n j is = slice_get_take bs n j (leb-false _ _ is)

slice_get-without_last : (bs : List Binding) (j : ℕ) → slice_get (without_last bs) j ≡ cond (nat_le (length bs - 1) j) None (slice_get bs j)
slice_get-without_last bs j = take_by (nat_le (length bs - 1) j) bs (length bs - 1) j refl

slice_get_if : (b : Bool) (xs ys : List Binding) (j : ℕ) → slice_get (cond b xs ys) j ≡ cond b (slice_get xs j) (slice_get ys j)
slice_get_if true xs ys j = refl
slice_get_if false xs ys j = refl

pair_stacked : (a j : ℕ) (bs : List Binding) (e : Event) → slice_get (stacked a bs e) j ≡ pair_after a j (length bs) (slice_get bs j) e
pair_stacked a j bs (Bind by pair) = slice_get_if (by == a) _ _ j ∙ ap (λ o. cond (by == a) o (slice_get bs j)) (slice_get-push bs pair j)
pair_stacked a j bs (Unbind by) = slice_get_if (by == a) _ _ j ∙ ap (λ o. cond (by == a) o (slice_get bs j)) (slice_get-without_last bs j)
pair_stacked a j bs _ = refl

pub pair_more : (h : History) (a j i n : ℕ) (pair : Option Binding) (e : Event) → slice_get h.events i ≡ Some e → n ≡ length (stack (before h i) a) → pair ≡ slice_get (stack (before h i) a) j
    → pair_after a j n pair e ≡ slice_get (stack (before h (i + 1)) a) j
pair_more h a j i n pair e at so same =
    ap (λ m. pair_after a j m pair e) so ∙ ap (λ o. pair_after a j (length (stack (before h i) a)) o e) same
    ∙ sym (pair_stacked a j (stack (before h i) a) e) ∙ ap (λ bs. slice_get bs j) (sym (stack_more h a i e at))

none_within : (bs : List Binding) (i : ℕ) → slice_get bs i ≡ None → i < length bs → ⊥
none_within [] i is within = omega arith
none_within (b ∷ bs) zero is within = cc
none_within (b ∷ bs) (suc i) is within = none_within bs i is (omega arith)

bound_to-push : (key : Name) (bs : List Binding) (pair : Binding) → bound_to key (bs ++ pair ∷ []) ≡ option_or (value_under key (Some pair)) (bound_to key bs)
unfolding bound_to
bound_to-push key [] pair = sym (option_or-none _)
bound_to-push key (b ∷ bs) pair = rw (bound_to-push key bs pair) (option_or-assoc (value_under key (Some pair)) (bound_to key bs) (value_under key (Some b)))

pub bound_to_append : (key : Name) (xs ys : List Binding) → bound_to key (xs ++ ys) ≡ option_or (bound_to key ys) (bound_to key xs)
unfolding bound_to
bound_to_append key [] ys = sym (option_or-none _)
bound_to_append key (b ∷ bs) ys = rw (bound_to_append key bs ys) (option_or-assoc (bound_to key ys) (bound_to key bs) (value_under key (Some b)))

-- the next pair from below
pub bound_at : (key : Name) (bs : List Binding) (i : ℕ) (pair : Option Binding) (found : Option Value) → pair ≡ slice_get bs i → i < length bs → found ≡ bound_to key (take i bs) → option_or (value_under key pair) found ≡ bound_to key (take (i + 1) bs)
bound_at key bs i None found is within so = absurd (none_within bs i (sym is) within)
bound_at key bs i (Some pair) found is within so = ap (option_or (value_under key (Some pair))) so ∙ (sym (bound_to-push key (take i bs) pair) ∙ ap (bound_to key) (sym (take_at bs i pair (sym is))))

pub bound_to_none : (key : Name) → bound_to key [] ≡ None
unfolding bound_to
bound_to_none key = refl

-- the pair at the next place comes after those below it
pub take_option : (bs : List Binding) (i : ℕ) (pair : Option Binding) → pair ≡ slice_get bs i → i < length bs → take i bs ++ cons_option pair [] ≡ take (i + 1) bs
take_option bs i None is within = absurd (none_within bs i (sym is) within)
take_option bs i (Some pair) is within = sym (take_at bs i pair (sym is))
