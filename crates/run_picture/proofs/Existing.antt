-- Each number that was given has an opening or a forking; and lists of rows, one row more.
use Rattle.std.specs.Prelude.{◌++◌, ◌+◌, ◌<◌, ◌∷◌, ◌≡◌, ◌≤◌}
use Rattle.run_picture.specs.{[], ℕ, Bool, Event, Fork, History, List, None, Open, Option, Some, cond, count_by, earliest, false, forked_count, forking, forking_of}
use Rattle.run_picture.specs.{is_fork, is_open, is_some, length, numbered_at, opened_count, opening, opening_of, option_and_then, option_or, slice_get, suc, true, zero}
use Rattle.run_picture.proofs.Lemmas.{◌∙◌, add-one, ap, arith, cases_lt, count_by_at, eq-eqb, inl, inr, refl, subst, take, take_all}

some_left : {A : Type 0} (a b : Option A) → is_some a ≡ true → is_some (option_or a b) ≡ true
some_left None b some = absurd cc
some_left (Some x) b some = refl

some_right : {A : Type 0} (a b : Option A) → is_some b ≡ true → is_some (option_or a b) ≡ true
some_right None b some = some
some_right (Some x) b some = refl

pub entry_there : {A : Type 0} (xs : List A) (n : ℕ) → n < length xs → (x : A) × (slice_get xs n ≡ Some x)
entry_there [] n within = absurd (omega arith)
entry_there (e ∷ es) zero within = (e, refl)
entry_there (e ∷ es) (suc n) within = entry_there es n (omega arith)

module _ {R : Type 0} (kind : Event → Bool) (shown : ℕ → Event → Option R) (gives : (i : ℕ) (e : Event) → kind e ≡ true → is_some (shown i e) ≡ true) (start : ℕ) (es : List Event) where
  -- the event that gets the number is found at its place
  found_here : (k n : ℕ) (e : Event) (b : Bool) → kind e ≡ b → slice_get es n ≡ Some e → count_by kind (take n es) ≤ k → k < count_by kind (take n es) + cond b 1 0 → is_some (numbered_at kind shown start es (start + 1 + k) n) ≡ true
  found_here k n e false is at late less = absurd (omega arith)
  found_here k n e true is at late less =
      ap (λ b. is_some (cond b (option_and_then (shown n) (slice_get es n)) None)) (eq-eqb (start + count_by kind (take n es) + 1) (start + 1 + k) (omega arith))
      ∙ (ap (λ o. is_some (option_and_then (shown n) o)) at ∙ gives n e is)

  numbered_there : (k n : ℕ) → n ≤ length es → k < count_by kind (take n es) → is_some (earliest (numbered_at kind shown start es (start + 1 + k)) n) ≡ true
  unfolding earliest
  numbered_there k zero within less = absurd (omega arith)
  numbered_there k (suc n) within less =
      let f = numbered_at kind shown start es (start + 1 + k) in
      let entry = entry_there es n (omega arith) in
      let more = rw add-one at (count_by_at kind es n entry.0 entry.1) in
      elim (cases_lt k (count_by kind (take n es))) [
        | inl sooner ↦ some_left (earliest f n) (f n) (numbered_there k n (omega arith) sooner)
        | inr late ↦ some_right (earliest f n) (f n) (found_here k n entry.0 (kind entry.0) refl entry.1 late (omega (arith, less, more)))
      ]

  pub numbered_all : (k : ℕ) → k < count_by kind es → is_some (earliest (numbered_at kind shown start es (start + 1 + k)) (length es)) ≡ true
  numbered_all k less =
      let whole : take (length es) es ≡ es = take_all (length es) es (omega arith) in
      numbered_there k (length es) (omega arith) (omega (arith, less, ap (count_by kind) whole))

open_gives : (i : ℕ) (e : Event) → is_open e ≡ true → is_some (opening_of i e) ≡ true
open_gives i (Open actor policy options) is = refl
open_gives i _ is = absurd cc

fork_gives : (i : ℕ) (e : Event) → is_fork e ≡ true → is_some (forking_of i e) ≡ true
fork_gives i (Fork actor scope label) is = refl
fork_gives i _ is = absurd cc

-- each scope since the base has its opening
pub opened_there : (h : History) (k : ℕ) → k < opened_count h → is_some (opening h (h.base.scopes + 1 + k)) ≡ true
unfolding opening
opened_there h k less = numbered_all is_open opening_of open_gives h.base.scopes h.events k less

-- each task since the base has its forking
pub forked_there : (h : History) (k : ℕ) → k < forked_count h → is_some (forking h (h.base.tasks + 1 + k)) ≡ true
unfolding forking
forked_there h k less = numbered_all is_fork forking_of fork_gives h.base.tasks h.events k less

-- what holds of each row holds of each of one row more
pub rows_more : {A : Type 0} (P : ℕ → A → Type 0) (xs : List A) (x : A) → ((i : ℕ) (y : A) → slice_get xs i ≡ Some y → P i y) → P (length xs) x → (i : ℕ) (y : A) → slice_get (xs ++ x ∷ []) i ≡ Some y → P i y
rows_more P [] x all last zero y at = let same : x ≡ y = cc in subst (P 0) same last
rows_more P [] x all last (suc i) y at = absurd cc
rows_more P (z ∷ zs) x all last zero y at = all 0 y at
rows_more P (z ∷ zs) x all last (suc i) y at = rows_more (λ j. P (suc j)) zs x (λ j w there. all (suc j) w there) last i y at
