-- Whether states are those that are due, place by place.
use Rattle.std.specs.Prelude.{◌<◌, ◌==◌, ◌↔◌, ◌∷◌, ◌≡◌}
use Rattle.quote_plan.specs.{[], ℕ, Bool, IsTrue, List, Some, false, get_or, length, map, slice_get, true}
use Rattle.quote_plan.proofs.Words.{◌∙◌, ap, arith, eq-eqb, eqb-true, option_map, refl, slice_get-map, slice_get_read, suc, sym}

module _ {A : Type 0} where
  same_places : (xs ys : List A) → length xs ≡ length ys → ((k : ℕ) → k < length xs → slice_get xs k ≡ slice_get ys k) → xs ≡ ys
  same_places [] [] len same = refl
  same_places [] (y ∷ ys) len same = absurd (omega arith)
  same_places (x ∷ xs) [] len same = absurd (omega arith)
  same_places (x ∷ xs) (y ∷ ys) len same =
      let first : Some x ≡ Some y = same 0 (omega arith) in
      let rest : xs ≡ ys = same_places xs ys (omega arith) (λ k below. same (suc k) (omega arith)) in
      cc

  -- all places agree: the lists are one if they are equally long
  pub agree : (xs ys : List A) (m n : ℕ) → length xs ≡ m → length ys ≡ n → ((k : ℕ) → k < m → slice_get xs k ≡ slice_get ys k) → IsTrue (m == n) ↔ (xs ≡ ys)
  agree xs ys m n len other same =
      (λ yes. same_places xs ys (len ∙ (eqb-true m n yes ∙ sym other)) (λ k below. same k (omega (arith, len))), λ is. eq-eqb m n (sym len ∙ (ap length is ∙ other)))

  -- one place differs
  pub differ : (xs ys : List A) (k : ℕ) (x : A) (told : Bool) → slice_get xs k ≡ Some x → told ≡ false → (IsTrue told ↔ (slice_get ys k ≡ Some x)) → xs ≡ ys → ⊥
  differ xs ys k x told at untrue tells same =
      let yes : told ≡ true = tells.1 (sym (ap (λ l. slice_get l k) same) ∙ at) in cc

-- what stands at a place of the states
pub state_at : {T A : Type 0} (state : T → A) (tasks : List T) (k : ℕ) (task : T) → k < length tasks → task ≡ get_or tasks k task → slice_get (map state tasks) k ≡ Some (state task)
state_at state tasks k task below is =
    slice_get-map state tasks k ∙ ap (option_map state) (slice_get_read tasks (length tasks) k task refl below is)
