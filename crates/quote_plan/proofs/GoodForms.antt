-- Nothing is wrong with the words of an offer exactly if they are in a good form.
use Rattle.std.specs.Prelude.{◌∷◌, ◌≡◌, if◌then◌else◌}
use Rattle.quote_plan.specs.{[], ℕ, ℤ, ◌>>=◌, Bool, Fault, List, Name, None, Option, PlanLine, PlanWhy, Some, failing_said, false, fault_said, is_none, is_runtime_text}
use Rattle.quote_plan.specs.{is_some, just_three, just_two, name_said, offer_said, option_or, price_said, priced_said, true, unless_runtime, why_of_end, why_of_fault, why_of_fault_named, why_of_offer}
use Rattle.quote_plan.specs.{why_of_price}
use Rattle.quote_plan.proofs.Words.{refl}

-- a price
price_of : (said : ℤ → PlanLine) (o : Option ℤ) → is_none (if is_some o then None else Some PlanWhy.BadPrice) ≡ is_some (option_or (o >>= (λ price. Some (said price))) None)
price_of said None = refl
price_of said (Some price) = refl

-- a fault
unless_made : (fault : Fault) (made : Bool) → is_none (if made then Some PlanWhy.RuntimeFault else None) ≡ is_some (if made then None else Some fault)
unless_made fault true = refl
unless_made fault false = refl

named_fault : (o : Option Name) → is_none (why_of_fault_named o) ≡ is_some (o >>= (λ name. unless_runtime (record { 0 = name })))
named_fault None = refl
named_fault (Some name) = unless_made (record { 0 = name }) (is_runtime_text (record { 0 = name }))

fault_of : (word : List ℕ) → is_none (why_of_fault word) ≡ is_some (fault_said word)
unfolding why_of_fault fault_said
fault_of word = named_fault (name_said word)

failing_of : (said : Fault → PlanLine) (fails : Bool) (o : Option Fault) (w : Option PlanWhy) → is_none w ≡ is_some o → is_none (if fails then w else Some PlanWhy.NoForm) ≡ is_some (o >>= (λ fault. if fails then Some (said fault) else None))
failing_of said true None w same = same
failing_of said true (Some fault) w same = same
failing_of said false None w same = refl
failing_of said false (Some fault) w same = refl

-- an offer whose first word is this name, or none
by_name : (word : List ℕ) (end : List (List ℕ)) (o : Option Name) → name_said word ≡ o → is_none (why_of_offer (word ∷ end)) ≡ is_some (offer_said (word ∷ end))
unfolding why_of_offer why_of_end why_of_price offer_said priced_said failing_said just_two just_three
by_name word [] None is = rw is refl
by_name word [] (Some name) is = rw is refl
by_name word (price ∷ []) None is = rw is refl
by_name word (price ∷ []) (Some name) is = rw is (price_of _ (price_said price))
by_name word (fail ∷ fault ∷ []) None is = rw is refl
by_name word (fail ∷ fault ∷ []) (Some name) is = rw is (failing_of _ _ (fault_said fault) (why_of_fault fault) (fault_of fault))
by_name word (fail ∷ fault ∷ next ∷ others) None is = rw is refl
by_name word (fail ∷ fault ∷ next ∷ others) (Some name) is = rw is refl

pub offer_tells : (args : List (List ℕ)) → is_none (why_of_offer args) ≡ is_some (offer_said args)
unfolding why_of_offer offer_said priced_said failing_said just_two just_three
offer_tells [] = refl
offer_tells (word ∷ end) = by_name word end (name_said word) refl
