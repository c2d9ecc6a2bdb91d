-- What lists of pairs are together, and what an environment keeps after a bind and an unbind.
use Rattle.std.proofs.Common.{[], ℕ, ◌++◌, ◌+◌, ◌-◌, ◌<◌, ◌∙◌, ◌∷◌, ◌≡◌, ◌≤◌, List, None, Option, Some, ap, append-nil, append_assoc, arith, drop, false, length, length-append, refl, slice_get, subst, suc, sym, take, true, zero}
use Rattle.scoped_env.specs.{BeginsWith, Binding, IfSome, Keeps, Name, Value, bound_to, is_some, joined, option_or, without_last}
use Rattle.scoped_env.proofs.Words.{bound_to_append, length-drop, length-take, take-add, take-append-add, take-append-drop, take-append-le, take-append_seam, take_all, take_at, take_min}
use Rattle.scoped_env.proofs.Indexing.{none_bound, within_get}

pub joined_append : (xs ys : List (List Binding)) → joined (xs ++ ys) ≡ joined xs ++ joined ys
joined_append [] ys = refl
joined_append (x ∷ xs) ys = ap (λ l. x ++ l) (joined_append xs ys) ∙ sym (append_assoc x (joined xs) (joined ys))

-- one list more
pub joined_more : (xs : List (List Binding)) (x : List Binding) → joined (xs ++ x ∷ []) ≡ joined xs ++ x
joined_more xs x = joined_append xs (x ∷ []) ∙ ap (λ l. joined xs ++ l) (append-nil x)

-- the lists up to the next one
pub joined_next : (lists : List (List Binding)) (i : ℕ) (list : List Binding) → slice_get lists i ≡ Some list → joined (take (i + 1) lists) ≡ joined (take i lists) ++ list
joined_next lists i list at = ap joined (take_at lists i list at) ∙ joined_more (take i lists) list

-- the lists from a place on as one
pub joined_from : (lists front back others new : List (List Binding)) (n : ℕ) (last : List Binding) → front ≡ take n lists → back ≡ drop n lists → joined others ≡ joined front → last ≡ joined back → new ≡ others ++ last ∷ [] → joined new ≡ joined lists
joined_from lists front back others new n last before behind same whole is =
    ap joined is
    ∙ (joined_more others last
    ∙ (ap (λ xs. xs ++ last) same
    ∙ (ap (λ xs. joined front ++ xs) whole
    ∙ (sym (joined_append front back)
    ∙ ap joined (ap (λ xs. xs ++ back) before ∙ (ap (λ xs. take n lists ++ xs) behind ∙ take-append-drop n lists))))))

-- where there is a pair, there is a list
pub joined_some : (lists : List (List Binding)) → 0 < length (joined lists) → 0 < length lists
joined_some [] some = some
joined_some (list ∷ lists) some = omega arith

-- one list less
pub joined_count : (old new : List (List Binding)) (list : List Binding) → old ≡ new ++ list ∷ [] → length (joined old) ≡ length (joined new) + length list
joined_count old new list is = ap (λ ls. length (joined ls)) is ∙ (ap length (joined_more new list) ∙ length-append (joined new) list)

-- ---- a look-up, from the last list on

module _ (key : Name) (lists : List (List Binding)) (left : ℕ) (last : List Binding) (value : Option Value) (some : 0 < left) (at : slice_get lists (left - 1) ≡ Some last) (is : value ≡ bound_to key last) where
  parts : bound_to key (joined (take left lists)) ≡ option_or value (bound_to key (joined (take (left - 1) lists)))
  parts =
      ap (λ n. bound_to key (joined (take n lists))) (omega (arith, some))
      ∙ (ap (bound_to key) (joined_next lists (left - 1) last at)
      ∙ (bound_to_append key (joined (take (left - 1) lists)) last ∙ ap (λ o. option_or o (bound_to key (joined (take (left - 1) lists)))) (sym is)))

  first_some : (o rest : Option Value) → is_some o ≡ true → o ≡ option_or o rest
  first_some None rest there = absurd cc
  first_some (Some v) rest there = refl

  first_none : (o rest : Option Value) → is_some o ≡ false → option_or o rest ≡ rest
  first_none None rest none = refl
  first_none (Some v) rest none = absurd cc

  pub found_last : is_some value ≡ true → value ≡ bound_to key (joined (take left lists))
  found_last there = first_some value (bound_to key (joined (take (left - 1) lists))) there ∙ sym parts

  pub not_last : is_some value ≡ false → bound_to key (joined (take left lists)) ≡ bound_to key (joined (take (left - 1) lists))
  not_last none = parts ∙ first_none value (bound_to key (joined (take (left - 1) lists))) none

pub none_left : (key : Name) (lists : List (List Binding)) (left : ℕ) → left ≡ 0 → None ≡ bound_to key (joined (take left lists))
none_left key lists left is = sym (ap (λ n. bound_to key (joined (take n lists))) is ∙ none_bound key)

-- ---- the first of some lists

take_take : {A : Type 0} (n m : ℕ) (xs : List A) → n ≤ m → take n (take m xs) ≡ take n xs
take_take zero m xs within = refl
take_take (suc n) zero xs within = absurd (omega (arith, within))
take_take (suc n) (suc m) [] within = refl
take_take (suc n) (suc m) (x ∷ xs) within = ap (λ l. x ∷ l) (take_take n m xs (omega (arith, within)))

-- the first of some, without the last
pub first_popped : {A : Type 0} (all some new : List A) → some ≡ take (length some) all → new ≡ take (length some - 1) some → new ≡ take (length new) all
first_popped all some new first popped =
    let count : length new ≡ length some - 1 = omega (arith, ap length popped, length-take (length some - 1) some) in
    popped ∙ (ap (take (length some - 1)) first ∙ (take_take (length some - 1) (length some) all (omega arith) ∙ ap (λ n. take n all) (sym count)))

-- ---- what pairs begin with

pub begins_within : (pairs list : List Binding) → BeginsWith pairs list → length list ≤ length pairs
begins_within pairs list begins = omega (arith, ap length begins, length-take (length list) pairs)

-- what begins with the list begins with what that begins with
pub begins_first : (pairs list first : List Binding) → BeginsWith pairs list → BeginsWith list first → BeginsWith pairs first
begins_first pairs list first begins inner =
    inner ∙ (ap (take (length first)) begins ∙ take_take (length first) (length list) pairs (begins_within list first inner))

-- the first of some lists
pub begins_joined : (lists : List (List Binding)) (n : ℕ) → BeginsWith (joined lists) (joined (take n lists))
begins_joined lists n =
    sym (ap (take (length (joined (take n lists)))) (ap joined (sym (take-append-drop n lists)) ∙ joined_append (take n lists) (drop n lists))
    ∙ take-append_seam (joined (take n lists)) (joined (drop n lists)))

pub begins_kept : (pairs : List Binding) (lists kept : List (List Binding)) → kept ≡ take (length kept) lists → BeginsWith pairs (joined lists) → BeginsWith pairs (joined kept)
begins_kept pairs lists kept first begins =
    begins_first pairs (joined lists) (joined kept) begins (subst (λ ls. BeginsWith (joined lists) (joined ls)) (sym first) (begins_joined lists (length kept)))

-- the whole, if it is as long
pub begins_whole : (pairs list : List Binding) → BeginsWith pairs list → length pairs ≤ length list → list ≡ pairs
begins_whole pairs list begins long = begins ∙ take_all (length list) pairs long

pub begins_all : (pairs list : List Binding) → list ≡ pairs → BeginsWith pairs list
begins_all pairs list is = is ∙ sym (take_all (length list) pairs (omega (arith, ap length is)))

-- pairs that go on begin as before
pub begins_longer : (pairs more list : List Binding) → BeginsWith pairs list → BeginsWith (pairs ++ more) list
begins_longer pairs more list begins = begins ∙ sym (take-append-le (length list) pairs more (begins_within pairs list begins))

-- and so do the first of them
pub begins_shorter : (pairs list : List Binding) (n : ℕ) → length list ≤ n → BeginsWith pairs list → BeginsWith (take n pairs) list
begins_shorter pairs list n short begins = begins ∙ sym (take_take (length list) n pairs short)

-- both cut at one place
pub begins_cut : (pairs list : List Binding) (n : ℕ) → BeginsWith pairs list → BeginsWith (take n pairs) (take n list)
begins_cut pairs list n begins =
    let count = length-take n list in
    let first : BeginsWith list (take n list) = sym (ap (λ k. take k list) count ∙ take_min n list) in
    begins_shorter pairs (take n list) n (omega (arith, count)) (begins_first pairs list (take n list) begins first)

-- one piece more
pub begins_more : (pairs list piece : List Binding) (n : ℕ) → length list + n ≤ length pairs → BeginsWith pairs list → piece ≡ take n (drop (length list) pairs) → BeginsWith pairs (list ++ piece)
begins_more pairs list piece n within begins is =
    let count : length piece ≡ n = omega (arith, ap length is, length-take n (drop (length list) pairs), length-drop (length list) pairs, within) in
    let longer = length-append list piece in
    let parts : take (length list) pairs ++ take n (drop (length list) pairs) ≡ take (length list + n) pairs = sym (take-add (length list) n pairs) in
    ap (λ l. l ++ piece) begins ∙ (ap (λ l. take (length list) pairs ++ l) is ∙ (parts ∙ ap (λ k. take k pairs) (omega (arith, count, longer))))

-- one pair more, which the list has next
pub begins_next : (pairs list : List Binding) (pair : Binding) (depth : ℕ) → slice_get list depth ≡ Some pair → length pairs ≡ depth → BeginsWith pairs (take depth list) → BeginsWith (pairs ++ pair ∷ []) (take (depth + 1) list)
begins_next pairs list pair depth at count begins =
    let within = within_get list depth pair at in
    let whole : take depth list ≡ pairs = begins_whole pairs (take depth list) begins (omega (arith, within, count, length-take depth list)) in
    begins_all (pairs ++ pair ∷ []) (take (depth + 1) list) (take_at list depth pair at ∙ ap (λ xs. xs ++ pair ∷ []) whole)

-- one list more, which has the next pairs
module _ (pairs : List Binding) (lists new : List (List Binding)) (count len : ℕ) (at : count ≡ length (joined lists)) (within : count + len ≤ length pairs) (more : new ≡ lists ++ take (count + len - count) (drop count pairs) ∷ []) where
  pub begins_extended : BeginsWith pairs (joined lists) → BeginsWith pairs (joined new)
  begins_extended begins =
      let piece : take (count + len - count) (drop count pairs) ≡ take len (drop (length (joined lists)) pairs) =
      ap (λ n. take n (drop count pairs)) (omega arith) ∙ ap (λ n. take len (drop n pairs)) at in
      subst (BeginsWith pairs) (sym (ap joined more ∙ joined_more lists (take (count + len - count) (drop count pairs))))
      (begins_more pairs (joined lists) (take (count + len - count) (drop count pairs)) len (omega (arith, at, within)) begins piece)

  pub count_extended : length (joined new) ≡ count + len
  count_extended =
      omega (arith, joined_count new lists (take (count + len - count) (drop count pairs)) more, length-take (count + len - count) (drop count pairs), length-drop count pairs, at, within)

-- ---- what an environment keeps

if_some_weaker : {A : Type 0} (o : Option A) (P Q : A → Type 0) → ((x : A) → P x → Q x) → IfSome o P → IfSome o Q
if_some_weaker None P Q weaker is = tt
if_some_weaker (Some x) P Q weaker is = weaker x is

pub keeps_nothing : (inherited stack : List Binding) → Keeps inherited stack [] [] None
keeps_nothing inherited stack = record { own = refl; list = refl; shared = tt }

-- a pair more
pub bound_keeps : (inherited stack new : List Binding) (pair : Binding) (depth : ℕ) (batches : List (List Binding)) (listed more : List Binding) (snapshot : Option (List Binding)) → new ≡ stack ++ pair ∷ [] → depth ≡ length (inherited ++ stack)
    → ((pairs : List Binding) → length pairs ≡ depth → BeginsWith pairs listed → BeginsWith (pairs ++ pair ∷ []) more) → Keeps inherited stack batches listed snapshot → Keeps inherited new batches more snapshot
bound_keeps inherited stack new pair depth batches listed more snapshot is count pushed was =
    subst (λ own. Keeps inherited own batches more snapshot) (sym is) (record {
      own = begins_longer stack (pair ∷ []) (joined batches) was.own;
      list = subst (λ xs. BeginsWith xs more) (append_assoc inherited stack (pair ∷ [])) (pushed (inherited ++ stack) (sym count) was.list);
      shared = if_some_weaker snapshot (BeginsWith (inherited ++ stack)) (BeginsWith (inherited ++ (stack ++ pair ∷ [])))
          (λ list begins. subst (λ xs. BeginsWith xs list) (append_assoc inherited stack (pair ∷ [])) (begins_longer (inherited ++ stack) (pair ∷ []) list begins)) was.shared;
    })

-- the last pair gone
module _ (inherited stack new : List Binding) (batches cut : List (List Binding)) (own : ℕ) (gone : new ≡ without_last stack) (count : own ≡ length new) (within : length (joined cut) ≤ own) (first : cut ≡ take (length cut) batches) where
  new_is : new ≡ take own stack
  new_is = gone ∙ (sym (take_min (length stack - 1) stack) ∙ ap (λ n. take n stack) (sym (count ∙ (ap length gone ∙ length-take (length stack - 1) stack))))

  cut_own : BeginsWith stack (joined batches) → BeginsWith new (joined cut)
  cut_own was = subst (λ xs. BeginsWith xs (joined cut)) (sym new_is) (begins_shorter stack (joined cut) own within (begins_kept stack batches cut first was))

  all_are : take (length inherited + own) (inherited ++ stack) ≡ inherited ++ new
  all_are = take-append-add inherited stack own ∙ ap (λ xs. inherited ++ xs) (sym new_is)

  pub cut_keeps : (listed short : List Binding) (snapshot kept : Option (List Binding)) → short ≡ take (length inherited + own) listed
      → IfSome kept (λ pairs. (snapshot ≡ Some pairs) × (length pairs ≤ length inherited + own)) → Keeps inherited stack batches listed snapshot → Keeps inherited new cut short kept
  cut_keeps listed short snapshot kept is few was = record {
    own = cut_own was.own;
    list = subst (λ xs. BeginsWith xs short) all_are (subst (BeginsWith (take (length inherited + own) (inherited ++ stack))) (sym is) (begins_cut (inherited ++ stack) listed (length inherited + own) was.list));
    shared = if_some_weaker kept (λ pairs. (snapshot ≡ Some pairs) × (length pairs ≤ length inherited + own)) (BeginsWith (inherited ++ new))
        (λ pairs there. subst (λ xs. BeginsWith xs pairs) all_are
        (begins_shorter (inherited ++ stack) pairs (length inherited + own) there.1 (subst (λ o. IfSome o (BeginsWith (inherited ++ stack))) there.0 was.shared)))
        few;
  }
