-- What an index has after a pair more, and after one less.
use Rattle.std.proofs.Common.{[], ℕ, ◌++◌, ◌+◌, ◌<◌, ◌∙◌, ◌∷◌, ◌≡◌, ◌≤◌, Bool, List, None, Option, Some, ap, arith, cond, false, inl, inr, length, length-append, refl, slice_get, subst, suc, sym, take, true, zero}
use Rattle.scoped_env.specs.{AreEarlier, Binding, Err, HasLatest, IsIndexed, IsSome, Name, Ok, OnOk, OrderedKey, Result, Value, bound_to, indexed, is_at, is_err, is_some, key_cmp, lookup, option_or, same_name, text_of, texts_ties}
use Rattle.scoped_env.specs.{value_in}
use Rattle.scoped_env.proofs.Words.{bound_to_append, drop-append-le, drop_all, length-drop, same_Some, same_name_tells, take-append-drop, take-append-le, take-append_seam, take_at}
use Rattle.scoped_env.proofs.ListSteps.{get_of_push}
use Rattle.std.specs.BTreeMap as tree

abbrev Index : Type 0
Index = tree.BTreeMap OrderedKey Value

-- the order ties keys that are one, and no others
pub at_key : (a b : Name) → is_at (key_cmp (record { name = a })) (record { name = b }) ≡ same_name a b
at_key a b = sym (texts_ties (text_of a) (text_of b))

-- what was written to the index at one key
abbrev pub Writes : Index → Index → Name → Option Value → Type 0
Writes old new key value = (other : Name) → value_in new other ≡ cond (same_name key other) value (value_in old other)

pub writes_of : (old new : Index) (key : Name) (value : Option Value) → ((k : OrderedKey) → tree.get key_cmp new k ≡ cond (is_at (key_cmp (record { name = key })) k) value (tree.get key_cmp old k)) → Writes old new key value
writes_of old new key value updates other = updates (record { name = other }) ∙ ap (λ b. cond b value (value_in old other)) (at_key key other)

-- what one pair binds
one_bound : (pair : Binding) (key : Name) → bound_to key (pair ∷ []) ≡ cond (same_name pair.key key) (Some pair.value) None
unfolding bound_to
one_bound pair key = refl

chosen : (b : Bool) (v : Option Value) (value : Value) → option_or (cond b (Some value) None) v ≡ cond b (Some value) v
chosen true v value = refl
chosen false v value = refl

-- a pair more at the end of the list
pub bound_after : (pairs : List Binding) (pair : Binding) (key : Name) → bound_to key (pairs ++ pair ∷ []) ≡ cond (same_name pair.key key) (Some pair.value) (bound_to key pairs)
bound_after pairs pair key =
    bound_to_append key pairs (pair ∷ []) ∙ ap (λ o. option_or o (bound_to key pairs)) (one_bound pair key) ∙ chosen (same_name pair.key key) (bound_to key pairs) pair.value

pub latest_more : (old new : Index) (pairs : List Binding) (pair : Binding) → HasLatest old pairs → Writes old new pair.key (Some pair.value) → HasLatest new (pairs ++ pair ∷ [])
latest_more old new pairs pair was writes key =
    writes key ∙ ap (cond (same_name pair.key key) (Some pair.value)) (was key) ∙ sym (bound_after pairs pair key)

-- a pair less: its key has what it had before
less : (b : Bool) (earlier v : Option Value) (value : Value) → (b ≡ true → earlier ≡ v) → cond b earlier (cond b (Some value) v) ≡ v
less true earlier v value is = is refl
less false earlier v value is = refl

pub latest_less : (old new : Index) (pairs : List Binding) (pair : Binding) (earlier : Option Value) → HasLatest old (pairs ++ pair ∷ []) → earlier ≡ bound_to pair.key pairs → Writes old new pair.key earlier → HasLatest new pairs
latest_less old new pairs pair earlier was is writes key =
    writes key
    ∙ ap (cond (same_name pair.key key) earlier) (was key ∙ bound_after pairs pair key)
    ∙ less (same_name pair.key key) earlier (bound_to key pairs) pair.value
    (λ same. is ∙ ap (λ k. bound_to k pairs) ((same_name_tells pair.key key).0 same))

-- the key of the last pair has a value
pub last_has : (old : Index) (pairs : List Binding) (pair : Binding) → HasLatest old (pairs ++ pair ∷ []) → IsSome (value_in old pair.key)
last_has old pairs pair was =
    let is : value_in old pair.key ≡ Some pair.value =
    was pair.key ∙ bound_after pairs pair pair.key ∙ ap (λ b. cond b (Some pair.value) (bound_to pair.key pairs)) ((same_name_tells pair.key pair.key).1 refl) in
    ap is_some is

-- an element of a list that goes on
pub get_before : {A : Type 0} (xs ys : List A) (i : ℕ) → i < length xs → slice_get (xs ++ ys) i ≡ slice_get xs i
get_before [] ys i within = absurd (omega (arith, within))
get_before (x ∷ xs) ys zero within = refl
get_before (x ∷ xs) ys (suc i) within = get_before xs ys i (omega (arith, within))

pub get_seam : {A : Type 0} (xs : List A) (x : A) → slice_get (xs ++ x ∷ []) (length xs) ≡ Some x
get_seam [] x = refl
get_seam (y ∷ xs) x = get_seam xs x

pub within_get : {A : Type 0} (xs : List A) (i : ℕ) (x : A) → slice_get xs i ≡ Some x → i < length xs
within_get [] i x at = absurd cc
within_get (y ∷ xs) zero x at = omega arith
within_get (y ∷ xs) (suc i) x at = omega (arith, within_get xs i x at)

-- the earlier values, with one pair more
pub earlier_more : (earlier : List (Option Value)) (pairs : List Binding) (pair : Binding) → AreEarlier earlier pairs → AreEarlier (earlier ++ bound_to pair.key pairs ∷ []) (pairs ++ pair ∷ [])
earlier_more earlier pairs pair was = record {
  count = omega (arith, was.count, length-append earlier (bound_to pair.key pairs ∷ []), length-append pairs (pair ∷ []));
  each = λ i p at. elim (get_of_push pairs pair p i at) [
    | inl old ↦
        get_before earlier (bound_to pair.key pairs ∷ []) i (omega (arith, old.0, was.count))
        ∙ was.each i p old.1
        ∙ ap (λ xs. Some (bound_to p.key xs)) (sym (take-append-le i pairs (pair ∷ []) (omega (arith, old.0))))
    | inr new ↦
        let place : i ≡ length earlier = omega (arith, new.0, was.count) in
        ap (slice_get (earlier ++ bound_to pair.key pairs ∷ [])) place
        ∙ get_seam earlier (bound_to pair.key pairs)
        ∙ ap (λ (q : Binding). Some (bound_to q.key pairs)) (sym new.1)
        ∙ ap (λ xs. Some (bound_to p.key xs)) (sym (ap (λ n. take n (pairs ++ pair ∷ [])) new.0 ∙ take-append_seam pairs (pair ∷ [])))
  ];
}

-- and with one less
pub earlier_less : (earlier : List (Option Value)) (last : Option Value) (pairs : List Binding) (pair : Binding) → AreEarlier (earlier ++ last ∷ []) (pairs ++ pair ∷ []) → AreEarlier earlier pairs
earlier_less earlier last pairs pair was =
    let count : length earlier ≡ length pairs = omega (arith, was.count, length-append earlier (last ∷ []), length-append pairs (pair ∷ [])) in
    record {
      count = count;
      each = λ i p at.
          let within : i < length pairs = within_get pairs i p at in
          sym (get_before earlier (last ∷ []) i (omega (arith, within, count)))
          ∙ was.each i p (get_before pairs (pair ∷ []) i within ∙ at)
          ∙ ap (λ xs. Some (bound_to p.key xs)) (take-append-le i pairs (pair ∷ []) (omega (arith, within)));
    }

-- the last one is what the last pair's key had before it
pub last_earlier : (earlier : List (Option Value)) (last : Option Value) (pairs : List Binding) (pair : Binding) → AreEarlier (earlier ++ last ∷ []) (pairs ++ pair ∷ []) → last ≡ bound_to pair.key pairs
last_earlier earlier last pairs pair was =
    let count : length earlier ≡ length pairs = omega (arith, was.count, length-append earlier (last ∷ []), length-append pairs (pair ∷ [])) in
    same_Some last (bound_to pair.key pairs)
    (sym (get_seam earlier last)
    ∙ ap (slice_get (earlier ++ last ∷ [])) count
    ∙ was.each (length pairs) pair (get_seam pairs pair)
    ∙ ap (λ xs. Some (bound_to pair.key xs)) (take-append_seam pairs (pair ∷ [])))

-- ---- the stack, of which the first sixteen pairs are not indexed

pub none_bound : (key : Name) → bound_to key [] ≡ None
unfolding bound_to
none_bound key = refl

-- an index without entries has the values of no pairs
pub latest_none : (index : Index) → index.entries ≡ [] → HasLatest index []
latest_none index empty key = ap (lookup (is_at (key_cmp (record { name = key })))) empty ∙ sym (none_bound key)

pub indexed_none : (index : Index) → index.entries ≡ [] → IsIndexed [] index []
indexed_none index empty = record {
  latest = latest_none index empty;
  earlier = record { count = refl; each = λ i p at. absurd cc };
}

same_indexed : (pairs others : List Binding) (index : Index) (shadowed : List (Option Value)) → indexed pairs ≡ indexed others → IsIndexed pairs index shadowed → IsIndexed others index shadowed
same_indexed pairs others index shadowed same was = record {
  latest = subst (HasLatest index) same was.latest;
  earlier = subst (AreEarlier shadowed) same was.earlier;
}

-- a pair among the first is not indexed
pub few_more : (pairs : List Binding) (pair : Binding) (index : Index) (shadowed : List (Option Value)) → length pairs < 16 → IsIndexed pairs index shadowed → IsIndexed (pairs ++ pair ∷ []) index shadowed
few_more pairs pair index shadowed few was =
    let longer = length-append pairs (pair ∷ []) in
    same_indexed pairs (pairs ++ pair ∷ []) index shadowed (drop_all 16 pairs (omega (arith, few)) ∙ sym (drop_all 16 (pairs ++ pair ∷ []) (omega (arith, few, longer)))) was

-- one behind them is
pub many_more : (pairs : List Binding) (pair : Binding) (old new : Index) (shadowed : List (Option Value)) (was_bound : Option Value) → 16 ≤ length pairs → IsIndexed pairs old shadowed → was_bound ≡ value_in old pair.key → Writes old new pair.key (Some pair.value) → IsIndexed (pairs ++ pair ∷ []) new (shadowed ++ was_bound ∷ [])
many_more pairs pair old new shadowed was_bound many was is writes =
    let behind : indexed pairs ++ pair ∷ [] ≡ indexed (pairs ++ pair ∷ []) = sym (drop-append-le 16 pairs (pair ∷ []) many) in
    record {
      latest = subst (HasLatest new) behind (latest_more old new (indexed pairs) pair was.latest writes);
      earlier = subst (λ o. AreEarlier (shadowed ++ o ∷ []) (indexed (pairs ++ pair ∷ []))) (sym (is ∙ was.latest pair.key))
          (subst (AreEarlier (shadowed ++ bound_to pair.key (indexed pairs) ∷ [])) behind (earlier_more shadowed (indexed pairs) pair was.earlier));
    }

module _ (pairs : List Binding) (pair : Binding) (index : Index) (shadowed : List (Option Value)) (last : Option Value) (was : IsIndexed (pairs ++ pair ∷ []) index (shadowed ++ last ∷ [])) where
  -- an earlier value is there for a pair behind the first
  behind : indexed (pairs ++ pair ∷ []) ≡ indexed pairs ++ pair ∷ []
  behind =
      let count = was.earlier.count in
      let longer = length-append shadowed (last ∷ []) in
      let cut = length-drop 16 (pairs ++ pair ∷ []) in
      let more = length-append pairs (pair ∷ []) in
      drop-append-le 16 pairs (pair ∷ []) (omega (arith, count, longer, cut, more))

  pub last_bound : IsSome (value_in index pair.key)
  last_bound = last_has index (indexed pairs) pair (subst (HasLatest index) behind was.latest)

  pub many_less : (new : Index) → Writes index new pair.key last → IsIndexed pairs new shadowed
  many_less new writes =
      let earlier = subst (AreEarlier (shadowed ++ last ∷ [])) behind was.earlier in
      record {
        latest = latest_less index new (indexed pairs) pair last (subst (HasLatest index) behind was.latest) (last_earlier shadowed last (indexed pairs) pair earlier) writes;
        earlier = earlier_less shadowed last (indexed pairs) pair earlier;
      }

-- the pairs and the earlier values before the last were taken
pub popped : (old pairs : List Binding) (pair : Binding) (index : Index) (was_shadowed shadowed : List (Option Value)) (last : Option Value) → old ≡ pairs ++ pair ∷ [] → was_shadowed ≡ shadowed ++ last ∷ [] → IsIndexed old index was_shadowed → IsIndexed (pairs ++ pair ∷ []) index (shadowed ++ last ∷ [])
popped old pairs pair index was_shadowed shadowed last is values was =
    subst (IsIndexed (pairs ++ pair ∷ []) index) values (subst (λ ps. IsIndexed ps index was_shadowed) is was)

-- with no earlier value there is no pair behind the first
pub few_less : (pairs : List Binding) (pair : Binding) (index : Index) → IsIndexed (pairs ++ pair ∷ []) index [] → IsIndexed pairs index []
few_less pairs pair index was =
    let count = was.earlier.count in
    let cut = length-drop 16 (pairs ++ pair ∷ []) in
    let more = length-append pairs (pair ∷ []) in
    let few : length pairs + 1 ≤ 16 = omega (arith, count, cut, more) in
    same_indexed (pairs ++ pair ∷ []) pairs index [] (drop_all 16 (pairs ++ pair ∷ []) (omega (arith, few, more)) ∙ sym (drop_all 16 pairs (omega (arith, few)))) was

-- ---- what a look-up finds

split : (key : Name) (pairs : List Binding) → bound_to key pairs ≡ option_or (bound_to key (indexed pairs)) (bound_to key (take 16 pairs))
split key pairs = ap (bound_to key) (sym (take-append-drop 16 pairs)) ∙ bound_to_append key (take 16 pairs) (indexed pairs)

pub found_behind : (pairs : List Binding) (index : Index) (key : Name) (value : Value) → HasLatest index (indexed pairs) → Some value ≡ value_in index key → Some value ≡ bound_to key pairs
found_behind pairs index key value latest is =
    sym (split key pairs ∙ ap (λ o. option_or o (bound_to key (take 16 pairs))) (sym (is ∙ latest key)))

pub found_first : (pairs : List Binding) (index : Index) (key : Name) → HasLatest index (indexed pairs) → None ≡ value_in index key → bound_to key (take 16 pairs) ≡ bound_to key pairs
found_first pairs index key latest is =
    sym (split key pairs ∙ ap (λ o. option_or o (bound_to key (take 16 pairs))) (sym (is ∙ latest key)))

-- the index of a list that is read pair by pair
pub latest_next : (old new : Index) (pairs : List Binding) (i : ℕ) (pair : Binding) → slice_get pairs i ≡ Some pair → HasLatest old (take i pairs) → Writes old new pair.key (Some pair.value) → HasLatest new (take (i + 1) pairs)
latest_next old new pairs i pair at was writes = subst (HasLatest new) (sym (take_at pairs i pair at)) (latest_more old new (take i pairs) pair was writes)

-- a write that was not refused
pub written : {A E : Type 0} (r : Result A E) (old new : Index) (key : Name) (value : Option Value) → is_err r ≡ false → OnOk r (tree.Updates key_cmp old new (record { name = key }) value) → Writes old new key value
written (Ok done) old new key value accepted updates = writes_of old new key value updates.0
written (Err error) old new key value accepted updates = absurd cc
