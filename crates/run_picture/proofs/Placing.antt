-- Each node of the tree is placed exactly once: what lies above another happened earlier.
use Rattle.std.specs.Prelude.{◌&&◌, ◌++◌, ◌+◌, ◌-◌, ◌<◌, ◌==◌, ◌||◌, ◌∷◌, ◌≡◌, ◌≤◌}
use Rattle.run_picture.specs.{[], ℕ, AreKeys, Bool, IfSome, IsEarlier, List, None, Option, Placed, ScopeRow, Some, TaskRow, cond, false, get_or, latest, length, nat_lt, node_count, node_place, option_map_or, slice_get, suc, times}
use Rattle.run_picture.specs.{times_below, true, unwrap_or, zero}
use Rattle.run_picture.specs.Words.{Columns}
use Rattle.run_picture.proofs.Lemmas.{◌∙◌, and_parts, ap, arith, cases_eq, cases_lt, eq-eqb, eqb-true, get_or-append-add, get_or_append_left, inl, inr, le-ltb, length-append, lt-ltb, ltb-true, ne_eqb, or_right, refl, subst, sum_by_push, sym}

-- ---- keys

last_key : (keys : List ℕ) (key i : ℕ) → i ≡ length keys → get_or (keys ++ key ∷ []) i 0 ≡ key
last_key keys key i at = ap (λ k. get_or (keys ++ key ∷ []) k 0) (let more : i ≡ length keys + 0 = omega (arith, at) in more) ∙ get_or-append-add keys (key ∷ []) 0 0

-- what is so of each key is so of each of one more
each_more : (P : ℕ → ℕ → Type 0) (keys new : List ℕ) (n m key : ℕ) → length keys ≡ n → new ≡ keys ++ key ∷ [] → m ≡ n + 1 → ((i : ℕ) → i < n → P i (get_or keys i 0)) → P n key → (i : ℕ) → i < m → P i (get_or new i 0)
each_more P keys new n m key long more next all last i within =
    elim (cases_eq i n) [
      | inl same ↦ subst (P i) (sym (ap (λ l. get_or l i 0) more ∙ last_key keys key i (same ∙ sym long))) (subst (λ j. P j key) (sym same) last)
      | inr other ↦
          let less : i < n = omega (arith, within, next, other) in
          subst (P i) (sym (ap (λ l. get_or l i 0) more ∙ get_or_append_left keys (key ∷ []) 0 i (omega (arith, less, long)))) (all i less)
    ]

-- one key more
pub keys_more : (c : Columns) (keys new : List ℕ) (n m key : ℕ) → AreKeys keys c n → new ≡ keys ++ key ∷ [] → m ≡ n + 1 → key ≤ node_count c → (key < node_count c → node_place c key < node_place c n) → AreKeys new c m
keys_more c keys new n m key are more next small sooner = record {
  long = ap length more ∙ (length-append keys (key ∷ []) ∙ omega (arith, are.long, next));
  small = each_more (λ i k. k ≤ node_count c) keys new n m key are.long more next are.small small;
  sooner = each_more (λ i k. k < node_count c → node_place c k < node_place c i) keys new n m key are.long more next are.sooner sooner;
}

-- the key of what happened at the place, if one is above it
key_of : (c : Columns) (above : Option ℕ) (place : ℕ) → IfSome above (λ n. IsEarlier c n place) → (unwrap_or above (node_count c) ≤ node_count c) × (unwrap_or above (node_count c) < node_count c → node_place c (unwrap_or above (node_count c)) < place)
key_of c None place it = (omega arith, λ less. absurd (omega (arith, less)))
key_of c (Some n) place it = (omega (arith, it.within), λ less. it.sooner)

-- the place of a scope
scope_place : (c : Columns) (i : ℕ) (row : ScopeRow) → slice_get c.scopes.items i ≡ Some row → node_place c (length c.tasks.items + i) ≡ row.opened.place
scope_place c i row at =
    let n = length c.tasks.items + i in
    let back : n - length c.tasks.items ≡ i = omega arith in
    ap (λ b. cond b (option_map_or (λ (r : TaskRow). r.forked.place) (slice_get c.tasks.items n) 0) (option_map_or (λ (r : ScopeRow). r.opened.place) (slice_get c.scopes.items (n - length c.tasks.items)) 0)) (le-ltb n (length c.tasks.items) (omega arith))
    ∙ (ap (λ j. option_map_or (λ (r : ScopeRow). r.opened.place) (slice_get c.scopes.items j) 0) back ∙ ap (λ (o : Option ScopeRow). option_map_or (λ r. r.opened.place) o 0) at)

-- what is above a scope happened earlier
pub scope_sooner : (c : Columns) (i : ℕ) (above : Option ℕ) (row : ScopeRow) (key : ℕ) → IfSome above (λ n. IsEarlier c n row.opened.place) → slice_get c.scopes.items i ≡ Some row → key ≡ unwrap_or above (node_count c) → (key ≤ node_count c) × (key < node_count c → node_place c key < node_place c (length c.tasks.items + i))
scope_sooner c i above row key it at is =
    let both = key_of c above row.opened.place it in
    let place = scope_place c i row at in
    let same : node_place c key ≡ node_place c (unwrap_or above (node_count c)) = ap (node_place c) is in
    (omega (arith, both.0, is), λ less. let sooner = both.1 (omega (arith, is, less)) in omega (arith, sooner, place, same))

-- ---- what lies below a node

-- the nodes that are still to be walked, from this one on to the first
abbrev pub times_left : List ℕ → ℕ → Option ℕ → ℕ → ℕ
times_left keys key None n = 0
times_left keys key (Some c) n = times_below keys key (suc c) n

abbrev pub one_if : Bool → ℕ
one_if b = cond b 1 0

-- one node more may be below
below_more : (keys : List ℕ) (key i n : ℕ) → times_below keys key (suc i) n ≡ times_below keys key i n + cond (i == n) (one_if (get_or keys i 0 == key)) 0
below_more keys key i n =
    elim (cases_eq i n) [
      | inl same ↦ subst (λ m. times_below keys key (suc i) m ≡ times_below keys key i m + cond (i == m) (one_if (get_or keys i 0 == key)) 0) same here
      | inr other ↦ elim (cases_lt n i) [
        | inl less ↦
            let now : times_below keys key (suc i) n ≡ one_if (get_or keys n 0 == key) = ap (λ b. one_if (b && (get_or keys n 0 == key))) (lt-ltb n (suc i) (omega (arith, less))) in
            let was : times_below keys key i n ≡ one_if (get_or keys n 0 == key) = ap (λ b. one_if (b && (get_or keys n 0 == key))) (lt-ltb n i less) in
            let none : cond (i == n) (one_if (get_or keys i 0 == key)) 0 ≡ 0 = ap (λ b. cond b (one_if (get_or keys i 0 == key)) 0) (ne_eqb i n other) in
            omega (arith, now, was, none)
        | inr more ↦
            let now : times_below keys key (suc i) n ≡ 0 = ap (λ b. one_if (b && (get_or keys n 0 == key))) (le-ltb n (suc i) (omega (arith, more, other))) in
            let was : times_below keys key i n ≡ 0 = ap (λ b. one_if (b && (get_or keys n 0 == key))) (le-ltb n i more) in
            let none : cond (i == n) (one_if (get_or keys i 0 == key)) 0 ≡ 0 = ap (λ b. cond b (one_if (get_or keys i 0 == key)) 0) (ne_eqb i n other) in
            omega (arith, now, was, none)
      ]
    ]
  where
    here : times_below keys key (suc i) i ≡ times_below keys key i i + cond (i == i) (one_if (get_or keys i 0 == key)) 0
    here =
        let k = get_or keys i 0 == key in
        let now : times_below keys key (suc i) i ≡ one_if k = ap (λ b. one_if (b && k)) (lt-ltb i (suc i) (omega arith)) in
        let was : times_below keys key i i ≡ 0 = ap (λ b. one_if (b && k)) (le-ltb i i (omega arith)) in
        let one : cond (i == i) (one_if k) 0 ≡ one_if k = ap (λ b. cond b (one_if k) 0) (eq-eqb i i refl) in
        omega (arith, now, was, one)

-- from the last one on all are left
pub latest_left : (keys : List ℕ) (key i n : ℕ) → times_left keys key (latest keys key i) n ≡ times_below keys key i n
latest_left keys key zero n = sym (ap (λ b. one_if (b && (get_or keys n 0 == key))) (le-ltb n 0 (omega arith)))
latest_left keys key (suc i) n = by (get_or keys i 0 == key) refl (latest_left keys key i n)
  where
    by : (b : Bool) → (get_or keys i 0 == key) ≡ b → times_left keys key (latest keys key i) n ≡ times_below keys key i n → times_left keys key (cond b (Some i) (latest keys key i)) n ≡ times_below keys key (suc i) n
    by true is rest = refl
    by false is rest =
        let none : cond (i == n) (one_if (get_or keys i 0 == key)) 0 ≡ 0 = ap (λ b. cond (i == n) (one_if b) 0) is ∙ same (i == n) in
        omega (arith, below_more keys key i n, none, rest)
      where
        same : (b : Bool) → ◌≡◌ {A = ℕ} (cond b 0 0) 0
        same true = refl
        same false = refl

-- the last one has the key
pub latest_there : (keys : List ℕ) (key i c : ℕ) → latest keys key i ≡ Some c → (c < i) × (get_or keys c 0 ≡ key)
latest_there keys key zero c is = absurd cc
latest_there keys key (suc i) c is = by (get_or keys i 0 == key) refl is (latest_there keys key i c)
  where
    by : (b : Bool) → (get_or keys i 0 == key) ≡ b → cond b (Some i) (latest keys key i) ≡ Some c → (latest keys key i ≡ Some c → (c < i) × (get_or keys c 0 ≡ key)) → (c < suc i) × (get_or keys c 0 ≡ key)
    by true has found rest = let same : i ≡ c = cc in (omega (arith, same), subst (λ j. get_or keys j 0 ≡ key) same (eqb-true (get_or keys i 0) key has))
    by false has found rest = let it = rest found in (omega (arith, it.0), it.1)

-- the one before a node is smaller
pub smaller : (keys : List ℕ) (key c : ℕ) (next now : Option ℕ) → next ≡ latest keys key c → now ≡ Some c → option_map_or suc next 0 < option_map_or suc now 0
smaller keys key c None now is at = let this : option_map_or suc now 0 ≡ suc c = ap (λ (o : Option ℕ). option_map_or suc o 0) at in omega (arith, this)
smaller keys key c (Some n) now is at =
    let this : option_map_or suc now 0 ≡ suc c = ap (λ (o : Option ℕ). option_map_or suc o 0) at in
    let less = (latest_there keys key c n (sym is)).0 in
    omega (arith, this, less)

-- a node is left, and then those before it
pub left_next : (keys : List ℕ) (key c n : ℕ) → get_or keys c 0 ≡ key → times_left keys key (Some c) n ≡ one_if (c == n) + times_left keys key (latest keys (get_or keys c 0) c) n
left_next keys key c n is =
    let rest : times_left keys key (latest keys (get_or keys c 0) c) n ≡ times_below keys key c n = ap (λ k. times_left keys key (latest keys k c) n) is ∙ latest_left keys key c n in
    let here : cond (c == n) (one_if (get_or keys c 0 == key)) 0 ≡ one_if (c == n) = ap (λ b. cond (c == n) (one_if b) 0) (eq-eqb (get_or keys c 0) key is) in
    omega (arith, below_more keys key c n, rest, here)

-- ---- the walk

-- node n is to be placed or was: nothing is above it, or what is was placed
abbrev pub is_reached : List ℕ → List Placed → ℕ → Bool
is_reached keys placed n = nat_lt n (length keys) && ((get_or keys n 0 == length keys) || nat_lt 0 (times (get_or keys n 0) placed))

-- each node that was reached is pending or was placed, once, and no other is
abbrev pub IsWalked : List ℕ → List Placed → List Placed → Type 0
IsWalked keys placed pending = (n : ℕ) → times n placed + times n pending ≡ one_if (is_reached keys placed n)

pub walk_begins : (keys : List ℕ) (placed before pending : List Placed) → placed ≡ [] → before ≡ [] → ((n : ℕ) → times n pending ≡ times n before + times_below keys (length keys) (length keys) n) → IsWalked keys placed pending
walk_begins keys placed before pending none empty more n =
    let zero_placed : times n placed ≡ 0 = ap (times n) none in
    let zero_before : times n before ≡ 0 = ap (times n) empty in
    let reached : is_reached keys placed n ≡ (nat_lt n (length keys) && (get_or keys n 0 == length keys)) =
    ap (λ l. is_reached keys l n) none ∙ ap (λ b. nat_lt n (length keys) && b) (or_false (get_or keys n 0 == length keys)) in
    let below : one_if (is_reached keys placed n) ≡ times_below keys (length keys) (length keys) n = ap (λ b. one_if b) reached in
    omega (arith, zero_placed, zero_before, more n, below)
  where
    or_false : (b : Bool) → (b || false) ≡ b
    or_false true = refl
    or_false false = refl

count_at_most : (a b : ℕ) (c : Bool) → a + b ≡ one_if c → a + b ≤ 1
count_at_most a b true is = omega (arith, is)
count_at_most a b false is = omega (arith, is)

true_of : (c : Bool) (a : ℕ) → a ≡ one_if c → 0 < a → c ≡ true
true_of true a is some = refl
true_of false a is some = absurd (omega (arith, is, some))

-- what is pending was reached, and not placed
pub record IsNext (keys : List ℕ) (placed : List Placed) (n : ℕ) : Type 0 where
  pub within : n < length keys
  pub unplaced : times n placed ≡ 0

pub next_is : (keys : List ℕ) (placed pending rest : List Placed) (one : Placed) → IsWalked keys placed pending → pending ≡ rest ++ one ∷ [] → IsNext keys placed one.node
next_is keys placed pending rest one walked is =
    let n = one.node in
    let there : times n pending ≡ times n rest + one_if (n == n) = ap (times n) is ∙ sum_by_push (λ (p : Placed). one_if (p.node == n)) rest one in
    let here : one_if (n == n) ≡ 1 = ap one_if (eq-eqb n n refl) in
    let few = count_at_most (times n placed) (times n pending) (is_reached keys placed n) (walked n) in
    let reached = true_of (is_reached keys placed n) (times n placed + times n pending) (walked n) (omega (arith, there, here)) in
    record {
      within = ltb-true n (length keys) (and_parts (nat_lt n (length keys)) ((get_or keys n 0 == length keys) || nat_lt 0 (times (get_or keys n 0) placed)) reached).0;
      unplaced = omega (arith, there, here, few);
    }

-- a pending node is placed, and what lies below it is pending
pub walk_on : (keys : List ℕ) (placed pending rest placed_new pending_new : List Placed) (one : Placed) → IsWalked keys placed pending → pending ≡ rest ++ one ∷ [] → placed_new ≡ placed ++ one ∷ [] →
    ((n : ℕ) → times n pending_new ≡ times n rest + times_below keys one.node (length keys) n) → IsWalked keys placed_new pending_new
walk_on keys placed pending rest placed_new pending_new one walked is more below n =
    let x = one.node in
    let next = next_is keys placed pending rest one walked is in
    let popped : times n pending ≡ times n rest + one_if (x == n) = ap (times n) is ∙ sum_by_push (λ (p : Placed). one_if (p.node == n)) rest one in
    let pushed : times n placed_new ≡ times n placed + one_if (x == n) = ap (times n) more ∙ sum_by_push (λ (p : Placed). one_if (p.node == n)) placed one in
    let key = get_or keys n 0 in
    let above : times key placed_new ≡ times key placed + one_if (x == key) = ap (times key) more ∙ sum_by_push (λ (p : Placed). one_if (p.node == key)) placed one in
    let was : times n placed + times n pending ≡ one_if (is_reached keys placed n) = walked n in
    elim (cases_eq x key) [
      | inl same ↦
          let none : times key placed ≡ 0 = ap (λ k. times k placed) (sym same) ∙ next.unplaced in
          let some : times key placed_new ≡ 1 = above ∙ (ap (λ b. times key placed + one_if b) (eq-eqb x key same) ∙ omega (arith, none)) in
          let root : (key == length keys) ≡ false = ne_eqb key (length keys) (λ equal. omega (arith, same, equal, next.within)) in
          let new : is_reached keys placed_new n ≡ nat_lt n (length keys) = rw root (rw some (and_true (nat_lt n (length keys)))) in
          let old : is_reached keys placed n ≡ false = rw root (rw none (and_false (nat_lt n (length keys)))) in
          let under : times_below keys x (length keys) n ≡ one_if (nat_lt n (length keys)) = rw (eq-eqb key x (sym same)) (ap one_if (and_true (nat_lt n (length keys)))) in
          let before : one_if (is_reached keys placed n) ≡ 0 = ap (λ b. one_if b) old in
          let after : one_if (is_reached keys placed_new n) ≡ one_if (nat_lt n (length keys)) = ap (λ b. one_if b) new in
          omega (arith, popped, pushed, below n, was, under, before, after)
      | inr other ↦
          let same : times key placed_new ≡ times key placed = above ∙ (ap (λ b. times key placed + one_if b) (ne_eqb x key other) ∙ omega arith) in
          let under : times_below keys x (length keys) n ≡ 0 = rw (ne_eqb key x (λ equal. other (sym equal))) (ap one_if (and_false (nat_lt n (length keys)))) in
          let after : one_if (is_reached keys placed_new n) ≡ one_if (is_reached keys placed n) = ap (λ t. one_if (nat_lt n (length keys) && ((key == length keys) || nat_lt 0 t))) same in
          omega (arith, popped, pushed, below n, was, under, after)
    ]
  where
    and_true : (b : Bool) → (b && true) ≡ b
    and_true true = refl
    and_true false = refl

    and_false : (b : Bool) → (b && false) ≡ false
    and_false true = refl
    and_false false = refl

abbrev pub one_unless : Bool → ℕ
one_unless b = cond b 0 1

-- how many of the first n nodes are not placed
abbrev pub missing : List Placed → ℕ → ℕ
missing placed zero = 0
missing placed (suc n) = missing placed n + one_unless (nat_lt 0 (times n placed))

-- one more is placed
missing_more : (placed placed_new : List Placed) (one : Placed) (n : ℕ) → placed_new ≡ placed ++ one ∷ [] → times one.node placed ≡ 0 → missing placed_new n + one_if (nat_lt one.node n) ≡ missing placed n
missing_more placed placed_new one zero is none = let zero_one : one_if (nat_lt one.node 0) ≡ 0 = ap one_if (le-ltb one.node 0 (omega arith)) in omega (arith, zero_one)
missing_more placed placed_new one (suc n) is none =
    let x = one.node in
    let rest = missing_more placed placed_new one n is none in
    let pushed : times n placed_new ≡ times n placed + one_if (x == n) = ap (times n) is ∙ sum_by_push (λ (p : Placed). one_if (p.node == n)) placed one in
    elim (cases_eq x n) [
      | inl same ↦
          let was : times n placed ≡ 0 = ap (λ k. times k placed) (sym same) ∙ none in
          let now : times n placed_new ≡ 1 = pushed ∙ (ap (λ b. times n placed + one_if b) (eq-eqb x n same) ∙ omega (arith, was)) in
          let old : one_unless (nat_lt 0 (times n placed)) ≡ 1 = ap (λ t. one_unless (nat_lt 0 t)) was in
          let new : one_unless (nat_lt 0 (times n placed_new)) ≡ 0 = ap (λ t. one_unless (nat_lt 0 t)) now in
          let inner : one_if (nat_lt x n) ≡ 0 = ap one_if (le-ltb x n (omega (arith, same))) in
          let outer : one_if (nat_lt x (suc n)) ≡ 1 = ap one_if (lt-ltb x (suc n) (omega (arith, same))) in
          omega (arith, rest, old, new, inner, outer)
      | inr other ↦
          let now : times n placed_new ≡ times n placed = pushed ∙ (ap (λ b. times n placed + one_if b) (ne_eqb x n other) ∙ omega arith) in
          let new : one_unless (nat_lt 0 (times n placed_new)) ≡ one_unless (nat_lt 0 (times n placed)) = ap (λ t. one_unless (nat_lt 0 t)) now in
          let outer : one_if (nat_lt x (suc n)) ≡ one_if (nat_lt x n) = elim (cases_lt x n) [
            | inl less ↦ ap one_if (lt-ltb x (suc n) (omega (arith, less)) ∙ sym (lt-ltb x n less))
            | inr more ↦ ap one_if (le-ltb x (suc n) (omega (arith, more, other)) ∙ sym (le-ltb x n more))
          ] in
          omega (arith, rest, new, outer)
    ]

pub fewer_missing : (keys : List ℕ) (placed pending rest placed_new : List Placed) (one : Placed) → IsWalked keys placed pending → pending ≡ rest ++ one ∷ [] → placed_new ≡ placed ++ one ∷ [] → missing placed_new (length keys) < missing placed (length keys)
fewer_missing keys placed pending rest placed_new one walked is more =
    let next = next_is keys placed pending rest one walked is in
    let fewer = missing_more placed placed_new one (length keys) more next.unplaced in
    let here : one_if (nat_lt one.node (length keys)) ≡ 1 = ap one_if (lt-ltb one.node (length keys) next.within) in
    omega (arith, fewer, here)

-- ---- all are reached

pub empty_of : (ps : List Placed) → length ps ≡ 0 → ps ≡ []
empty_of [] none = refl
empty_of (p ∷ ps) none = absurd (omega (arith, none))

module _ (c : Columns) (keys : List ℕ) (placed : List Placed) (are : AreKeys keys c (node_count c)) (walked : IsWalked keys placed []) where
  -- at the end each node below this place in the run is placed
  up_to : (m n : ℕ) → n < length keys → node_place c n < m → times n placed ≡ 1
  up_to zero n small sooner = absurd (omega (arith, sooner))
  up_to (suc m) n small sooner =
      let key = get_or keys n 0 in
      let within : n < node_count c = omega (arith, small, are.long) in
      let reached : is_reached keys placed n ≡ true = rw (lt-ltb n (length keys) small) (elim (cases_lt key (length keys)) [
        | inl less ↦
            let above = up_to m key less (omega (arith, sooner, are.sooner n within (omega (arith, less, are.long)))) in
            rw above (or_right (key == length keys) true refl)
        | inr more ↦ rw (eq-eqb key (length keys) (omega (arith, more, are.small n within, are.long))) refl
      ]) in
      let is = walked n in
      let one : one_if (is_reached keys placed n) ≡ 1 = ap (λ b. one_if b) reached in
      omega (arith, is, one)

  pub placed_once : (n : ℕ) → times n placed ≡ one_if (nat_lt n (node_count c))
  placed_once n =
      elim (cases_lt n (length keys)) [
        | inl less ↦ up_to (suc (node_place c n)) n less (omega arith) ∙ sym (ap one_if (lt-ltb n (node_count c) (omega (arith, less, are.long))))
        | inr more ↦
            let out : is_reached keys placed n ≡ false = rw (le-ltb n (length keys) more) refl in
            let none : one_if (is_reached keys placed n) ≡ 0 = ap (λ b. one_if b) out in
            let is = walked n in
            omega (arith, is, none) ∙ sym (ap one_if (le-ltb n (node_count c) (omega (arith, more, are.long))))
      ]
