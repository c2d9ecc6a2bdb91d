-- The rows stand for one stretch of the placed nodes after the other.
use Rattle.std.specs.Prelude.{◌&&◌, ◌++◌, ◌+◌, ◌<◌, ◌==◌, ◌||◌, ◌∷◌, ◌≡◌, ◌≤◌}
use Rattle.run_picture.specs.{[], ℕ, Alike, All, Below, Bool, Class, Fold, Folded, IsFoldOf, List, None, Option, Placed, Rest, Row, Some, StandFor, begun, begun_with, cond, counted, false, fits}
use Rattle.run_picture.specs.{is_done, is_ended_as, is_failure, is_task, is_unended, length, more_if, nat_lt, not, nothing, one_behind, option_map_or, plain, slice_get, taken_in, true}
use Rattle.run_picture.proofs.Lemmas.{◌∙◌, All-cons, All-head, All-nil, All-tail, and_parts, ap, append_assoc, arith, count_by-le-length, eqb-true, inl, inr, length-append, length-take, ltb-true}
use Rattle.run_picture.proofs.Lemmas.{or_cases, refl, subst, sum_by_push, sym, take, take_at}

all_push : (P : Placed → Type 0) (ps : List Placed) (p : Placed) → All P ps → P p → All P (ps ++ p ∷ [])
all_push P [] p all one = All-cons P p [] one (All-nil P)
all_push P (q ∷ ps) p all one = All-cons P q (ps ++ p ∷ []) (All-head P q ps all) (all_push P ps p (All-tail P q ps all) one)

-- so deep or deeper, deeper, deeper or a task, or done
abbrev Lower : ℕ → Placed → Type 0
Lower d p = d ≤ p.depth

abbrev Deeper : ℕ → Placed → Type 0
Deeper d p = d < p.depth

abbrev IsRest : (ℕ → Class) → ℕ → Placed → Type 0
IsRest of d p = (nat_lt d p.depth || is_task (of p.node)) ≡ true

abbrev IsDone : (ℕ → Class) → Placed → Type 0
IsDone of p = is_done (of p.node) ≡ true

pub plain_is : (of : ℕ → Class) (p : Placed) → IsFoldOf of (plain p) p []
plain_is of p = record {
  node = refl;
  depth = refl;
  lower = All-nil (Lower p.depth);
  alone = λ none. refl;
  tasks = λ f is. absurd cc;
  failures = λ f is. absurd cc;
  unended = λ f is. absurd cc;
  closed = λ f is none. absurd cc;
  ended = λ f failed is some. absurd cc;
  rest = λ f is some. absurd cc;
}

abbrev fold_of : Option Folded → Fold → Fold
fold_of None other = other
fold_of (Some f) other = f.fold

-- a row that has taken in nothing yet
begun_row : (of : ℕ → Class) (p : Placed) (fold : Fold) → (fold ≡ Below → of p.node ≡ Class.Scope true) → ((failed : Bool) → fold ≡ Alike failed → of p.node ≡ Class.Task failed true) → (fold ≡ Rest → is_task (of p.node) ≡ true) →
    IsFoldOf of (begun_with p fold) p []
begun_row of p fold below alike rest = record {
  node = refl;
  depth = refl;
  lower = All-nil (Lower p.depth);
  alone = λ none. refl;
  tasks = λ f same. ap (λ (o : Option Folded). option_map_or (λ x. x.tasks) o 0) (sym same);
  failures = λ f same. ap (λ (o : Option Folded). option_map_or (λ x. x.failed) o 0) (sym same);
  unended = λ f same. ap (λ (o : Option Folded). option_map_or (λ x. x.unended) o 0) (sym same);
  closed = λ f same is. (below (ap (λ (o : Option Folded). fold_of o fold) same ∙ is), All-nil (Deeper p.depth));
  ended = λ f failed same is. (alike failed (ap (λ (o : Option Folded). fold_of o fold) same ∙ is), All-nil (IsDone of));
  rest = λ f same is. (rest (ap (λ (o : Option Folded). fold_of o fold) same ∙ is), All-nil (IsRest of p.depth));
}

begun_is : (of : ℕ → Class) (full : Bool) (p : Placed) (c : Class) → of p.node ≡ c → IsFoldOf of (begun full p c) p []
begun_is of full p (Class.Scope true) is = begun_row of p Below (λ e. is) (λ failed e. absurd cc) (λ e. absurd cc)
begun_is of full p (Class.Scope false) is = plain_is of p
begun_is of true p (Class.Task failed ended) is = begun_row of p Rest (λ e. absurd cc) (λ other e. absurd cc) (λ e. ap is_task is)
begun_is of false p (Class.Task failed true) is = begun_row of p (Alike failed) (λ e. absurd cc) (λ other e. let it : failed ≡ other = cc in is ∙ ap (λ b. Class.Task b true) it) (λ e. absurd cc)
begun_is of false p (Class.Task failed false) is = plain_is of p

-- ---- what a row takes in

counted_tasks : (f : Folded) (c : Class) → f.tasks < 4294967295 → (counted f c).tasks ≡ f.tasks + cond (is_task c) 1 0
counted_tasks f (Class.Task failed ended) small = omega arith
counted_tasks f (Class.Scope closed) small = omega arith

more_is : (b : Bool) (n : ℕ) → n < 4294967295 → more_if b n ≡ n + cond b 1 0
more_is true n small = omega arith
more_is false n small = omega arith

counted_failures : (f : Folded) (c : Class) → f.failed < 4294967295 → (counted f c).failed ≡ f.failed + cond (is_failure c) 1 0
counted_failures f (Class.Task failed ended) small = more_is failed f.failed small
counted_failures f (Class.Scope closed) small = omega arith

counted_unended : (f : Folded) (c : Class) → f.unended < 4294967295 → (counted f c).unended ≡ f.unended + cond (is_unended c) 1 0
counted_unended f (Class.Task failed ended) small = more_is (not ended) f.unended small
counted_unended f (Class.Scope closed) small = omega arith

counted_fold : (f : Folded) (c : Class) → (counted f c).fold ≡ f.fold
counted_fold f (Class.Task failed ended) = refl
counted_fold f (Class.Scope closed) = refl

fits_deeper : (r : Row) (p : Placed) (c : Class) (fold : Fold) → fold ≡ Below → fits fold r p c ≡ true → r.depth < p.depth
fits_deeper r p c Below is it = ltb-true r.depth p.depth it
fits_deeper r p c (Alike failed) is it = absurd cc
fits_deeper r p c Rest is it = absurd cc

-- so deep or deeper: below, or beside
lower_by : (d e : ℕ) (b t : Bool) → ((nat_lt d e && b) || ((d == e) && t)) ≡ true → d ≤ e
lower_by d e b t it =
    elim (or_cases (nat_lt d e && b) ((d == e) && t) it) [
      | inl deep ↦ let less = ltb-true d e (and_parts (nat_lt d e) b deep).0 in omega (arith, less)
      | inr same ↦ let level = eqb-true d e (and_parts (d == e) t same).0 in omega (arith, level)
    ]

fits_lower : (r : Row) (p : Placed) (c : Class) (fold : Fold) → fits fold r p c ≡ true → r.depth ≤ p.depth
fits_lower r p c Below it = let less = ltb-true r.depth p.depth it in omega (arith, less)
fits_lower r p c (Alike failed) it = lower_by r.depth p.depth (is_done c) (is_ended_as failed c) it
fits_lower r p c Rest it =
    elim (or_cases (nat_lt r.depth p.depth) ((r.depth == p.depth) && is_task c) it) [
      | inl deep ↦ let less = ltb-true r.depth p.depth deep in omega (arith, less)
      | inr same ↦ let level = eqb-true r.depth p.depth (and_parts (r.depth == p.depth) (is_task c) same).0 in omega (arith, level)
    ]

rest_or : (a b t : Bool) → (a || (b && t)) ≡ true → (a || t) ≡ true
rest_or true b t it = refl
rest_or false true t it = it
rest_or false false t it = absurd cc

fits_rest : (r : Row) (p : Placed) (c : Class) (fold : Fold) → fold ≡ Rest → fits fold r p c ≡ true → (nat_lt r.depth p.depth || is_task c) ≡ true
fits_rest r p c Below is it = absurd cc
fits_rest r p c (Alike failed) is it = absurd cc
fits_rest r p c Rest is it = rest_or (nat_lt r.depth p.depth) (r.depth == p.depth) (is_task c) it

ended_done : (failed : Bool) (c : Class) → is_ended_as failed c ≡ true → is_done c ≡ true
ended_done true (Class.Task true true) it = refl
ended_done false (Class.Task false true) it = refl
ended_done true (Class.Task false true) it = refl
ended_done false (Class.Task true true) it = refl
ended_done true (Class.Task true false) it = absurd cc
ended_done true (Class.Task false false) it = absurd cc
ended_done false (Class.Task true false) it = absurd cc
ended_done false (Class.Task false false) it = absurd cc
ended_done true (Class.Scope closed) it = absurd cc
ended_done false (Class.Scope closed) it = absurd cc

fits_done : (r : Row) (p : Placed) (c : Class) (fold : Fold) (failed : Bool) → fold ≡ Alike failed → fits fold r p c ≡ true → is_done c ≡ true
fits_done r p c Below failed is it = absurd cc
fits_done r p c Rest failed is it = absurd cc
fits_done r p c (Alike other) failed is it =
    elim (or_cases (nat_lt r.depth p.depth && is_done c) ((r.depth == p.depth) && is_ended_as other c) it) [
      | inl deep ↦ (and_parts (nat_lt r.depth p.depth) (is_done c) deep).1
      | inr same ↦ ended_done other c (and_parts (r.depth == p.depth) (is_ended_as other c) same).1
    ]

-- a row with one node more
taken_is : (of : ℕ → Class) (r : Row) (first : Placed) (inside : List Placed) (p : Placed) (f : Folded) → IsFoldOf of r first inside → r.folded ≡ Some f → fits f.fold r p (of p.node) ≡ true → length inside < 4294967295 →
    IsFoldOf of (record { node = r.node; depth = r.depth; folded = Some (counted f (of p.node)) }) first (inside ++ p ∷ [])
taken_is of r first inside p f it folded takes small =
    let c = of p.node in
    let level = it.depth in
    let low = fits_lower r p c f.fold takes in
    record {
      node = it.node;
      depth = it.depth;
      lower = all_push (Lower first.depth) inside p it.lower (omega (arith, low, level));
      alone = λ none. absurd cc;
      tasks = λ g same.
          let was = it.tasks f folded in
          let bound = count_by-le-length (λ (q : Placed). is_task (of q.node)) inside in
          let more = counted_tasks f c (omega (arith, was, bound, small)) in
          let pushed = sum_by_push (λ (q : Placed). cond (is_task (of q.node)) 1 0) inside p in
          let same_count : g.tasks ≡ (counted f c).tasks = ap (λ (o : Option Folded). option_map_or (λ x. x.tasks) o 0) (sym same) in
          omega (arith, was, more, pushed, same_count);
      failures = λ g same.
          let was = it.failures f folded in
          let bound = count_by-le-length (λ (q : Placed). is_failure (of q.node)) inside in
          let more = counted_failures f c (omega (arith, was, bound, small)) in
          let pushed = sum_by_push (λ (q : Placed). cond (is_failure (of q.node)) 1 0) inside p in
          let same_count : g.failed ≡ (counted f c).failed = ap (λ (o : Option Folded). option_map_or (λ x. x.failed) o 0) (sym same) in
          omega (arith, was, more, pushed, same_count);
      unended = λ g same.
          let was = it.unended f folded in
          let bound = count_by-le-length (λ (q : Placed). is_unended (of q.node)) inside in
          let more = counted_unended f c (omega (arith, was, bound, small)) in
          let pushed = sum_by_push (λ (q : Placed). cond (is_unended (of q.node)) 1 0) inside p in
          let same_count : g.unended ≡ (counted f c).unended = ap (λ (o : Option Folded). option_map_or (λ x. x.unended) o 0) (sym same) in
          omega (arith, was, more, pushed, same_count);
      closed = λ g same is.
          let fold : f.fold ≡ Below = sym (counted_fold f c) ∙ (ap (λ (o : Option Folded). fold_of o Rest) same ∙ is) in
          let was = it.closed f folded fold in
          let deep = fits_deeper r p c f.fold fold takes in
          (was.0, all_push (Deeper first.depth) inside p was.1 (omega (arith, deep, level)));
      ended = λ g failed same is.
          let fold : f.fold ≡ Alike failed = sym (counted_fold f c) ∙ (ap (λ (o : Option Folded). fold_of o Rest) same ∙ is) in
          let was = it.ended f failed folded fold in
          (was.0, all_push (IsDone of) inside p was.1 (fits_done r p c f.fold failed fold takes));
      rest = λ g same is.
          let fold : f.fold ≡ Rest = sym (counted_fold f c) ∙ (ap (λ (o : Option Folded). fold_of o Below) same ∙ is) in
          let was = it.rest f folded fold in
          (was.0, all_push (IsRest of first.depth) inside p was.1 (ap (λ n. nat_lt n p.depth || is_task c) (sym level) ∙ fits_rest r p c f.fold fold takes));
    }

-- ---- row after row

-- the rows stand for some of the nodes, and the last row for the others
pub record IsLastOf (of : ℕ → Class) (rows : List Row) (last : Row) (ps : List Placed) : Type 0 where
  pub before : List Placed
  pub first : Placed
  pub inside : List Placed
  pub stand : StandFor of rows before
  pub fold : IsFoldOf of last first inside
  pub whole : before ++ first ∷ inside ≡ ps

-- the first node begins the first row
pub last_begins : (of : ℕ → Class) (rows : List Row) (last : Row) (first : Placed) (k : Class) → rows ≡ [] → k ≡ of first.node → last ≡ begun false first k → IsLastOf of rows last (first ∷ [])
last_begins of rows last first k none class is = record { before = []; first = first; inside = []; stand = subst (λ l. StandFor of l []) (sym none) nothing; fold = subst (λ (r : Row). IsFoldOf of r first []) (sym is) (begun_is of false first k (sym class)); whole = refl }

-- the last row takes in one more
last_takes : (of : ℕ → Class) (rows : List Row) (last taken : Row) (ps : List Placed) (p : Placed) → IsLastOf of rows last ps → length ps < 4294967295 → taken_in last p (of p.node) ≡ Some taken → IsLastOf of rows taken (ps ++ p ∷ [])
last_takes of rows last taken ps p it small takes = by last.folded refl takes
  where
    long : length it.inside < 4294967295
    long = omega (arith, small, ap length it.whole, length-append it.before (it.first ∷ it.inside))

    joined : it.before ++ it.first ∷ (it.inside ++ p ∷ []) ≡ ps ++ p ∷ []
    joined = sym (append_assoc it.before (it.first ∷ it.inside) (p ∷ [])) ∙ ap (λ l. l ++ p ∷ []) it.whole

    by_fit : (f : Folded) (b : Bool) → last.folded ≡ Some f → fits f.fold last p (of p.node) ≡ b → cond b (Some (record { node = last.node; depth = last.depth; folded = Some (counted f (of p.node)) })) None ≡ Some taken → IsLastOf of rows taken (ps ++ p ∷ [])
    by_fit f false is fit same = absurd cc
    by_fit f true is fit same =
        let row : record { node = last.node; depth = last.depth; folded = Some (counted f (of p.node)) } ≡ taken = cc in
        record { before = it.before; first = it.first; inside = it.inside ++ p ∷ []; stand = it.stand; fold = subst (λ (r : Row). IsFoldOf of r it.first (it.inside ++ p ∷ [])) row (taken_is of last it.first it.inside p f it.fold is fit long); whole = joined }

    by : (o : Option Folded) → last.folded ≡ o → option_map_or (λ f. cond (fits f.fold last p (of p.node)) (Some (record { node = last.node; depth = last.depth; folded = Some (counted f (of p.node)) })) None) o None ≡ Some taken → IsLastOf of rows taken (ps ++ p ∷ [])
    by None is same = absurd cc
    by (Some f) is same = by_fit f (fits f.fold last p (of p.node)) is refl same

-- the last row is done, and stands for its nodes
pub last_stands : (of : ℕ → Class) (rows rows_new : List Row) (last : Row) (ps : List Placed) → IsLastOf of rows last ps → rows_new ≡ rows ++ last ∷ [] → StandFor of rows_new ps
last_stands of rows rows_new last ps it more = subst (StandFor of rows_new) it.whole (subst (λ l. StandFor of l (it.before ++ it.first ∷ it.inside)) (sym more) (one_behind it.stand it.fold))

-- the nodes so far, and the next one
pub others_at : (first : Placed) (others : List Placed) (i : ℕ) (p : Placed) → slice_get others i ≡ Some p → first ∷ take (i + 1) others ≡ (first ∷ take i others) ++ p ∷ []
others_at first others i p at = ap (λ l. first ∷ l) (take_at others i p at)

pub takes_next : (of : ℕ → Class) (rows rows_new : List Row) (last last_new taken : Row) (first : Placed) (others : List Placed) (i : ℕ) (p : Placed) (k : Class) (found : Option Row) → slice_get others i ≡ Some p → IsLastOf of rows last (first ∷ take i others) → length others < 4294967294 → k ≡ of p.node →
    found ≡ taken_in last p k → found ≡ Some taken → rows_new ≡ rows → last_new ≡ taken → IsLastOf of rows_new last_new (first ∷ take (i + 1) others)
takes_next of rows rows_new last last_new taken first others i p k found at it few class is some same_rows same_last =
    let takes : taken_in last p (of p.node) ≡ Some taken = ap (taken_in last p) (sym class) ∙ (sym is ∙ some) in
    let small : length (first ∷ take i others) < 4294967295 = omega (arith, few, length-take i others) in
    let next = last_takes of rows last taken (first ∷ take i others) p it small takes in
    subst (λ l. IsLastOf of l last_new (first ∷ take (i + 1) others)) (sym same_rows) (subst (λ r. IsLastOf of rows r (first ∷ take (i + 1) others)) (sym same_last) (subst (IsLastOf of rows taken) (sym (others_at first others i p at)) next))

-- the next node begins a row
pub begins_next : (of : ℕ → Class) (full : Bool) (rows rows_new : List Row) (last last_new : Row) (first : Placed) (others : List Placed) (i : ℕ) (p : Placed) (k : Class) → slice_get others i ≡ Some p → IsLastOf of rows last (first ∷ take i others) → k ≡ of p.node →
    rows_new ≡ rows ++ last ∷ [] → last_new ≡ begun full p k → IsLastOf of rows_new last_new (first ∷ take (i + 1) others)
begins_next of full rows rows_new last last_new first others i p k at it class more same_last = record {
  before = first ∷ take i others;
  first = p;
  inside = [];
  stand = last_stands of rows rows_new last (first ∷ take i others) it more;
  fold = subst (λ (r : Row). IsFoldOf of r p []) (sym same_last) (begun_is of full p k (sym class));
  whole = sym (others_at first others i p at);
}

-- no rows stand for no nodes
pub nothing_of : (of : ℕ → Class) (rows : List Row) (ps : List Placed) → rows ≡ [] → StandFor of rows (take 0 ps)
nothing_of of rows ps none = subst (λ l. StandFor of l []) (sym none) nothing

-- one row by itself
pub plain_next : (of : ℕ → Class) (rows rows_new : List Row) (row : Row) (ps : List Placed) (i : ℕ) (p : Placed) → slice_get ps i ≡ Some p → StandFor of rows (take i ps) → row ≡ plain p → rows_new ≡ rows ++ row ∷ [] → StandFor of rows_new (take (i + 1) ps)
plain_next of rows rows_new row ps i p at it is more =
    let fold : IsFoldOf of row p [] = subst (λ (r : Row). IsFoldOf of r p []) (sym is) (plain_is of p) in
    subst (StandFor of rows_new) (sym (take_at ps i p at)) (subst (λ l. StandFor of l (take i ps ++ p ∷ [])) (sym more) (one_behind it fold))
