-- For how many numbers an event is still to come, and how one event more lowers that.
use Rattle.std.proofs.Common.{[], ℕ, ◌++◌, ◌+◌, ◌==◌, ◌||◌, ◌∙◌, ◌∷◌, ◌≡◌, ◌≤◌, Bool, List, Option, Some, ap, arith, cond, count_by, false, not, refl, slice_get, suc, sym, true, zero}
use Rattle.scope_rules.specs.{Event, lacks, list_any, marks, missing, option_map_or, range_with_len}
use Rattle.scope_rules.proofs.Words.{eq-eqb}
use Rattle.scope_rules.proofs.{Completions.count_by-cons, Numbers.count_by_range, Numbers.list_any-push}

cond_weaker : (b c : Bool) → (b ≡ true → c ≡ true) → cond b 1 0 ≤ cond c 1 0
cond_weaker true c h = rw (h refl) (omega arith)
cond_weaker false true h = omega arith
cond_weaker false false h = omega arith

cond_one : (b : Bool) → b ≡ true → 1 ≤ cond {A = ℕ} b 1 0
cond_one true is = omega arith
cond_one false is = absurd cc

cond_none : (b : Bool) → b ≡ false → cond {A = ℕ} b 1 0 ≤ 0
cond_none true is = absurd cc
cond_none false is = omega arith

-- a test that passes less counts less
count_weaker : (q p : ℕ → Bool) (ns : List ℕ) → ((n : ℕ) → q n ≡ true → p n ≡ true) → count_by q ns ≤ count_by p ns
count_weaker q p [] weaker = omega arith
count_weaker q p (n ∷ ns) weaker =
    let first = cond_weaker (q n) (p n) (weaker n) in
    let rest = count_weaker q p ns weaker in
    omega (arith, count_by-cons q n ns, count_by-cons p n ns)

-- and one less, if a number of the list passes the one test and not the other
count_lower : (q p : ℕ → Bool) (ns : List ℕ) (i n : ℕ) → ((m : ℕ) → q m ≡ true → p m ≡ true) → slice_get ns i ≡ Some n → p n ≡ true → q n ≡ false → count_by q ns + 1 ≤ count_by p ns
count_lower q p [] i n weaker at now then = absurd cc
count_lower q p (m ∷ ns) zero n weaker at now then =
    let same : m ≡ n = cc in
    let rest = count_weaker q p ns weaker in
    let one = cond_one (p m) (ap p same ∙ now) in
    let none = cond_none (q m) (ap q same ∙ then) in
    omega (arith, count_by-cons q m ns, count_by-cons p m ns, one, none)
count_lower q p (m ∷ ns) (suc i) n weaker at now then =
    let first = cond_weaker (q m) (p m) (weaker m) in
    let rest = count_lower q p ns i n weaker at now then in
    omega (arith, count_by-cons q m ns, count_by-cons p m ns)

not_or_left : (b c : Bool) → not (b || c) ≡ true → not b ≡ true
not_or_left true c h = absurd cc
not_or_left false c h = refl

not_or_right : (b c : Bool) → c ≡ true → not (b || c) ≡ false
not_or_right true c h = refl
not_or_right false c h = rw h refl

lacks_push : (mark : Event → Option ℕ) (es : List Event) (e : Event) (n : ℕ) → lacks mark (es ++ e ∷ []) n ≡ not (list_any (marks mark n) es || marks mark n e)
lacks_push mark es e n = ap not (list_any-push (marks mark n) es e)

lacks_weaker : (mark : Event → Option ℕ) (es : List Event) (e : Event) (n : ℕ) → lacks mark (es ++ e ∷ []) n ≡ true → lacks mark es n ≡ true
lacks_weaker mark es e n h = not_or_left (list_any (marks mark n) es) (marks mark n e) (sym (lacks_push mark es e n) ∙ h)

marks_own : (mark : Event → Option ℕ) (e : Event) (n : ℕ) → mark e ≡ Some n → marks mark n e ≡ true
marks_own mark e n is = ap (λ o. option_map_or (λ m. m == n) o false) is ∙ eq-eqb n n refl

-- one event more leaves no more missing
pub missing_same : (mark : Event → Option ℕ) (ns : List ℕ) (es : List Event) (e : Event) → missing mark ns (es ++ e ∷ []) ≤ missing mark ns es
unfolding missing
missing_same mark ns es e = count_weaker (lacks mark (es ++ e ∷ [])) (lacks mark es) ns (lacks_weaker mark es e)

-- and one less, if it is the event of a number that lacked it
pub missing_lower : (mark : Event → Option ℕ) (ns : List ℕ) (es : List Event) (e : Event) (i n : ℕ) → slice_get ns i ≡ Some n → lacks mark es n ≡ true → mark e ≡ Some n → missing mark ns (es ++ e ∷ []) + 1 ≤ missing mark ns es
unfolding missing
missing_lower mark ns es e i n at lacked is =
    count_lower (lacks mark (es ++ e ∷ [])) (lacks mark es) ns i n (lacks_weaker mark es e) at lacked
    (lacks_push mark es e n ∙ not_or_right (list_any (marks mark n) es) (marks mark n e) (marks_own mark e n is))

cond_small : (b : Bool) → cond b 1 0 ≤ 1
cond_small true = omega arith
cond_small false = omega arith

-- one number more lacks one event more at the most
pub missing_number : (mark : Event → Option ℕ) (a k : ℕ) (es : List Event) → missing mark (range_with_len a (k + 1)) es ≤ missing mark (range_with_len a k) es + 1
unfolding missing
missing_number mark a k es =
    let last = cond_small (lacks mark es (a + k)) in
    omega (arith, count_by_range (lacks mark es) a k)
