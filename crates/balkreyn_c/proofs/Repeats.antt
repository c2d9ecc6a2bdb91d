-- What a batch did to a realm, and to a book.
use Rattle.std.proofs.Common.{ℕ, ℤ, ◌+◌, ◌<ℤ◌, ◌<◌, ◌↔◌, ◌∙◌, ◌≡◌, ◌≢◌, ◌≤ℤ◌, ◌≤◌, Bool, IsTrue, List, Option, Some, add-one, ap, arith, below_more, drop, false, get_or, inl, inr, length, negsuc, pos, refl, set, subst, suc, sym}
use Rattle.std.proofs.Common.{true, zero}
use Rattle.balkreyn_c.specs.{Acting.Performs, ActsMany, Batched, Event, Realm, Repeats, TimedRealm, TriesAt, answer_at, with_realm}
use Rattle.balkreyn_c.proofs.Lemmas.{drop-drop, drop-set-lt, get_or-set_other, get_or-set_same, ints, length-set}

-- a write behind the first n answers leaves what they say
repeats_kept : (old : Realm) (e : Event) (xs : List ℤ) (n i : ℕ) (v : ℤ) (new : Realm) → n ≤ i → Repeats old e xs n new → Repeats old e (set xs i v) n new
unfolding Repeats
repeats_kept old e xs zero i v new below is = is
repeats_kept old e xs (suc n) i v new below is =
    let other : n ≢ i = omega arith in
    let P : ℤ → Type 0 = λ a. Performs is.0 e a new in
    (is.0, repeats_kept old e xs n i v is.0 (omega arith) is.1, subst P (sym (get_or-set_other xs i n v (pos 0) other)) is.2)

pub repeats_none : (old new : Realm) (e : Event) (xs : List ℤ) → new ≡ old → Repeats old e xs 0 new
unfolding Repeats
repeats_none old new e xs same = same

-- one more try
repeats_more : (old middle new : Realm) (e : Event) (xs ys : List ℤ) (i : ℕ) → i < length xs → Repeats old e xs i middle → TriesAt middle e i new xs ys → Repeats old e ys (i + 1) new
unfolding Repeats
repeats_more old middle new e xs ys i within is tries =
    let P : ℤ → Type 0 = λ a. Performs middle e a new in
    let Q : List ℤ → Type 0 = λ zs. Repeats old e zs (suc i) new in
    let least : i ≤ i = omega arith in
    rw add-one (subst Q (sym tries.written) (middle, repeats_kept old e xs i i tries.answer middle least is, subst P (sym (get_or-set_same xs i tries.answer (pos 0) within)) tries.performs))

-- a try that is not refused has an answer
pub not_refused : (refused : Bool) (answer : ℤ) → refused ≡ false → (IsTrue refused ↔ (answer <ℤ pos 0)) → pos 0 ≤ℤ answer
not_refused true answer is told = absurd cc
not_refused false (pos n) is told = omega (arith, ints)
not_refused false (negsuc n) is told = let both : IsTrue false = told.1 (omega (arith, ints)) in absurd cc

-- how far a batch has come, where no try was refused
pub record Gone (old : Realm) (e : Event) (was now : List ℤ) (i : ℕ) (new : Realm) : Type 0 where
  pub room : length now ≡ length was
  pub repeats : Repeats old e now i new
  pub went : (k : ℕ) → k < i → pos 0 ≤ℤ answer_at now k
  pub others : drop i now ≡ drop i was

pub gone_none : (old : Realm) (e : Event) (was : List ℤ) → Gone old e was was 0 old
gone_none old e was = record { room = refl; repeats = repeats_none old old e was refl; went = λ k below. absurd (omega arith); others = refl }

module _ (old middle new : Realm) (e : Event) (was xs ys : List ℤ) (i : ℕ) (gone : Gone old e was xs i middle) (within : i < length was) (tries : TriesAt middle e i new xs ys) where
  room : length ys ≡ length was
  room = ap length tries.written ∙ (length-set xs i tries.answer ∙ gone.room)

  repeats : Repeats old e ys (i + 1) new
  repeats = let there : i < length xs = omega (arith, gone.room) in repeats_more old middle new e xs ys i there gone.repeats tries

  went : (k : ℕ) → k < i → pos 0 ≤ℤ answer_at ys k
  went k below =
      let other : k ≢ i = omega arith in
      let P : ℤ → Type 0 = λ a. pos 0 ≤ℤ a in
      subst P (sym (ap (λ (zs : List ℤ). get_or zs k (pos 0)) tries.written ∙ get_or-set_other xs i k tries.answer (pos 0) other)) (gone.went k below)

  others : drop (i + 1) ys ≡ drop (i + 1) was
  others =
      let behind : i < i + 1 = omega arith in
      ap (drop (i + 1)) tries.written ∙ (drop-set-lt (i + 1) xs i tries.answer behind ∙ (sym (drop-drop 1 i xs) ∙ (ap (drop 1) gone.others ∙ drop-drop 1 i was)))

  pub gone_more : pos 0 ≤ℤ answer_at ys i → Gone old e was ys (i + 1) new
  gone_more stands = record { room = room; repeats = repeats; went = below_more (λ k. pos 0 ≤ℤ answer_at ys k) i went stands; others = others }

  pub stopped : (answer : ℤ) → answer ≡ pos i → answer_at ys i <ℤ pos 0 → Batched old e answer new was ys
  stopped answer number refused = record { made = i; tried = i + 1; number = number; repeats = repeats; went = went; ended = inr (record { one_more = refl; within = within; refused = refused }); others = others }

pub whole : (old new : Realm) (e : Event) (was now : List ℤ) (i : ℕ) (answer : ℤ) → answer ≡ pos (length now) → i ≡ length was → Gone old e was now i new → Batched old e answer new was now
whole old new e was now i answer number full gone = record { made = i; tried = i; number = number ∙ ap pos (gone.room ∙ sym full); repeats = gone.repeats; went = gone.went; ended = inl (record { all = refl; full = full }); others = gone.others }

-- the batch was tried in the realm of the book
pub acted : (held new : Option TimedRealm) (old : TimedRealm) (realm : Realm) (e : Event) (answer : ℤ) (was now : List ℤ) → held ≡ Some old → Batched old.realm e answer realm was now → new ≡ Some (with_realm old realm) → ActsMany held (Some e) answer new was now
acted held new old realm e answer was now there batched holds = rw there (record { realm = realm; holds = holds; batched = batched })
