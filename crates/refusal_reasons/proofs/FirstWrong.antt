-- A fault names the first field that is wrong.
use Rattle.std.specs.Prelude.{◌+◌, ◌∷◌, ◌≡◌}
use Rattle.refusal_reasons.specs.{[], ℕ, Bool, Keyword, LINE_LIMIT, List, Names, NamesField, NamesFirst, NamesIn, None, OpenWord, Option, Reaches, Slot, Some, Takes, WordFault}
use Rattle.refusal_reasons.specs.{begins_comment, false, fault_of, fields, fields_fault, form_fault, is_kind, is_next, is_open_word, keyword_said, length, misfit, nat_lt, slots, true}
use Rattle.refusal_reasons.proofs.Lemmas.{ap, arith, cond, inl, inr, ltb-true, refl, subst}

some_is : (f g : WordFault) → Some f ≡ Some g → f ≡ g
some_is f g e = cc

-- ---- what is reached behind more

here : (m : ℕ) (ks : List Slot) (args : List (List ℕ)) → Reaches m ks args m ks args
here m ks args = record { before = []; words = []; form = refl; whole = refl; right = refl; place = omega arith }

-- whatever is reached by the others is reached by all
abbrev Reaching : (m p : ℕ) (ks ls : List Slot) (args more : List (List ℕ)) → Type 0
Reaching m p ks ls args more = (n : ℕ) (left : List Slot) (rest : List (List ℕ)) → Reaches m ks args n left rest → Reaches p ls more n left rest

takes_one : (m : ℕ) (x : Slot) (ks : List Slot) (word : List ℕ) (words : List (List ℕ)) → ((before : List Slot) (rest ws : List (List ℕ)) → Takes before rest ws → Takes (x ∷ before) rest (word ∷ ws)) → Reaching (m + 1) m ks (x ∷ ks) words (word ∷ words)
takes_one m x ks word words takes n left rest r = record {
  before = x ∷ r.before;
  words = word ∷ r.words;
  form = ap (λ (l : List Slot). x ∷ l) r.form;
  whole = ap (λ (l : List (List ℕ)). word ∷ l) r.whole;
  right = takes r.before rest r.words r.right;
  place = omega (arith, r.place);
}

passes_one : (m : ℕ) (o : OpenWord) (ks : List Slot) (words : List (List ℕ)) → is_next o words ≡ false → Reaching m m ks (Slot.May o ∷ ks) words words
passes_one m o ks words other n left rest r = record {
  before = Slot.May o ∷ r.before;
  words = r.words;
  form = ap (λ (l : List Slot). Slot.May o ∷ l) r.form;
  whole = r.whole;
  right = inr (subst (λ (l : List (List ℕ)). is_next o l ≡ false) r.whole other, r.right);
  place = r.place;
}

-- what a fault names there, it names in all
named : (f : Keyword) (m p : ℕ) (ks ls : List Slot) (args more : List (List ℕ)) → Reaching m p ks ls args more → (fault : WordFault) → Names f m ks args fault → Names f p ls more fault
named f m p ks ls args more reaching (WordFault.TooLong bytes) names = names
named f m p ks ls args more reaching WordFault.NoForm names = names
named f m p ks ls args more reaching (WordFault.Wrong g n k) names = (names.0, names.1, names.2, names.3, reaching n (Slot.Must k ∷ names.1) (names.2 ∷ names.3) names.4, names.5)
named f m p ks ls args more reaching (WordFault.Missing g k) names = (names.0, names.1, names.2, reaching names.1 (Slot.Must k ∷ names.2) [] names.3)
named f m p ks ls args more reaching (WordFault.Extra g n) names = (names.0, names.1, names.2, reaching n [] (names.1 ∷ names.2) names.3)

-- ---- fields one after the other

module _ (f : Keyword) where
  misfit_names : (m : ℕ) (ks : List Slot) (args : List (List ℕ)) (fault : WordFault) → misfit f m ks args ≡ Some fault → Names f m ks args fault
  unfolding misfit
  misfit_names m [] [] fault is = absurd cc
  misfit_names m [] (word ∷ words) fault is = subst (Names f m [] (word ∷ words)) (some_is (WordFault.Extra f m) fault is) (refl, word, words, here m [] (word ∷ words))
  misfit_names m (Slot.Must k ∷ ks) [] fault is = subst (Names f m (Slot.Must k ∷ ks) []) (some_is (WordFault.Missing f k) fault is) (refl, m, ks, here m (Slot.Must k ∷ ks) [])
  misfit_names m (Slot.Must k ∷ ks) (word ∷ words) fault is = by (is_kind k word) refl is (misfit_names (m + 1) ks words fault)
    where
      by : (b : Bool) → is_kind k word ≡ b → cond b (misfit f (m + 1) ks words) (Some (WordFault.Wrong f m k)) ≡ Some fault → (misfit f (m + 1) ks words ≡ Some fault → Names f (m + 1) ks words fault) → Names f m (Slot.Must k ∷ ks) (word ∷ words) fault
      by true fits next later =
          named f (m + 1) m ks (Slot.Must k ∷ ks) words (word ∷ words) (takes_one m (Slot.Must k) ks word words (λ before rest ws takes. (word, ws, refl, fits, takes))) fault (later next)
      by false wrong found later =
          subst (Names f m (Slot.Must k ∷ ks) (word ∷ words)) (some_is (WordFault.Wrong f m k) fault found) (refl, ks, word, words, here m (Slot.Must k ∷ ks) (word ∷ words), wrong)
  misfit_names m (Slot.May o ∷ ks) [] fault is = named f m m ks (Slot.May o ∷ ks) [] [] (passes_one m o ks [] refl) fault (misfit_names m ks [] fault is)
  misfit_names m (Slot.May o ∷ ks) (word ∷ words) fault is = by (is_open_word o word) refl is (misfit_names (m + 1) ks words fault) (misfit_names m ks (word ∷ words) fault)
    where
      by : (b : Bool) → is_open_word o word ≡ b → cond b (misfit f (m + 1) ks words) (misfit f m ks (word ∷ words)) ≡ Some fault → (misfit f (m + 1) ks words ≡ Some fault → Names f (m + 1) ks words fault) → (misfit f m ks (word ∷ words) ≡ Some fault → Names f m ks (word ∷ words) fault) → Names f m (Slot.May o ∷ ks) (word ∷ words) fault
      by true fits next taken passed =
          named f (m + 1) m ks (Slot.May o ∷ ks) words (word ∷ words) (takes_one m (Slot.May o) ks word words (λ before rest ws takes. inl (word, ws, refl, fits, takes))) fault (taken next)
      by false other next taken passed = named f m m ks (Slot.May o ∷ ks) (word ∷ words) (word ∷ words) (passes_one m o ks (word ∷ words) other) fault (passed next)

-- ---- lines

form_names : (o : Option Keyword) (args : List (List ℕ)) (fault : WordFault) → form_fault o args ≡ Some fault → NamesIn o args fault
form_names None args fault is = subst (NamesIn None args) (some_is WordFault.NoForm fault is) tt
form_names (Some f) args fault is = misfit_names f 0 (slots f) args fault is

fields_names : (words : List (List ℕ)) (fault : WordFault) → fields_fault words ≡ Some fault → NamesField words fault
unfolding fields_fault
fields_names [] fault is = absurd cc
fields_names (word ∷ args) fault is = by (begins_comment word) is
  where
    by : (b : Bool) → cond b None (form_fault (keyword_said word) args) ≡ Some fault → NamesIn (keyword_said word) args fault
    by true none = absurd cc
    by false found = form_names (keyword_said word) args fault found

-- no field is too long
in_form : (o : Option Keyword) (args : List (List ℕ)) (bytes : ℕ) → NamesIn o args (WordFault.TooLong bytes) → ⊥
in_form None args bytes names = names
in_form (Some f) args bytes names = names

in_field : (words : List (List ℕ)) (bytes : ℕ) → NamesField words (WordFault.TooLong bytes) → ⊥
in_field [] bytes names = names
in_field (word ∷ args) bytes names = in_form (keyword_said word) args bytes names

of_fields : (line : List ℕ) (fault : WordFault) → NamesField (fields line) fault → NamesFirst line fault
of_fields line (WordFault.TooLong bytes) names = absurd (in_field (fields line) bytes names)
of_fields line _ names = names

pub faults_name_first : (line : List ℕ) (fault : WordFault) → fault_of line ≡ Some fault → NamesFirst line fault
unfolding fault_of
faults_name_first line fault is = by (nat_lt LINE_LIMIT (length line)) refl is
  where
    by : (b : Bool) → nat_lt LINE_LIMIT (length line) ≡ b → cond b (Some (WordFault.TooLong (length line))) (fields_fault (fields line)) ≡ Some fault → NamesFirst line fault
    by true long found = subst (NamesFirst line) (some_is (WordFault.TooLong (length line)) fault found) (refl, ltb-true LINE_LIMIT (length line) long)
    by false short found = of_fields line fault (fields_names (fields line) fault found)
