-- What was collected of all that came, as far as one has looked.
use Rattle.std.proofs.Common.{[], ◌++◌, ◌∙◌, ◌∷◌, ◌≡◌, All, List, None, Option, Some, ap, map, refl, subst, sym}
use Rattle.balkreyn.specs.{Came, HasNotFailed, IsFirstCut, Mark}
use Rattle.balkreyn.proofs.Words.{All-append, All-cons, All-nil, append-nil, append_assoc, map-append}
use Rattle.balkreyn.specs.declared.act.came.Came.TheVariants as came

-- the first mark among them, or none: then all have values
abbrev pub IsSoFar : {V E : Type 0} → List (Came V E) → List V → Option Mark → Type 0
IsSoFar seen values None = seen ≡ map came.Value values
IsSoFar seen values (Some mark) = IsFirstCut seen mark

-- what is left follows what was seen, of which none failed
pub record Collected {V E : Type 0} (found left : List (Came V E)) (values : List V) (cut : Option Mark) : Type 0 where
  pub seen : List (Came V E)
  pub all : found ≡ seen ++ left
  pub none : All HasNotFailed seen
  pub so : IsSoFar seen values cut

one_on : {V E : Type 0} (seen left : List (Came V E)) (one : Came V E) → seen ++ one ∷ left ≡ (seen ++ one ∷ []) ++ left
one_on seen left one = sym (append_assoc seen (one ∷ []) left)

more_behind : {V E : Type 0} (seen : List (Came V E)) (one : Came V E) (mark : Mark) → IsFirstCut seen mark → IsFirstCut (seen ++ one ∷ []) mark
more_behind seen one mark it = (it.0, it.1 ++ one ∷ [], ap (λ s. s ++ one ∷ []) it.2 ∙ append_assoc (map came.Value it.0) (came.Cut mark ∷ it.1) (one ∷ []))

-- a value more
pub one_value : {V E : Type 0} (found left next : List (Came V E)) (values more : List V) (cut : Option Mark) (value : V) → left ≡ came.Value value ∷ next → more ≡ values ++ value ∷ [] → Collected found left values cut → Collected found next more cut
one_value found left next values more cut value at pushed it = record {
  seen = it.seen ++ came.Value value ∷ [];
  all = it.all ∙ ap (λ l. it.seen ++ l) at ∙ one_on it.seen next (came.Value value);
  none = All-append HasNotFailed it.seen (came.Value value ∷ []) it.none (All-cons HasNotFailed (came.Value value) [] tt (All-nil HasNotFailed));
  so = by cut it.so;
}
  where
    by : (cut : Option Mark) → IsSoFar it.seen values cut → IsSoFar (it.seen ++ came.Value value ∷ []) more cut
    by None so = ap (λ s. s ++ came.Value value ∷ []) so ∙ (sym (map-append came.Value values (value ∷ [])) ∙ ap (map came.Value) (sym pushed))
    by (Some mark) so = more_behind it.seen (came.Value value) mark so

-- a mark more: the first, or a later one
pub first_cut : {V E : Type 0} (found left next : List (Came V E)) (values : List V) (cut new : Option Mark) (mark : Mark) → left ≡ came.Cut mark ∷ next → cut ≡ None → new ≡ Some mark → Collected found left values cut → Collected found next values new
first_cut found left next values cut new mark at before behind it = record {
  seen = it.seen ++ came.Cut mark ∷ [];
  all = it.all ∙ ap (λ l. it.seen ++ l) at ∙ one_on it.seen next (came.Cut mark);
  none = All-append HasNotFailed it.seen (came.Cut mark ∷ []) it.none (All-cons HasNotFailed (came.Cut mark) [] tt (All-nil HasNotFailed));
  so = subst (IsSoFar (it.seen ++ came.Cut mark ∷ []) values) (sym behind) (values, [], ap (λ s. s ++ came.Cut mark ∷ []) (subst (IsSoFar it.seen values) before it.so));
}

pub next_cut : {V E : Type 0} (found left next : List (Came V E)) (values : List V) (cut new : Option Mark) (first mark : Mark) → left ≡ came.Cut mark ∷ next → cut ≡ Some first → new ≡ Some first → Collected found left values cut → Collected found next values new
next_cut found left next values cut new first mark at before behind it = record {
  seen = it.seen ++ came.Cut mark ∷ [];
  all = it.all ∙ ap (λ l. it.seen ++ l) at ∙ one_on it.seen next (came.Cut mark);
  none = All-append HasNotFailed it.seen (came.Cut mark ∷ []) it.none (All-cons HasNotFailed (came.Cut mark) [] tt (All-nil HasNotFailed));
  so = subst (IsSoFar (it.seen ++ came.Cut mark ∷ []) values) (sym behind) (more_behind it.seen (came.Cut mark) first (subst (IsSoFar it.seen values) before it.so));
}

-- all were seen, and one was cut
pub one_was_cut : {V E : Type 0} (found left : List (Came V E)) (values : List V) (cut : Option Mark) (mark : Mark) → left ≡ [] → cut ≡ Some mark → Collected found left values cut → All HasNotFailed found × IsFirstCut found mark
one_was_cut found left values cut mark end is it =
    let same : found ≡ it.seen = it.all ∙ ap (λ l. it.seen ++ l) end ∙ append-nil it.seen in
    (subst (All HasNotFailed) (sym same) it.none, subst (λ l. IsFirstCut l mark) (sym same) (subst (IsSoFar it.seen values) is it.so))
