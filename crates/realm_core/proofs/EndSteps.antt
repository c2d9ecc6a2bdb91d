-- One end of a close after the other.
use Rattle.std.proofs.Common.{[], ℕ, ◌++◌, ◌<◌, ◌∙◌, ◌∷◌, ◌≡◌, ◌≢◌, Err, IsOk, List, None, Ok, Result, Some, ap, map, subst, sym}
use Rattle.realm_core.specs.{AreInnermost, CanClose, CanEnd, EndClose, Ends.Ends, EndsInnermost, History, IsLegal, Limits, RealmStep, end_step, ended, followed, history_of, innermost, verdict}
use Rattle.realm_core.proofs.Words.{advanced-append, append_assoc, history-push, legal_history, map-append, unclosed_innermost}
use Rattle.realm_core.proofs.{Closes.goes_on, EndChains.advanced_ends, EndChains.innermost-append, EndChains.verdict_same}

-- while a close can end, the actor has an innermost scope
pub inner_there : (h : History) (a s : ℕ) → CanClose h a s → innermost h a ≡ None → ⊥
inner_there h a s can none =
    let found = unclosed_innermost h a s (record { opened = can.opened; is = can.is; by = can.by; unclosed = can.unclosed }) in
    absurd (cc (found.is, none))

-- that can be closed
pub inner_ends : (L : Limits) (steps : List RealmStep) (a s t : ℕ) → IsLegal L steps → CanClose (history_of steps) a s → innermost (history_of steps) a ≡ Some t → CanEnd (history_of steps) a t
inner_ends L steps a s t lawful can inner = (goes_on L (history_of steps) a s t (legal_history L steps lawful) can inner).can_end

pub one_end : (L M : Limits) (a s t : ℕ) (old new : List RealmStep) → IsLegal M old → CanClose (history_of old) a s → innermost (history_of old) a ≡ Some t → new ≡ old ++ end_step a t ∷ [] → IsLegal L new → EndsInnermost L a s t old new
one_end L M a s t old new lawful can inner is legal =
    let next = goes_on M (history_of old) a s t (legal_history M old lawful) can inner in
    let then : followed (history_of old) (EndClose a t) ≡ history_of new = sym (ap history_of is ∙ history-push old (end_step a t)) in
    record {
      inner = inner;
      is = is;
      legal = legal;
      still = λ other. subst (λ (h : History). CanClose h a s) then (next.still other);
      lower = λ v found. next.lower v (subst (λ (h : History). innermost h a ≡ Some v) (sym then) found);
    }

-- some ends were recorded, that of scope t as the last
pub record IsUnderWay (L : Limits) (a s t : ℕ) (old now : List RealmStep) : Type 0 where
  done : List ℕ
  are : now ≡ old ++ map (end_step a) (done ++ t ∷ [])
  ordered : AreInnermost (history_of old) a (done ++ t ∷ [])
  pub legal : IsLegal L now
  pub still : t ≢ s → CanClose (history_of now) a s
  pub lower : (v : ℕ) → innermost (history_of now) a ≡ Some v → v < t

pub way_begins : (L : Limits) (a s t : ℕ) (old new : List RealmStep) → EndsInnermost L a s t old new → IsUnderWay L a s t old new
way_begins L a s t old new e = record {
  done = [];
  are = e.is;
  ordered = (e.inner, tt);
  legal = e.legal;
  still = e.still;
  lower = e.lower;
}

pub history_ended : (a : ℕ) (old now : List RealmStep) (ts : List ℕ) → now ≡ old ++ map (end_step a) ts → history_of now ≡ ended (history_of old) a ts
unfolding history_of
history_ended a old now ts is = ap history_of is ∙ (advanced-append _ old (map (end_step a) ts) ∙ advanced_ends (history_of old) a ts)

pub way_goes_on : (L : Limits) (a s t u : ℕ) (old now new : List RealmStep) → IsUnderWay L a s t old now → EndsInnermost L a s u now new → IsUnderWay L a s u old new
way_goes_on L a s t u old now new way e =
    let so_far = way.done ++ t ∷ [] in
    record {
      done = so_far;
      are = e.is
          ∙ (ap (λ (xs : List RealmStep). xs ++ end_step a u ∷ []) way.are
          ∙ (append_assoc old (map (end_step a) so_far) (end_step a u ∷ [])
          ∙ ap (λ (xs : List RealmStep). old ++ xs) (sym (map-append (end_step a) so_far (u ∷ [])))));
      ordered = innermost-append (history_of old) a so_far (u ∷ []) way.ordered
          (subst (λ (h : History). innermost h a ≡ Some u) (history_ended a old now so_far way.are) e.inner, tt);
      legal = e.legal;
      still = e.still;
      lower = e.lower;
    }

pub way_ends : (L : Limits) (a s t : ℕ) (old now : List RealmStep) → IsUnderWay L a s t old now → t ≡ s → (nested : List ℕ) × Ends L a s nested old now
way_ends L a s t old now way same = (
  way.done,
  record {
    are = subst (λ (n : ℕ). now ≡ old ++ map (end_step a) (way.done ++ n ∷ [])) same way.are;
    ordered = subst (λ (n : ℕ). AreInnermost (history_of old) a (way.done ++ n ∷ [])) same way.ordered;
    legal = way.legal;
  },
)

-- an end, told of other names for the same
pub event_reply_of : (L M : Limits) (a b s u : ℕ) (xs ys new : List RealmStep) → L ≡ M → a ≡ b → xs ≡ ys → EndsInnermost L a s u xs new → EndsInnermost M b s u ys new
event_reply_of L M a b s u xs ys new limits actor steps e =
    subst (λ (n : ℕ). EndsInnermost M n s u ys new) actor
    (subst (λ (zs : List RealmStep). EndsInnermost M a s u zs new) steps
    (subst (λ (K : Limits). EndsInnermost K a s u xs new) limits e))

-- the end of a close leaves how scopes were closed
pub verdict_then : (a t : ℕ) (there new : List RealmStep) → new ≡ there ++ end_step a t ∷ [] → verdict (history_of new) t ≡ verdict (history_of there) t
verdict_then a t there new is =
    ap (λ (xs : List RealmStep). verdict (history_of xs) t) is
    ∙ (ap (λ (h : History). verdict h t) (history-push there (end_step a t)) ∙ verdict_same (history_of there) a t t)

pub not_refused : {A E : Type 0} (result : Result A E) (f : E) → result ≡ Err f → IsOk result → ⊥
not_refused (Ok x) f is ok = absurd (cc is)
not_refused (Err e) f is ok = absurd (cc ok)
