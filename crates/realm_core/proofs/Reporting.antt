-- What was made before the ends is what is so after them.
use Rattle.std.proofs.Common.{[], ℕ, ◌++◌, ◌∙◌, ◌∷◌, ◌≡◌, List, None, Option, Some, ap, map, option_map, refl, subst, sym, true}
use Rattle.realm_core.specs.{AreInnermost, ArePrepared, AreReported, CanClose, Ends.Ends, History, InEndOrder, IsLegal, IsPrepared, IsReported, Legal, LegalFrom, Limits, LogValue, RealmStep, Reports.Shown, Verdict, advance}
use Rattle.realm_core.specs.{advanced, closed, end_step, ended, history_of, log, numbers, verdict, with_end}
use Rattle.realm_core.proofs.Words.{beginning_legal, legal_history}
use Rattle.realm_core.proofs.{EndChains.AllClosed, EndChains.all_closed, EndChains.log_ended, EndChains.members_closed, EndChains.same_order, EndChains.verdict_ended, EndSteps.history_ended}

mapped : {A B : Type 0} (f : A → B) (o : Option A) (y : B) → option_map f o ≡ Some y → (x : A) × (o ≡ Some x) × (f x ≡ y)
mapped f None y is = absurd cc
mapped f (Some x) y is = (x, refl, cc)

legal_past : (L : Limits) (h : History) (xs ys : List RealmStep) → LegalFrom L h (xs ++ ys) → LegalFrom L (advanced h xs) ys
legal_past L h [] ys lawful = lawful
legal_past L h (x ∷ xs) ys lawful = legal_past L (advance h x) xs ys lawful.1

module _ (L : Limits) (h : History) (a : ℕ) (ts : List ℕ) (legal : Legal L h) (lawful : LegalFrom L h (map (end_step a) ts)) (inner : AreInnermost h a ts) where
  pub reported : (s : ℕ) (how : Verdict) (shown : LogValue) → IsPrepared h a s how shown → closed (ended h a ts) s ≡ true → IsReported (ended h a ts) s how shown
  reported s how shown it over =
      let found = mapped (with_end a) (log h s) shown it.logged in
      record {
        over = over;
        judged = it.judged ∙ sym (verdict_ended h a s ts);
        logged = log_ended L h a s found.0 ts legal lawful inner it.begun it.unclosed over found.1 ∙ ap Some found.2;
      }

  pub all_reported : (shown : List Shown) → ArePrepared h a shown → AllClosed (ended h a ts) (numbers shown) → AreReported (ended h a ts) shown
  all_reported [] are over = tt
  all_reported (x ∷ xs) are over = (reported x.0 x.1 x.2 are.0 over.0, all_reported xs are.1 over.1)

-- the ends of a close, under the names that were shown
pub ends_named : (L : Limits) (a s : ℕ) (nested shown : List ℕ) (old new : List RealmStep) → Ends L a s nested old new → InEndOrder (history_of old) a s shown → Ends L a s shown old new
ends_named L a s nested shown old new ends order =
    subst (λ (ts : List ℕ). Ends L a s ts old new) (same_order (history_of old) a s nested shown ends.ordered order) ends

ends_lawful : (L : Limits) (a s : ℕ) (nested : List ℕ) (old new : List RealmStep) → Ends L a s nested old new → LegalFrom L (history_of old) (map (end_step a) (nested ++ s ∷ []))
unfolding history_of IsLegal
ends_lawful L a s nested old new ends =
    legal_past L _ old (map (end_step a) (nested ++ s ∷ [])) (subst (λ (xs : List RealmStep). IsLegal L xs) ends.are ends.legal)

module _ (L : Limits) (a s : ℕ) (nested : List ℕ) (old new : List RealmStep) (ends : Ends L a s nested old new) where
  legal : Legal L (history_of old)
  legal = legal_history L old (beginning_legal L old (map (end_step a) (nested ++ s ∷ [])) (subst (λ (xs : List RealmStep). IsLegal L xs) ends.are ends.legal))

  -- the scope itself
  pub own_reported : (how : Verdict) (shown : LogValue) → IsPrepared (history_of old) a s how shown → IsReported (history_of new) s how shown
  own_reported how shown it =
      let order = nested ++ s ∷ [] in
      subst (λ (h : History). IsReported h s how shown) (sym (history_ended a old new order ends.are))
      (reported L (history_of old) a order legal (ends_lawful L a s nested old new ends) ends.ordered s how shown it (all_closed (history_of old) a s nested))

  -- and those that were closed before it
  pub nested_reported : (shown : List Shown) → ArePrepared (history_of old) a shown → numbers shown ≡ nested → AreReported (history_of new) shown
  nested_reported shown are same =
      let order = nested ++ s ∷ [] in
      subst (λ (h : History). AreReported h shown) (sym (history_ended a old new order ends.are))
      (all_reported L (history_of old) a order legal (ends_lawful L a s nested old new ends) ends.ordered shown are
      (subst (λ (ts : List ℕ). AllClosed (ended (history_of old) a order) ts) (sym same) (members_closed (history_of old) a nested (s ∷ []))))

  -- so the report is what is so by then
  pub report_so : CanClose (history_of old) a s → (how : Verdict) (shown : LogValue) (inside : List Shown) → how ≡ verdict (history_of new) s → option_map (with_end a) (log (history_of old) s) ≡ Some shown → ArePrepared (history_of old) a inside → numbers inside ≡ nested → IsReported (history_of new) s how shown × AreReported (history_of new) inside
  report_so can how shown inside judged logged are same =
      let it = own_reported (verdict (history_of old) s) shown (record { begun = can.begun; unclosed = can.unclosed; judged = refl; logged = logged }) in
      (record { over = it.over; judged = judged; logged = it.logged }, nested_reported inside are same)
