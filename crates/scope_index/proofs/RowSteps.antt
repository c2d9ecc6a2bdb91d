-- What one event more makes of the row of a scope.
use Rattle.std.proofs.Common.{ℕ, ◌+◌, ◌||◌, ◌∙◌, ◌≡◌, Bool, None, Option, Some, ap, cond, false, is_some, length, option_map, refl, sym, true}
use Rattle.scope_index.specs.{CauseKind, Deadline, Event, FirstCancel, History, IsNodeOf, Legal, Limits, ScopeNode, cancel_at, counting_deadline, deadline, direct_kind, followed, is_past, joined, joiner_fires, joins, moment}
use Rattle.scope_index.specs.{move_of, option_map_or, option_or, own_cancel, shifted}
use Rattle.scope_index.proofs.Words.{counting_grows, opening_stays, outer_stays, parent_stays}
use Rattle.scope_index.proofs.OwnCancels.{kind_told, overdue_cancelled, own_cancel_next}
use Rattle.cancel_tree.specs.Rows as rows

map_or_shifted : (b place n : ℕ) (old : Option FirstCancel) (k : Option CauseKind) → option_or (option_map (shifted b) old) (option_map (λ x. cancel_at place (b + n) x) k) ≡ option_map (shifted b) (option_or old (option_map (λ x. cancel_at place n x) k))
map_or_shifted b place n (Some c) k = refl
map_or_shifted b place n None None = refl
map_or_shifted b place n None (Some k) = refl

-- the row of a scope with the event's own cancel, and with the deadline that counts by then
pub row_next : (h : History) (e : Event) (b n : ℕ) (old new : ScopeNode) → IsNodeOf h b (b + n) old
    → new.parent ≡ old.parent → rows.outer new ≡ rows.outer old → new.opened ≡ old.opened
    → counting_deadline (followed h e) (b + n) ≡ new.deadline
    → new.own ≡ option_or old.own (option_map (λ k. cancel_at (length h.events) n k) (kind_told (direct_kind h (b + n) e) (joiner_fires (followed h e) (b + n) e) (moment (followed h e)) new.deadline))
    → IsNodeOf (followed h e) b (b + n) new
row_next h e b n old new was parent outer place_is deadline own =
    let s = b + n in
    let opened = opening_stays h e s was.opened was.is in
    let place = length h.events in
    record {
      opened = was.opened;
      is = opened;
      place = was.place ∙ sym place_is;
      parent = parent_stays h e s (record { opened = was.opened; is = was.is }) ∙ (was.parent ∙ ap (option_map (λ p. b + p)) (sym parent));
      outer = outer_stays h e s (record { opened = was.opened; is = was.is }) ∙ (was.outer ∙ ap (option_map (λ p. b + p)) (sym outer));
      own =
          own_cancel_next h e s was.opened opened
          ∙ (ap (λ d. option_or (own_cancel h s) (option_map (λ k. cancel_at place s k) (kind_told (direct_kind h s e) (joiner_fires (followed h e) s e) (moment (followed h e)) d))) deadline
          ∙ (ap (λ o. option_or o (option_map (λ k. cancel_at place s k) (kind_told (direct_kind h s e) (joiner_fires (followed h e) s e) (moment (followed h e)) new.deadline))) was.own
          ∙ (map_or_shifted b place n old.own (kind_told (direct_kind h s e) (joiner_fires (followed h e) s e) (moment (followed h e)) new.deadline)
          ∙ ap (option_map (shifted b)) (sym own))));
      deadline = deadline;
    }

-- the deadline of a scope that the event neither joins nor moves counts as before
pub counting_same : (h : History) (e : Event) (b s : ℕ) (t : ScopeNode) → IsNodeOf h b s t → joins s e ≡ false → move_of s e ≡ None → counting_deadline (followed h e) s ≡ t.deadline
unfolding counting_deadline
counting_same h e b s t was unjoined unmoved =
    counting_grows h e s was.opened was.is
    ∙ (ap (λ j. cond (joined h s || j) None (option_map_or (λ d. d) (move_of s e) (deadline h s))) unjoined
    ∙ (ap (λ m. cond (joined h s || false) None (option_map_or (λ d. d) m (deadline h s))) unmoved
    ∙ (by (joined h s) (deadline h s) ∙ was.deadline)))
  where
    by : (j : Bool) (d : Option ℕ) → cond (j || false) None d ≡ cond j None d
    by true d = refl
    by false d = refl

stays_own : (o : Option FirstCancel) (p : Option FirstCancel) → is_some o ≡ true → o ≡ option_or o p
stays_own None p some = absurd cc
stays_own (Some c) p some = refl

pub own_some : (b : ℕ) (o : Option FirstCancel) → is_some (option_map (shifted b) o) ≡ true → is_some o ≡ true
own_some b None some = some
own_some b (Some c) some = refl

none_told : (place n now : ℕ) (own : Option FirstCancel) (d : Option ℕ) (past : Bool) → is_past now d ≡ past → (past ≡ true → is_some own ≡ true) → own ≡ option_or own (option_map (λ k. cancel_at place n k) (kind_told None false now d))
none_told place n now None d true is some = absurd (no (some refl))
  where
    no : false ≡ true → ⊥
    no e = absurd cc
none_told place n now None d false is some = sym (ap (λ x. option_map (λ k. cancel_at place n k) (cond x (Some Deadline) None)) is)
none_told place n now (Some c) d past is some = refl

-- an event that is none of the scope's leaves its row
pub row_stays : (L : Limits) (h : History) (e : Event) (b n : ℕ) (t : ScopeNode) → Legal L h → IsNodeOf h b (b + n) t
    → moment (followed h e) ≡ moment h → joins (b + n) e ≡ false → move_of (b + n) e ≡ None → direct_kind h (b + n) e ≡ None → joiner_fires (followed h e) (b + n) e ≡ false
    → IsNodeOf (followed h e) b (b + n) t
row_stays L h e b n t legal was same unjoined unmoved direct fires =
    let s = b + n in
    row_next h e b n t t was refl refl refl (counting_same h e b s t was unjoined unmoved)
    (none_told (length h.events) n (moment h) t.own t.deadline (is_past (moment h) t.deadline) refl
    (λ past. own_some b t.own (ap is_some (sym was.own) ∙ overdue_cancelled L h s was.opened legal was.is (ap (is_past (moment h)) was.deadline ∙ past)))
    ∙ kind_same)
  where
    kind_same : option_or t.own (option_map (λ k. cancel_at (length h.events) n k) (kind_told None false (moment h) t.deadline))
        ≡ option_or t.own (option_map (λ k. cancel_at (length h.events) n k) (kind_told (direct_kind h (b + n) e) (joiner_fires (followed h e) (b + n) e) (moment (followed h e)) t.deadline))
    kind_same = rw direct (rw fires (rw same refl))
