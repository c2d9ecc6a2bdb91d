-- What the close of a request's scope leaves: the scope is closed, and its actor's innermost scope is the one that it
-- was before the request.
use Rattle.std.specs.Prelude.{◌++◌, ◌+◌, ◌<◌, ◌∷◌, ◌≡◌}
use Rattle.quote_gateway.specs.{[], ℕ, Accepts, Bool, EndClose, Ends, EndsScope, Event, GoesOn, Happened, History, IsBeginning, IsLegal, IsOpenOf, IsOpenedFor, KeepsInnermost}
use Rattle.quote_gateway.specs.{Legal, Limits, List, None, Open, Opens, Options, OwnerValue, Policy, RealmStep, SeesMore, Some, TableId, closed, end_step, ended, followed, history_of, history_seen}
use Rattle.quote_gateway.specs.{innermost, latest, map, nests, opening, scopes, shapes, true, unused}
use Rattle.quote_gateway.proofs.Words.{◌∙◌, ap, append_assoc, arith, beginning_legal, closed_now, history-push, history_ended, innermost_ended, innermost_still, last_passes, legal_history}
use Rattle.quote_gateway.proofs.Words.{length, map-append, next_opening, refl, subst, sym}
use Rattle.quote_gateway.proofs.Asking.{opened_here, scopes_later}
use Rattle.quote_gateway.proofs.Following.{Follows, before_there, follows_event, follows_on, follows_same, opening_after}
use Rattle.quote_gateway.proofs.Going.{FindsEnds, begins_agreeing, begins_going, begins_on, history_added, legal_there, nests_find, open_going, same_actor, shapes_find, walked}

-- if the scope stays open, the history goes on by events
pub follows_going : (L : Limits) (a s : ℕ) (test : Event → Bool) (old new : List RealmStep) → FindsEnds a test → GoesOn L test old new → IsOpenOf (history_of old) a s → Follows (history_of old) (history_of new)
follows_going L a s test old new finds on it =
    (walked L a s test finds (Follows (history_of old)) (λ h e legal was ok none so. follows_event (history_of old) h e so) old new on it (follows_same (history_of old))).1

follows_ends : (h : History) (a : ℕ) (ts : List ℕ) → Follows h (ended h a ts)
follows_ends h a [] = follows_same h
follows_ends h a (t ∷ ts) =
    let next = followed h (EndClose a t) in
    follows_on h next (ended next a ts) (follows_event h h (EndClose a t) (follows_same h)) (follows_ends next a ts)

-- a history that ends with the end of scope s
pub record ComesToEnd (L : Limits) (g h : History) (a s : ℕ) : Type 0 where
  pub last : History
  pub is : h ≡ followed last (EndClose a s)
  pub on : Follows g last
  pub legal : Legal L last
  pub accepted : Accepts L last (EndClose a s)

comes_to_end : (L : Limits) (a s : ℕ) (nested : List ℕ) (old there new : List RealmStep) → GoesOn L (shapes a) old there → Ends L a s nested there new → IsOpenOf (history_of old) a s → ComesToEnd L (history_of old) (history_of new) a s
comes_to_end L a s nested old there new on it of =
    let x = end_step a s in
    let most = there ++ map (end_step a) nested in
    let is : new ≡ most ++ x ∷ [] = it.are ∙ (ap (λ l. there ++ l) (map-append (end_step a) nested (s ∷ [])) ∙ sym (append_assoc there (map (end_step a) nested) (x ∷ []))) in
    let lawful : IsLegal L (most ++ x ∷ []) = subst (λ (l : List RealmStep). IsLegal L l) is it.legal in
    let most_is : history_of most ≡ ended (history_of there) a nested = history_ended a there most nested refl in
    record {
      last = history_of most;
      is = ap history_of is ∙ history-push most x;
      on = follows_on (history_of old) (history_of there) (history_of most) (follows_going L a s (shapes a) old there (shapes_find a) on of) (subst (Follows (history_of there)) (sym most_is) (follows_ends (history_of there) a nested));
      legal = legal_history L most (beginning_legal L most (x ∷ []) lawful);
      accepted = last_passes L most x lawful;
    }

-- a token that has seen the opening of a scope, then steps that open and close none of its actor's, and then the end
-- of the scope's close
module _ (old : OwnerValue) (one four last : List RealmStep) (policy : Policy) (options : Options) (s : ℕ) (opens : Opens old (record old { seen = one }) policy options s) (keeps : GoesOn old.limits (nests old.actor) one four) (ends : EndsScope (record old { seen = four }) (record old { seen = last }) s) where
  open_one : IsOpenOf (history_of one) old.actor s
  open_one = (opened_here old (record old { seen = one }) policy options s refl opens).here.of

  open_four : IsOpenOf (history_of four) old.actor s
  open_four = open_going old.limits old.actor s (nests old.actor) one four (nests_find old.actor) keeps open_one

  over_there : ComesToEnd old.limits (history_of four) (history_of last) old.actor s
  over_there = comes_to_end old.limits old.actor s ends.nested four ends.before last ends.goes ends.ends open_four

  -- what was said before the close is said after it
  pub follows_over : Follows (history_of four) (history_of last)
  follows_over = subst (Follows (history_of four)) (sym over_there.is) (follows_event (history_of four) over_there.last (EndClose old.actor s) over_there.on)

  pub legal_before : Legal old.limits (history_of four)
  legal_before = legal_history old.limits four keeps.legal

  pub legal_over : Legal old.limits (history_of last)
  legal_over = legal_history old.limits last ends.ends.legal

  pub is_over : closed (history_of last) s ≡ true
  is_over = ap (λ (h : History). closed h s) over_there.is ∙ closed_now over_there.last old.actor s

  one_is : history_of one ≡ followed (history_of opens.adds.there) (Open old.actor policy options)
  one_is = history_added old.limits old.actor old.seen one (Happened (Open old.actor policy options)) opens.adds

  opened_one : opening (history_of one) s ≡ Some (record { place = length (history_of opens.adds.there).events; actor = old.actor; policy = policy; options = options })
  opened_one = ap (λ (h : History). opening h s) one_is ∙ (ap (opening (followed (history_of opens.adds.there) (Open old.actor policy options))) opens.replied ∙ next_opening (history_of opens.adds.there) old.actor policy options)

  follows_one : Follows (history_of one) over_there.last
  follows_one = follows_on (history_of one) (history_of four) over_there.last (follows_going old.limits old.actor s (nests old.actor) one four (nests_find old.actor) keeps open_one) over_there.on

  follows_start : Follows (history_of opens.adds.there) over_there.last
  follows_start =
      let h = history_of opens.adds.there in
      follows_on h (history_of one) over_there.last (subst (Follows h) (sym one_is) (follows_event h h (Open old.actor policy options) (follows_same h))) follows_one

  -- the innermost scope is the one that it was
  pub innermost_over : innermost (history_of last) old.actor ≡ innermost (history_of old.seen) old.actor
  innermost_over =
      let a = old.actor in
      let h = history_of opens.adds.there in
      let lawful = legal_there old.limits a old.seen one (Happened (Open a policy options)) opens.adds in
      let there : opening over_there.last s ≡ Some (record { place = length h.events; actor = a; policy = policy; options = options }) = opening_after (history_of one) over_there.last s _ follows_one opened_one in
      ap (λ (k : History). innermost k a) over_there.is
      ∙ (innermost_ended old.limits over_there.last a s _ over_there.legal over_there.accepted there
      ∙ (ap (λ (k : History). innermost k a) (before_there h over_there.last follows_start) ∙ innermost_still old.limits a old.seen opens.adds.there opens.adds.agrees lawful))

  -- the scope was opened so, since then
  pub opened_over : IsOpenedFor (history_of last) old.actor s policy options
  opened_over = record {
    opened = record { place = length (history_of opens.adds.there).events; actor = old.actor; policy = policy; options = options };
    is = opening_after (history_of four) (history_of last) s _ follows_over (opening_after (history_of one) (history_of four) s _ (follows_going old.limits old.actor s (nests old.actor) one four (nests_find old.actor) keeps open_one) opened_one);
    owner = refl;
    joiner = refl;
    told = refl;
  }

  pub opened_since : scopes (history_of old.seen) < s
  opened_since =
      let grown = scopes_later old.actor old.seen opens.adds.there opens.adds.agrees in
      let number : s ≡ scopes (history_of opens.adds.there) + 1 = opens.replied in
      omega (arith, grown, number)

  pub begins_over : IsBeginning old.seen last
  begins_over =
      let there = opens.adds.there in
      let x = Happened (Open old.actor policy options) in
      let first : IsBeginning old.seen one = begins_on old.seen there one (begins_agreeing old.actor old.seen there opens.adds.agrees) (record { later = x ∷ []; is = opens.adds.is }) in
      let second : IsBeginning four last = begins_on four ends.before last (begins_going old.limits (shapes old.actor) four ends.before ends.goes) (record { later = map (end_step old.actor) (ends.nested ++ s ∷ []); is = ends.ends.are }) in
      begins_on old.seen one last first (begins_on one four last (begins_going old.limits (nests old.actor) one four keeps) second)

-- ---- a realm of its own

fresh_none : (a : ℕ) → innermost (history_of []) a ≡ None
unfolding history_of innermost latest
fresh_none a = refl

-- if main had seen nothing, no scope of its is open
none_left : (old new : OwnerValue) → old ≡ unused old → old.actor ≡ 0 → SeesMore old new → KeepsInnermost old new → innermost (history_seen new) 0 ≡ None
none_left old new begins main same left =
    let actor = same_actor old new same ∙ main in
    ap (innermost (history_seen new)) (sym actor) ∙ (left ∙ (ap (λ (t : OwnerValue). innermost (history_seen t) t.actor) begins ∙ fresh_none old.actor))

-- what is so of main's token at first is so of it then
pub main_left : (name : TableId) (old new : OwnerValue) → old ≡ unused old → old.table ≡ name → old.actor ≡ 0 → SeesMore old new → KeepsInnermost old new → (new.table ≡ name) × (new.actor ≡ 0) × (innermost (history_seen new) 0 ≡ None)
main_left name old new begins named main same left = (ap (λ (t : OwnerValue). t.table) same ∙ named, same_actor old new same ∙ main, none_left old new begins main same left)
