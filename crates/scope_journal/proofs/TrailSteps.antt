-- How what is kept of the places of events goes on by one event.
use Rattle.std.proofs.Common.{[], ℕ, ◌++◌, ◌+◌, ◌∙◌, ◌∷◌, ◌≡◌, ◌≤◌, Bool, List, None, Option, Some, ap, arith, false, get_or, length, length-append, refl, reverse, slice_get, subst, suc, sym, true}
use Rattle.scope_journal.specs.{AreTrailsOf, Event, HasLoadRoom, HasTrail, History, IsTrailOf, Legal, Limits, Open, Options, Origin, Policy, TrailTable.TrailTable, TrailTable.with_event, followed, if_one, is_of, is_open, last_in}
use Rattle.scope_journal.specs.{load, no_trails, place_of, places_of, scope_of_event, scopes, trail_in, trail_to, with_last, with_open}
use Rattle.scope_journal.proofs.Words.{AreRight, altered_length, append-nil, count_push, count_same, entry_there, eq-eqb, get_or_default_zero, get_or_from_slice_get, ne_eqb, place_within, right_altered, right_pushed}
use Rattle.scope_journal.proofs.{PlaceSteps.event_of, PlaceSteps.is_this, PlaceSteps.next_unplaced, PlaceSteps.places_grow, TrailWalks.ahead, TrailWalks.trail_begins, TrailWalks.trail_goes_on, TrailWalks.trail_grown}

-- ---- what is there

-- the trail of a scope has the places of its events
pub trail_there : (h : History) (t : TrailTable) (s : ℕ) → HasTrail t s → AreTrailsOf h t → trail_in t s ≡ places_of h s
unfolding trail_in
trail_there h t s has are = (entry_there (λ n last. IsTrailOf h n t.links last) t.before t.lasts s 0 has are.trails).places

-- ---- the trail of one scope

longer : (links : List ℕ) (x : ℕ) → length (links ++ x ∷ []) ≡ length links + 1
longer links x = length-append links (x ∷ []) ∙ omega arith

-- an event of another scope leaves it
trail_stays : (h : History) (e : Event) (s : ℕ) (links : List ℕ) (x last : ℕ) → is_of h s e ≡ false → IsTrailOf h s links last → IsTrailOf (followed h e) s (links ++ x ∷ []) last
trail_stays h e s links x last other it = record {
  within = omega (arith, it.within, longer links x);
  places =
      trail_grown (suc last) links x (Some last) it.within
      ∙ (it.places ∙ (sym (append-nil (places_of h s)) ∙ (ap (λ b. places_of h s ++ if_one b (length h.events)) (sym other) ∙ sym (places_grow h e s))));
}

-- an event of the scope goes on with it
trail_more : (h : History) (e : Event) (s : ℕ) (links : List ℕ) (last : ℕ) → is_of h s e ≡ true → length links ≡ length h.events → IsTrailOf h s links last → IsTrailOf (followed h e) s (links ++ last ∷ []) (length links)
trail_more h e s links last own same it = record {
  within = omega (arith, longer links last);
  places =
      trail_goes_on links last it.within
      ∙ (ap (λ ps. ps ++ length links ∷ []) it.places
      ∙ (ap (λ n. places_of h s ++ n ∷ []) same ∙ (ap (λ b. places_of h s ++ if_one b (length h.events)) (sym own) ∙ sym (places_grow h e s))));
}

-- the first event of a scope begins it
trail_new : (h : History) (e : Event) (s : ℕ) (links : List ℕ) → is_of h s e ≡ true → length links ≡ length h.events → places_of h s ≡ [] → IsTrailOf (followed h e) s (links ++ length links ∷ []) (length links)
trail_new h e s links own same none = record {
  within = omega (arith, longer links (length links));
  places =
      trail_begins links
      ∙ (ap (λ n. n ∷ []) same
      ∙ (ap (λ ps. ps ++ length h.events ∷ []) (sym none) ∙ (ap (λ b. places_of h s ++ if_one b (length h.events)) (sym own) ∙ sym (places_grow h e s))));
}

linked_more : (h : History) (e : Event) (links : List ℕ) (x : ℕ) → length links ≡ length h.events → length (links ++ x ∷ []) ≡ length (followed h e).events
linked_more h e links x same = let events : length (h.events ++ e ∷ []) ≡ length h.events + 1 = length-append h.events (e ∷ []) ∙ omega arith in omega (arith, longer links x, events, same)

-- ---- an open

module _ (L : Limits) (h : History) (t : TrailTable) (a : ℕ) (policy : Policy) (options : Options) (legal : Legal L h) (are : AreTrailsOf h t) where
  trails_opened : AreRight (λ s last. IsTrailOf (followed h (Open a policy options)) s (t.links ++ length t.links ∷ []) last) t.before (t.lasts ++ length t.links ∷ [])
  trails_opened =
      let e = Open a policy options in
      right_pushed (λ s last. IsTrailOf h s t.links last) (λ s last. IsTrailOf (followed h e) s (t.links ++ length t.links ∷ []) last) t.before t.lasts (length t.links) (scopes h + 1) (omega (arith, are.numbered, are.count))
      (λ s last less it. trail_stays h e s t.links (length t.links) last (ne_eqb (scopes h + 1) s (λ same. absurd (omega (arith, same, less)))) it)
      (trail_new h e (scopes h + 1) t.links (eq-eqb (scopes h + 1) (scopes h + 1) refl) are.linked (next_unplaced L h legal)) are.trails

  one_opened : HasLoadRoom (followed h (Open a policy options)) t.room → AreTrailsOf (followed h (Open a policy options)) (with_open t)
  one_opened loaded = record {
    numbered = are.numbered;
    linked = linked_more h (Open a policy options) t.links (length t.links) are.linked;
    count = let pushed = count_push is_open h.events (Open a policy options) in omega (arith, longer t.lasts (length t.links), pushed, are.count);
    trails = trails_opened;
    loaded = loaded;
  }

-- an open begins the trail of its scope
pub opened_agrees : (L : Limits) (h : History) (t u : TrailTable) (a : ℕ) (policy : Policy) (options : Options) → u ≡ with_open t → Legal L h → HasLoadRoom (followed h (Open a policy options)) t.room → AreTrailsOf h t → AreTrailsOf (followed h (Open a policy options)) u
opened_agrees L h t u a policy options is legal loaded are = subst (AreTrailsOf (followed h (Open a policy options))) (sym is) (one_opened L h t a policy options legal are loaded)

-- ---- another event

module _ (h : History) (e : Event) (t : TrailTable) (other : is_open e ≡ false) (loaded : HasLoadRoom (followed h e) t.room) (are : AreTrailsOf h t) where
  is_its : (scope : Option ℕ) (s : ℕ) (b : Bool) → scope_of_event h e ≡ scope → is_this scope s ≡ b → is_of h s e ≡ b
  is_its scope s b named so = event_of h s e ∙ (ap (λ (o : Option ℕ). is_this o s) named ∙ so)

  trails_told : (s : ℕ) → scope_of_event h e ≡ Some s → HasTrail t s → AreRight (λ n last. IsTrailOf (followed h e) n (with_event t (Some s)).links last) t.before (with_event t (Some s)).lasts
  trails_told s named has =
      right_altered (λ n last. IsTrailOf h n t.links last) (λ n last. IsTrailOf (followed h e) n (t.links ++ last_in t s ∷ []) last) (λ was. length t.links) t.before t.lasts s has.0
      (λ n last apart it. trail_stays h e n t.links (last_in t s) last (is_its (Some s) n false named (ne_eqb s n (λ same. apart (sym same)))) it)
      (λ was at it.
      subst (λ x. IsTrailOf (followed h e) s (t.links ++ x ∷ []) (length t.links)) (sym (get_or_from_slice_get t.lasts (place_of t.before s) was 0 at))
      (trail_more h e s t.links was (is_its (Some s) s true named (eq-eqb s s refl)) are.linked it)) are.trails

  one_told : (scope : Option ℕ) → scope_of_event h e ≡ scope → ((s : ℕ) → scope ≡ Some s → HasTrail t s) → AreTrailsOf (followed h e) (with_event t scope)
  one_told (Some s) named has = record {
    numbered = are.numbered;
    linked = linked_more h e t.links (last_in t s) are.linked;
    count = altered_length (λ was. length t.links) t.lasts (place_of t.before s) ∙ (are.count ∙ sym (count_same is_open h e other));
    trails = trails_told s named (has s refl);
    loaded = loaded;
  }
  one_told None named has = record {
    numbered = are.numbered;
    linked = linked_more h e t.links (length t.links) are.linked;
    count = are.count ∙ sym (count_same is_open h e other);
    trails = λ i last at. trail_stays h e (t.before + 1 + i) t.links (length t.links) last (is_its None (t.before + 1 + i) false named refl) (are.trails i last at);
    loaded = loaded;
  }

-- an event goes on with the trail of its scope, if it has one
pub told_agrees : (h : History) (e : Event) (t u : TrailTable) (scope : Option ℕ) → u ≡ with_event t scope → ((s : ℕ) → scope ≡ Some s → HasTrail t s) → is_open e ≡ false → scope_of_event h e ≡ scope → HasLoadRoom (followed h e) t.room → AreTrailsOf h t
    → AreTrailsOf (followed h e) u
told_agrees h e t u scope is has other named loaded are = subst (AreTrailsOf (followed h e)) (sym is) (one_told h e t other loaded are scope named has)

-- ---- room

-- more room leaves the trails
pub roomy_agrees : (h : History) (t u : TrailTable) → u.before ≡ t.before → u.links ≡ t.links → u.lasts ≡ t.lasts → t.room ≤ u.room → AreTrailsOf h t → AreTrailsOf h u
roomy_agrees h t u before links lasts room are = record {
  numbered = before ∙ are.numbered;
  linked = ap length links ∙ are.linked;
  count = ap length lasts ∙ are.count;
  trails = λ i last at.
      let it = are.trails i last (ap (λ xs. slice_get xs i) (sym lasts) ∙ at) in
      subst (λ xs. IsTrailOf h (u.before + 1 + i) xs last) (sym links) (subst (λ n. IsTrailOf h (n + 1 + i) t.links last) (sym before) it);
  loaded = omega (arith, are.loaded, room);
}

-- a realm begins with no trails
pub begins : (before : ℕ) (b : Origin) (t : TrailTable) → t ≡ record (no_trails before) { room = t.room; spare = t.spare } → b.scopes ≡ before → AreTrailsOf (record { base = b; events = [] }) t
unfolding load
begins before b t is scopes =
    subst (AreTrailsOf (record { base = b; events = [] })) (sym is) (record {
      numbered = sym scopes;
      linked = refl;
      count = refl;
      trails = λ i last at. absurd cc;
      loaded = omega arith;
    })

-- ---- what the calls do

-- a walk begins at the scope's last place
pub walk_begins : (t : TrailTable) (s x : ℕ) (ps : List ℕ) → x ≡ last_in t s → ps ≡ [] → ahead t.links (Some x) ++ reverse ps ≡ trail_in t s
unfolding trail_in
walk_begins t s x ps last none = rw none (append-nil (ahead t.links (Some x)) ∙ ap (trail_to t.links) last)

-- what is read is the scope's last place
pub last_was : (v t : TrailTable) (s x : ℕ) → v ≡ t → HasTrail t s → x ≡ get_or v.lasts (place_of v.before s) x → x ≡ last_in t s
last_was v t s x same has read =
    read ∙ (ap (λ (u : TrailTable). get_or u.lasts (place_of u.before s) x) same ∙ get_or_default_zero t.lasts (place_of t.before s) x (place_within t.before (length t.lasts) s has.0 has.1))

-- the link of a scope's event is put at the end, and its last place is moved
pub told_scope : (v t : TrailTable) (s link place room : ℕ) (links : List ℕ) → v ≡ with_last t s place → place ≡ length t.links → link ≡ last_in t s → links ≡ v.links ++ link ∷ [] → room ≡ v.room
    → record v { links = links; room = room } ≡ with_event t (Some s)
told_scope v t s link place room links moved at was put same =
    ap (λ ls. record v { links = ls; room = room }) put
    ∙ (ap (λ r. record v { links = v.links ++ link ∷ []; room = r }) same
    ∙ (ap (λ (u : TrailTable). record u { links = u.links ++ link ∷ [] }) moved
    ∙ (ap (λ i. record (with_last t s place) { links = t.links ++ i ∷ [] }) was ∙ ap (λ i. record (with_last t s i) { links = t.links ++ last_in t s ∷ [] }) at)))

-- an event of none has its own place for a link
pub told_none : (v t : TrailTable) (link place room : ℕ) (links : List ℕ) → v ≡ t → place ≡ length t.links → link ≡ place → links ≡ v.links ++ link ∷ [] → room ≡ v.room → record v { links = links; room = room } ≡ with_event t None
told_none v t link place room links moved at was put same =
    ap (λ ls. record v { links = ls; room = room }) put
    ∙ (ap (λ r. record v { links = v.links ++ link ∷ []; room = r }) same
    ∙ (ap (λ (u : TrailTable). record u { links = u.links ++ link ∷ [] }) moved ∙ ap (λ i. record t { links = t.links ++ i ∷ [] }) (was ∙ at)))
