-- What is said so far at a scope's places, as its log is made.
use Rattle.std.proofs.Common.{[], ℕ, ◌++◌, ◌+◌, ◌<◌, ◌^◌, ◌∙◌, ◌∷◌, ◌≡◌, ◌≤◌, List, None, Option, Some, ap, arith, get_or, length, length-append, option_map, refl, slice_get, subst, sym, take}
use Rattle.realm_state.specs.{Cause, Event, History, IsWithin, LOAD_LIMIT, Legal, Limits, LogEntry, Opening, cancel_of, cons_option, entries, entry_at, filter_map, log, marked, opening, places_of, said_with, task_forked, tasks_in}
use Rattle.realm_state.specs.{tasks_of}
use Rattle.realm_state.proofs.Words.{IsSaid, entries_small, filter_map-push, next_said, place_said, projected, slice_get-get_or, slice_get_within, take_more}

-- the entries of the first n places, and how many tasks they fork
pub record AreSaid (h : History) (s : ℕ) (ps : List ℕ) (n : ℕ) (es : List LogEntry) (forked : ℕ) : Type 0 where
  pub said : es ≡ filter_map (entry_at h s) (take n ps)
  pub forks : forked ≡ length (tasks_in es)
  pub few : forked ≤ n

pub none_said : (h : History) (s : ℕ) (ps : List ℕ) (es : List LogEntry) → es ≡ [] → AreSaid h s ps 0 es 0
unfolding tasks_in
none_said h s ps es none = record { said = none; forks = rw none refl; few = omega arith }

there : (h : History) (s : ℕ) (ps : List ℕ) (n : ℕ) → ps ≡ places_of h s → n < length ps → IsSaid h s (get_or ps n 0)
there h s ps n are within = place_said h s n (get_or ps n 0) (ap (λ xs. slice_get xs n) (sym are) ∙ slice_get-get_or ps n 0 within)

-- each of the places is one of an event
pub place_there : (h : History) (s : ℕ) (ps : List ℕ) (n : ℕ) → ps ≡ places_of h s → n < length ps → get_or ps n 0 < length h.events
place_there h s ps n are within = let it = there h s ps n are within in slice_get_within h.events (get_or ps n 0) it.event it.at

-- the next event says its entry
pub said_next : (L : Limits) (h : History) (s : ℕ) (ps ks : List ℕ) (n forked : ℕ) (es : List LogEntry) (e : Event) → Legal L h → ps ≡ places_of h s → ks ≡ tasks_of h s → n < length ps → AreSaid h s ps n es forked → slice_get h.events (get_or ps n 0) ≡ Some e
    → said_with (get_or ks forked 0) e ≡ entry_at h s (get_or ps n 0)
unfolding tasks_of
said_next L h s ps ks n forked es e legal are tasks within so at =
    let count : forked ≡ length (tasks_in (filter_map (entry_at h s) (take n (places_of h s)))) = so.forks ∙ ap (λ xs. length (tasks_in xs)) (so.said ∙ ap (λ xs. filter_map (entry_at h s) (take n xs)) are) in
    let inside : n < length (places_of h s) = omega (arith, within, ap length are) in
    let place : get_or ps n 0 ≡ get_or (places_of h s) n 0 = ap (λ xs. get_or xs n 0) are in
    ap (λ i. said_with (get_or ks i 0) e) count
    ∙ (ap (λ xs. said_with (get_or xs (length (tasks_in (filter_map (entry_at h s) (take n (places_of h s))))) 0) e) tasks
    ∙ (next_said L h s legal n inside e (ap (slice_get h.events) (sym place) ∙ at)
    ∙ ap (entry_at h s) (sym place)))

-- and goes behind those so far
pub one_said : (h : History) (s : ℕ) (ps : List ℕ) (n forked more : ℕ) (es xs : List LogEntry) (x : LogEntry) → n < length ps → AreSaid h s ps n es forked → entry_at h s (get_or ps n 0) ≡ Some x → xs ≡ es ++ x ∷ [] → more ≡ length (cons_option (task_forked x) []) → more ≤ 1
    → AreSaid h s ps (n + 1) xs (forked + more)
unfolding tasks_in
one_said h s ps n forked more es xs x within so is put count one =
    let E = entry_at h s in
    record {
      said =
          put
          ∙ (ap (λ ys. ys ++ x ∷ []) so.said
          ∙ (ap (λ o. filter_map E (take n ps) ++ cons_option o []) (sym is)
          ∙ sym (ap (filter_map E) (take_more ps n 0 within) ∙ filter_map-push E (take n ps) (get_or ps n 0))));
      forks =
          let both = ap length (ap (filter_map task_forked) put ∙ filter_map-push task_forked es x) ∙ length-append (filter_map task_forked es) (cons_option (task_forked x) []) in
          omega (arith, both, count, so.forks);
      few = omega (arith, so.few, one);
    }

-- of a place's event something is said
pub not_unsaid : (h : History) (s : ℕ) (ps : List ℕ) (n : ℕ) → ps ≡ places_of h s → n < length ps → entry_at h s (get_or ps n 0) ≡ None → ⊥
not_unsaid h s ps n are within none = let it = there h s ps n are within in absurd (cc (it.is, none))

-- what is said at the places, with the mark, are the entries
pub entries_made : (h : History) (s : ℕ) (ps : List ℕ) (m : Option (ℕ × Cause)) (es xs : List LogEntry) → ps ≡ places_of h s → m ≡ cancel_of h s → es ≡ filter_map (entry_at h s) ps → xs ≡ marked ps m es → xs ≡ entries h s
entries_made h s ps m es xs are cancel said made =
    made
    ∙ (ap (marked ps m) said
    ∙ (ap (λ qs. marked qs m (filter_map (entry_at h s) qs)) are
    ∙ (ap (λ c. marked (places_of h s) c (filter_map (entry_at h s) (places_of h s))) cancel
    ∙ projected h s)))

-- which are few
pub made_small : (L M : Limits) (h : History) (s : ℕ) (xs : List LogEntry) → M ≡ L → Legal L h → IsWithin L h → xs ≡ entries h s → length xs + 1 < 2 ^ 32
made_small L M h s xs same legal within made =
    let few = entries_small L h s legal within (subst (λ (x : Limits). x.load ≤ LOAD_LIMIT) same M.load_in_range) in
    omega (arith, few, ap length made)

-- so they are the log
pub log_is : (h : History) (s : ℕ) (o : Opening) (xs : List LogEntry) → opening h s ≡ Some o → xs ≡ entries h s → log h s ≡ Some (record { scope = s; policy = o.policy; expiry = o.options.expiry; entries = xs })
unfolding log
log_is h s o xs opened same =
    ap (option_map (λ (x : Opening). record { scope = s; policy = x.policy; expiry = x.options.expiry; entries = entries h s })) opened
    ∙ ap (λ ys. Some (record { scope = s; policy = o.policy; expiry = o.options.expiry; entries = ys })) (sym same)
