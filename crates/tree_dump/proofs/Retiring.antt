-- The tree behind a retirement is the tree without it.
use Rattle.std.proofs.Common.{ℕ, ◌+◌, ◌∙◌, ◌≡◌, List, None, Option, Some, ap, arith, codes, map, option_map, refl, suc, sym, zero}
use Rattle.scope_log.proofs.Past.{IsTask}
use Rattle.tree_dump.specs.{DumpStays, Event, NamesNone, Realm, Retirable, ScopeInfo, Tree.nested, compact_text, dump_data, dump_text, forked_count, info, inner, is_task_of, items_of, label, levels, member, moment, no_members}
use Rattle.tree_dump.specs.{null, number, object, option_map_or, outermost, retired, scope_object, scope_shown, stage, state, task_object, task_shown, task_told, tasks, tasks_of, tasks_shown, unretired, unsigned}
use Rattle.tree_dump.proofs.Lemmas.{IsScope, filter_listed, greater, inner_new, leaves_alike, outermost_new, same_info, same_inner, same_label, same_moment, same_outermost, same_stage, same_state, same_tasks_of}

module _ (r : Retirable) (es : List Event) (none : NamesNone r es) where
  -- a scope that lies somewhere was not let go
  abbrev IsPlace : Option ℕ → Type 0
  IsPlace place = (s : ℕ) → place ≡ Some s → IsScope r s

  told_alike : (k : ℕ) → IsTask r k → task_told (unretired r es) k ≡ task_told (retired r es) k
  unfolding task_told
  told_alike k new =
      rw (same_label r es k new) (rw (same_stage r es none k new) (rw (same_state r es none k new) (rw (same_outermost r es k) refl)))

  module _ (n : ℕ) (inside : (place : Option ℕ) → IsPlace place → nested None (unretired r es) n place ≡ nested None (retired r es) n place) where
    shown_by : (k : ℕ) (l : Option _) → label (retired r es) k ≡ l
        → option_map_or (λ told. task_object told None (nested None (unretired r es) n told.inner)) (option_map (λ l. record { task = k; label = l; stage = stage (retired r es) k; state = state (retired r es) k; inner = outermost (retired r es) k }) l) null
        ≡ option_map_or (λ told. task_object told None (nested None (retired r es) n told.inner)) (option_map (λ l. record { task = k; label = l; stage = stage (retired r es) k; state = state (retired r es) k; inner = outermost (retired r es) k }) l) null
    shown_by k None is = refl
    shown_by k (Some l) is = ap (λ d. task_object (record { task = k; label = l; stage = stage (retired r es) k; state = state (retired r es) k; inner = outermost (retired r es) k }) None d) (inside (outermost (retired r es) k) (λ s found. outermost_new r es k s found))

    shown_alike : (k : ℕ) → IsTask r k → task_shown None (unretired r es) (nested None (unretired r es) n) k ≡ task_shown None (retired r es) (nested None (retired r es) n) k
    unfolding task_told
    shown_alike k new = ap (λ o. option_map_or (λ told. task_object told None (nested None (unretired r es) n told.inner)) o null) (told_alike k new) ∙ shown_by k (label (retired r es) k) refl

    tasks_alike : (s : ℕ) → IsScope r s → tasks_shown None (unretired r es) (nested None (unretired r es) n) s ≡ tasks_shown None (retired r es) (nested None (retired r es) n) s
    unfolding tasks_of
    tasks_alike s new =
        ap (λ ks. items_of (map (task_shown None (unretired r es) (nested None (unretired r es) n)) ks)) (same_tasks_of r es none s new)
        ∙ ap items_of (filter_listed (is_task_of (retired r es) s) (task_shown None (unretired r es) (nested None (unretired r es) n)) (task_shown None (retired r es) (nested None (retired r es) n)) (tasks r.past + 1) (forked_count (retired r es))
        (λ k more. shown_alike k (greater (tasks r.past) k (omega (arith, more)))))

    scope_by : (s : ℕ) (o : Option ScopeInfo) → IsScope r s
        → option_map_or (λ i. scope_object i None (nested None (unretired r es) n (inner (unretired r es) s)) (tasks_shown None (unretired r es) (nested None (unretired r es) n) s)) o null
        ≡ option_map_or (λ i. scope_object i None (nested None (retired r es) n (inner (retired r es) s)) (tasks_shown None (retired r es) (nested None (retired r es) n) s)) o null
    scope_by s None new = refl
    scope_by s (Some i) new =
        ap (λ p. scope_object i None (nested None (unretired r es) n p) (tasks_shown None (unretired r es) (nested None (unretired r es) n) s)) (same_inner r es s new)
        ∙ (ap (λ d. scope_object i None d (tasks_shown None (unretired r es) (nested None (unretired r es) n) s)) (inside (inner (retired r es) s) (λ t found. inner_new r es s t found))
        ∙ ap (scope_object i None (nested None (retired r es) n (inner (retired r es) s))) (tasks_alike s new))

    scope_alike : (s : ℕ) → IsScope r s → scope_shown None (unretired r es) (nested None (unretired r es) n) s ≡ scope_shown None (retired r es) (nested None (retired r es) n) s
    scope_alike s new =
        ap (λ o. option_map_or (λ i. scope_object i None (nested None (unretired r es) n (inner (unretired r es) s)) (tasks_shown None (unretired r es) (nested None (unretired r es) n) s)) o null) (same_info r es none s new)
        ∙ scope_by s (info (retired r es) s) new

  nested_alike : (n : ℕ) (place : Option ℕ) → IsPlace place → nested None (unretired r es) n place ≡ nested None (retired r es) n place
  unfolding nested
  nested_alike zero place new = refl
  nested_alike (suc n) None new = refl
  nested_alike (suc n) (Some s) new = scope_alike n (λ place there. nested_alike n place there) s (new s refl)

  data_alike : dump_data (unretired r es) ≡ dump_data (retired r es)
  data_alike =
      let root : nested None (unretired r es) levels (outermost (unretired r es) 0) ≡ nested None (retired r es) levels (outermost (retired r es) 0) =
      ap (nested None (unretired r es) levels) (same_outermost r es 0) ∙ nested_alike levels (outermost (retired r es) 0) (λ s found. outermost_new r es 0 s found) in
      ap (λ m. object (member (codes "moment") (number (unsigned m)) (member (codes "root") (nested None (unretired r es) levels (outermost (unretired r es) 0)) no_members))) (same_moment r es)
      ∙ ap (λ d. object (member (codes "moment") (number (unsigned (moment (retired r es)))) (member (codes "root") d no_members))) root

  pub text_alike : dump_text (unretired r es) ≡ dump_text (retired r es)
  unfolding dump_text
  text_alike = ap compact_text data_alike

pub dump_stays : DumpStays
dump_stays L commands free =
    let it = leaves_alike L commands free in
    ap (λ (g : Realm). dump_text g.history) it.is_whole ∙ (text_alike it.last.past it.last.since it.last.none ∙ sym (ap (λ (g : Realm). dump_text g.history) it.is_rest))
