-- `empty` keeps a null pointer beside the handle, and owns nothing by it.
use Rattle.std.proofs.BoxSteps.Form.{box_ty}
use Rattle.balkreyn_c.proofs.Lemmas.{ !, [], α, ‵, ◌$◌, ◌∵◌, ◌⊛◌, Fits, Fun, Goes-dropped, Item, List, Logic, Memory, None, RawPtr, Routine, SProp, Slot, Stays, T, Tables, Ura, Val, Valss, WT, WpFn, WpFn-mono, agg, alloc_all}
use Rattle.balkreyn_c.proofs.Lemmas.{and_then, and_tt, by, done, drop, emp, ends_at, ent, enter, entered, feq_i, fjoin, fpack, free_all, fsep, fsplit, ftrue, get, handle_tells, has_ty, id⊢, join, keep, lit, lit<, look_at, move}
use Rattle.balkreyn_c.proofs.Lemmas.{no_more, nothing, null_ptr, of_opd, pass_all, plain, ptr_val, qed, refl, returns, says, sets, shape, split, stay_dropped, subst, suffices, sym, tables, tables_of, to, triple_of, use1, vcons}
use Rattle.balkreyn_c.proofs.Lemmas.{vint, vnil, vstruct, w64, walk_Meets, walk_of, within, yes}
use Rattle.balkreyn_c.proofs.AsBox.{E}
use mathlib.Core.List.{◌++◌, ◌∷◌}
use types.Kit.{raw}
use Rattle.std_heap.specs.contracts.Global as Heap
use Rattle.balkreyn_c.specs.contracts.place.Place as Place
use Rattle.balkreyn_c.specs.contracts.place.Place.empty as F
use Rattle.balkreyn_c.specs.contracts.place.Place.empty.Key.{name as #self}
use Rattle.balkreyn_c.proofs.place.Place.empty.Statement as stated
use Rattle.balkreyn_c.proofs.place.Place.empty.Code as code

abbrev From : Slot 0
From = plain (λ _. Heap.the_row)

abbrev stayed : Stays (F.ended).signature.params (F.ended).kept
stayed = (stay_dropped From yes, tt)

abbrev null_word : Val → Val
null_word hv = vstruct (vcons (vint w64 0) (vcons hv vnil))

null_typed : (hv : Val) → Fits E.al hv → T (has_ty (box_ty E) (null_word hv)) × WT (null_word hv)
null_typed hv fa = (and_tt (has_ty (α E.al) hv) fa.0, (record { fits = lit< tt }, (fa.1, tt)))

module _ {M : Type 1} {𝓤 : Ura M} (𝓛 : Logic 𝓤) (at_mem : Memory → SProp 𝓤) (run : Routine → Fun 𝓤) (𝓣 : Tables 𝓤 𝓛.H) where
  open 𝓛 use {H}

  walk : (z : (walk_of 𝓛 F.ended stayed (F.clauses 𝓛 at_mem run)).Ghost)
      → ent 𝓤 ((walk_of 𝓛 F.ended stayed (F.clauses 𝓛 at_mem run)).pre z) (WpFn 𝓤 H 𝓣.C 𝓣.Λ code.function (z.0.4.0 ++ []) ((walk_of 𝓛 F.ended stayed (F.clauses 𝓛 at_mem run)).post z))
  walk z =
      let Post = (walk_of 𝓛 F.ended stayed (F.clauses 𝓛 at_mem run)).post z in
      let a = z.0.3.0 in
      let made : Place.the_row.Denot = record { at = null_ptr; alloc = a; held = None } in
      qed 𝓛 ((‵ ftrue ⊛ ‵ (fsep (Heap.the_row.own_val a z.0.4.0) ftrue)) ∷ raw (emp 𝓤) ∷ []) ∵ split ! $ drop ! $ fsplit ! $ keep ! (0 ∷ []) $
      handle_tells E.al ! a z.0.4.0 (λ hv eh fa.
      let w = null_word hv in
      let Γ : List (Item 𝓤) = ‵ (Heap.the_row.own_val a (hv ∷ [])) ∷ [] in
      by ! (subst (λ (us : List Val). ent 𝓤 (types.Kit.⋆ 𝓛 Γ) (WpFn 𝓤 H 𝓣.C 𝓣.Λ code.function (us ++ []) Post)) (sym eh)
      (qed 𝓛 Γ ∵ enter ! 𝓣.C 𝓣.Λ code.function (hv ∷ []) _ $ alloc_all ! (λ ls. pass_all ! refl (fa, tt) $
      sets ! (of_opd ! (lit ! tt)) refl (tt, record { fits = lit< tt }) $
      sets ! (agg ! (and_then ! (get ! refl) (and_then ! (get ! refl) (no_more !)))) refl (null_typed hv fa) $ returns ! (look_at ! 0 refl) $ free_all ! refl $
      suffices ! _ (ends_at 𝓛 F.ended stayed (F.clauses 𝓛 at_mem run) z w made (tt, tt) (tt, tt)) $ says ! refl $
      nothing ! $ move ! (1 ∷ []) $ nothing ! $ move ! (1 ∷ 0 ∷ []) $ fjoin ! $ feq_i ! (List Val) (vint w64 0 ∷ []) (ptr_val null_ptr ∷ []) refl $ fjoin ! $
      feq_i ! (List Val) (w ∷ []) (w ∷ []) refl $ fjoin ! $
      fpack ! (Valss (RawPtr ∷ Heap.the_row ∷ [])) (within (shape Place.the_type) (to Place.the_type made) (w ∷ [])) (vint w64 0 ∷ [], (hv ∷ [], tt)) $ fjoin ! $ use1 𝓛 (‵ (Place.the_row.own_val made (w ∷ []))) (id⊢ 𝓤 _) $
      nothing ! $ nothing ! $ fjoin ! $ join ! $ nothing ! $ join ! $ done !))))

pub empty_spec : {M : Type 1} → stated.statement M
unfolding tables_of
empty_spec 𝓤 𝓛 𝓜 𝓡 wired =
    let 𝓣 : Tables 𝓤 𝓛.H = tables_of 𝓤 𝓛.H 𝓜 (tables 𝓤 𝓛.H 𝓜 𝓡 𝓡.env) in
    entered 𝓤 𝓛.H (triple_of 𝓛 F.signature (F.spec 𝓛 𝓜.mem 𝓡.returns)) 𝓣.C 𝓣.Λ #self code.function (code.unfolded 𝓤 𝓛.H 𝓜 𝓡 wired)
    (walk_Meets 𝓛 F.ended stayed (Goes-dropped 𝓛 0 From yes (λ κs x f. refl), tt) (F.clauses 𝓛 𝓜.mem 𝓡.returns) (WpFn 𝓤 𝓛.H 𝓣.C 𝓣.Λ code.function) (WpFn-mono 𝓤 𝓛.H 𝓛.laws 𝓣 code.function)
    (walk 𝓛 𝓜.mem 𝓡.returns 𝓣))
