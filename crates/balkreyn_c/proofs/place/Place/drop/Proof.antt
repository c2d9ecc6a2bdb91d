-- `drop` drops a place that owns nothing.
use Rattle.std.proofs.BoxSteps.Form.{box_ty, box_typed}
use Rattle.balkreyn_c.specs.{IsNone}
use Rattle.balkreyn_c.proofs.Lemmas.{ !, [], α, ‵, ◌$◌, ◌∵◌, ◌⊛◌, Fits, Fun, Goes-dropped, Item, List, Logic, Memory, Ptr, Routine, SProp, Stays, T, Tables, Ura, Val, WT, WpFn, WpFn-mono, alloc_all, and_tt, block_ptr, by, done}
use Rattle.balkreyn_c.proofs.Lemmas.{drop, ends_at, ent, enter, entered, fact, feq_i, feq_l, fjoin, fld, fpack, fpick, free_all, fsep, fsplit, ftrue, get_in, group, handle_tells, has_ty, join, keep, lit<, look_at, move, nothing}
use Rattle.balkreyn_c.proofs.Lemmas.{null_ptr, of_list, of_opd, pass_all, ptr_val, qed, rawptr_Lawful, refl, returns, sets, split, stay_dropped, stop, sub, subst, suffices, sym, tables, tables_of, triple_of, unit_lit, use1, vcons}
use Rattle.balkreyn_c.proofs.Lemmas.{vnil, vstruct, vunit, walk_Meets, walk_of, whole, yes}
use Rattle.balkreyn_c.proofs.AsBox.{E}
use mathlib.Core.{List.◌++◌, List.◌∷◌, Path.◌≡◌}
use types.Kit.{raw}
use Rattle.balkreyn_c.specs.contracts.place.Place as Place
use Rattle.balkreyn_c.specs.contracts.place.Place.drop as F
use Rattle.balkreyn_c.specs.contracts.place.Place.drop.Key.{name as #self}
use Rattle.balkreyn_c.proofs.place.Place.drop.Statement as stated
use Rattle.balkreyn_c.proofs.place.Place.drop.Code as code
use Rattle.balkreyn_c.proofs.AsBox.{FromPlace as From}

abbrev stayed : Stays (F.ended).signature.params (F.ended).kept
stayed = (stay_dropped From yes, tt)

abbrev at_word : Ptr → Val → Val
at_word p hv = vstruct (vcons (ptr_val p) (vcons hv vnil))

typed : (p : Ptr) (hv : Val) → Fits E.al hv → T (has_ty (box_ty E) (at_word p hv)) × WT (at_word p hv)
typed (block_ptr b o) hv fa = box_typed E hv b o fa
typed null_ptr hv fa = (and_tt (has_ty (α E.al) hv) fa.0, (record { fits = lit< tt }, (fa.1, tt)))

module _ {M : Type 1} {𝓤 : Ura M} (𝓛 : Logic 𝓤) (at_mem : Memory → SProp 𝓤) (run : Routine → Fun 𝓤) (𝓣 : Tables 𝓤 𝓛.H) where
  open 𝓛 use {H}

  walk : (z : (walk_of 𝓛 F.ended stayed (F.clauses 𝓛 at_mem run)).Ghost)
      → ent 𝓤 ((walk_of 𝓛 F.ended stayed (F.clauses 𝓛 at_mem run)).pre z) (WpFn 𝓤 H 𝓣.C 𝓣.Λ code.function (z.0.4.0 ++ []) ((walk_of 𝓛 F.ended stayed (F.clauses 𝓛 at_mem run)).post z))
  walk z =
      let Post = (walk_of 𝓛 F.ended stayed (F.clauses 𝓛 at_mem run)).post z in
      let p : Place.the_row.Denot = z.0.3.0 in
      qed 𝓛 ((‵ ftrue ⊛ ‵ (fsep (Place.the_row.own_val p z.0.4.0) ftrue)) ∷ raw (fact 𝓤 (IsNone p.held)) ∷ []) ∵ split ! $ drop ! $ fsplit ! $
      fsplit ! $ fpick ! (λ vss. fsplit ! $ feq_l ! (λ ev. fsplit ! $ feq_l ! (λ ep. fsplit ! $ keep ! (0 ∷ []) $ handle_tells E.al ! p.alloc vss.1.0 (λ hv ea fa. drop ! $
      let w = at_word p.at hv in
      let is : z.0.4.0 ≡ w ∷ [] =
      subst (λ (ws : List Val). z.0.4.0 ≡ vstruct (of_list (ptr_val p.at ∷ (ws ++ []))) ∷ []) ea (subst (λ (ps : List Val). z.0.4.0 ≡ vstruct (of_list (ps ++ (vss.1.0 ++ []))) ∷ []) ep ev) in
      let Γ : List (Item 𝓤) = [] in
      by ! (subst (λ (us : List Val). ent 𝓤 (types.Kit.⋆ 𝓛 Γ) (WpFn 𝓤 H 𝓣.C 𝓣.Λ code.function (us ++ []) Post)) (sym is)
      (qed 𝓛 Γ ∵ enter ! 𝓣.C 𝓣.Λ code.function (w ∷ []) _ $ alloc_all ! (λ ls. pass_all ! refl (typed p.at hv fa, tt) $
      sets ! (of_opd ! (get_in ! (fld ! refl (stop !)) (sub ! 0 refl (whole !)))) refl ((rawptr_Lawful 𝓛).typed p.at _ refl).0 $ sets ! (of_opd ! (get_in ! (fld ! refl (stop !)) (sub ! 1 refl (whole !)))) refl fa $
      sets ! (of_opd ! (unit_lit !)) refl (tt, tt) $ returns ! (look_at ! 0 refl) $ free_all ! refl $
      suffices ! _ (ends_at 𝓛 F.ended stayed (F.clauses 𝓛 at_mem run) z vunit tt (tt, tt) (tt, tt)) $
      nothing ! $ feq_i ! _ (vunit ∷ []) _ refl $ nothing ! $ nothing ! $ join ! $ nothing ! $ group ! 3 $ done !)))))))

pub drop_spec : {M : Type 1} → stated.statement M
unfolding tables_of
drop_spec 𝓤 𝓛 𝓜 𝓡 wired =
    let 𝓣 : Tables 𝓤 𝓛.H = tables_of 𝓤 𝓛.H 𝓜 (tables 𝓤 𝓛.H 𝓜 𝓡 𝓡.env) in
    entered 𝓤 𝓛.H (triple_of 𝓛 F.signature (F.spec 𝓛 𝓜.mem 𝓡.returns)) 𝓣.C 𝓣.Λ #self code.function (code.unfolded 𝓤 𝓛.H 𝓜 𝓡 wired)
    (walk_Meets 𝓛 F.ended stayed (Goes-dropped 𝓛 0 From yes (λ κs x f. refl), tt) (F.clauses 𝓛 𝓜.mem 𝓡.returns) (WpFn 𝓤 𝓛.H 𝓣.C 𝓣.Λ code.function) (WpFn-mono 𝓤 𝓛.H 𝓛.laws 𝓣 code.function)
    (walk 𝓛 𝓜.mem 𝓡.returns 𝓣))
