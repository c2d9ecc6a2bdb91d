-- `swapped` opens the reference, and lends its word to one step of the machine.
use Rattle.std.proofs.Common.{[], ℕ, ◌^◌, ◌∷◌, ◌≡◌, List, lit<, refl, w64}
use Rattle.balkreyn_c.specs.{contracts.word.swapped.clauses, contracts.word.swapped.ended, word}
use Rattle.balkreyn_c.proofs.Lemmas.{ !, ‵, ◌$◌, ◌∵◌, ◌⊛◌, Calls-last, Fml, Goes-dropped, Goes-ref, SProp, Stays, Val, addr, agg, alloc_all, and_then, at_ret, block_ptr, blocks, by, closes, done, drop, emp, enter, env, exec, fact}
use Rattle.balkreyn_c.proofs.Lemmas.{fact_i, feq, feq_i, feq_l, finds, first, fjoin, fjoin3, flft, flt_i, fm, found, free_all, fsep, fsplit, fsplit3, ftrue, full_share, get, join, keep, lands_last, leaves, lit, look_at, mean}
use Rattle.balkreyn_c.proofs.Lemmas.{move, mut_Tells, mut_vals, named, no_more, nothing, of_opd, opens, owns, pass_all, plain, proved, qed, returns, seq_cst, sets, split, stay_dropped, stay_ref, stop, swaps, tables, through, tied}
use Rattle.balkreyn_c.proofs.Lemmas.{ties, types_at, u64, uint_Tells, uint_vals, use0, use1, via, vint, vptr, walk_of, yes}
use Rattle.balkreyn_c.proofs.{Words.owned_asks, word.swapped.Statement.statement}
use types.Kit.{raw}
use Rattle.balkreyn_c.specs.contracts.word.swapped.Key.{name as #self}
use Rattle.balkreyn_c.proofs.word.swapped.Code as code

abbrev stayed : Stays ended.signature.params ended.kept
stayed = (stay_ref (0 ∷ []) tt (plain (λ _. u64)), (stay_dropped (plain (λ _. u64)) yes, tt))

pub swapped_spec : {M : Type 1} → statement M
swapped_spec 𝓤 𝓛 𝓜 𝓡 wired =
    let 𝓣 = tables 𝓤 𝓛.H 𝓜 𝓡 𝓡.env in let c = clauses 𝓛 𝓜.mem 𝓡.returns in let fn = code.function in
    proved 𝓛 ended stayed c 𝓜 𝓡 (Goes-ref 𝓛 1 0 tt (plain (λ _. u64)), (Goes-dropped 𝓛 1 (plain (λ _. u64)) yes (λ κs x f. refl), tt))
    #self fn (code.unfolded 𝓤 𝓛.H 𝓜 𝓡 wired)
    (λ κs. (mut_vals, (uint_vals w64, tt))) (λ κs. (mut_Tells (named 0) κs.0 u64, (uint_Tells w64, tt))) (λ κs qs bounds a gh are.
    let b : ℕ = a.0.ref_ptr.0 in let o : ℕ = a.0.ref_ptr.1 in let was : ℕ = a.0.now in let new : ℕ = a.1.0 in let fits-new = are.1.0.1 in
    let y : (walk_of 𝓛 ended stayed c).Ghost = ((κs, qs, bounds, a, (vptr b o ∷ [], (vint w64 new ∷ [], tt))), gh) in
    let Post : Val → SProp 𝓤 = (walk_of 𝓛 ended stayed c).post y in
    let out : ℕ → Fml = λ n. fsep (feq ℕ n was) (word b o new) in
    qed 𝓛 (((‵ (flft κs.0 qs.0) ⊛ ‵ ftrue) ⊛ ‵ (owns (types_at ended.signature.params κs) a y.0.4)) ∷ ‵ ftrue ∷ []) ∵
    split ! $ split ! $ move ! (2 ∷ []) $ fsplit ! $ fsplit3 ! $ keep ! (1 ∷ 2 ∷ 4 ∷ []) $
    enter ! 𝓣.C 𝓣.Λ fn (vptr b o ∷ vint w64 new ∷ []) Post $ alloc_all ! (λ l. pass_all ! refl ((tt, tt), ((tt, record { fits = fits-new }), tt)) $
    opens ! tt u64 b o (λ us. tied ! full_share u64.mir us b o $
    -- [the word; that its number is small; the open borrow, in three entries; the token]
    first ! $ blocks ! $ sets ! (addr ! (through ! refl (stop !))) refl (tt, tt) $
    sets ! (agg ! (and_then ! (lit ! tt) (no_more !))) refl (tt, (record { fits = lit< tt }, tt)) $
    use1 𝓛 (raw (𝓣.C _ (vptr b o ∷ vint w64 new ∷ seq_cst ∷ []) (λ u. mean 𝓛 (found out u))))
    (via 𝓤 _ (owned_asks 𝓛 b o was (λ _. new) out (qed 𝓛 (‵ (word b o new) ∷ []) ∵ feq_i ! ℕ was was refl $ fjoin ! $ done !))
    (swaps 𝓛 𝓜 𝓡 (code.calls-std::sync::atomic::raw::swap 𝓡.env wired) (block_ptr b o) new fits-new out)) $
    Calls-last ! (fm 𝓛 𝓜 𝓡) (found out) (and_then ! (get ! refl) (and_then ! (get ! refl) (and_then ! (get ! refl) (no_more !)))) (λ u. finds ! out (λ n fits.
    lands_last ! refl (tt, record { fits = fits }) $ exec ! 𝓣.C 𝓣.Λ (env fn.locals l) code.Mir.t-2 (at_ret _ Post) $
    sets ! (of_opd ! (get ! refl)) refl (tt, record { fits = fits }) $
    fsplit ! $ feq_l ! (λ same. move ! (1 ∷ []) $ drop ! $ flt_i ! new (2 ^ 64) fits-new $ move ! (1 ∷ 0 ∷ []) $
    ties ! full_share u64.mir (vint w64 new ∷ []) b o $ closes ! tt u64 new (vint w64 new ∷ []) b o $
    feq_i ! (List Val) (vptr b o ∷ []) (vptr b o ∷ []) refl $ fjoin3 ! $
    nothing ! $ nothing ! $ fjoin ! $ move ! (1 ∷ 0 ∷ []) $ fjoin ! $ nothing ! $ move ! (2 ∷ 0 ∷ []) $ join ! $
    use0 𝓛 (raw (fact 𝓤 (new ≡ new))) (fact_i 𝓤 (new ≡ new) (emp 𝓤) refl) $ use0 𝓛 (raw (fact 𝓤 (n ≡ was))) (fact_i 𝓤 (n ≡ was) (emp 𝓤) same) $ join ! $
    flt_i ! n (2 ^ 64) fits $ feq_i ! (List Val) (vint w64 n ∷ []) (vint w64 n ∷ []) refl $ fjoin ! $
    returns ! (look_at ! 0 refl) $ free_all ! refl $ keep ! (2 ∷ 3 ∷ 0 ∷ 1 ∷ []) $ by ! (leaves 𝓛 ended stayed c y (vint w64 n) n (new, (tt, tt)) (tt, (tt, tt)))))))))
