-- Works that are made items, some of which come back.
use Rattle.std.proofs.Common.{[], ℕ, ◌++◌, ◌+◌, ◌-◌, ◌∙◌, ◌∷◌, ◌≡◌, List, ap, arith, length, map, refl, sym, take}
use Rattle.thread_pool.specs.{SpawnsFirst, TicketValue}
use Rattle.thread_pool.proofs.Words.{append_assoc, length-append, length-map, map-append, map_push, take-append_seam, take-map}

-- one element crosses the seam
crossed : {I X : Type 0} (parts : I → X) (less more : List I) (i : I) (rest : List X) → more ≡ less ++ i ∷ [] → map parts less ++ parts i ∷ rest ≡ map parts more ++ rest
crossed parts less more i rest is =
    sym (append_assoc (map parts less) (parts i ∷ []) rest) ∙ ap (λ xs. xs ++ rest) (sym (map_push parts less i) ∙ ap (λ xs. map parts xs) (sym is))

-- an item is made of the first work
pub item_made : {I X : Type 0} (parts : I → X) (works left rest : List X) (items more : List I) (i : I) → works ≡ map parts items ++ left → left ≡ parts i ∷ rest → more ≡ items ++ i ∷ [] → works ≡ map parts more ++ rest
item_made parts works left rest items more i are next is = are ∙ (ap (λ xs. map parts items ++ xs) next ∙ crossed parts items more i rest is)

-- and it comes back
pub item_back : {I X : Type 0} (parts : I → X) (all works back : List X) (items less : List I) (i : I) → map parts items ++ works ≡ all → items ≡ less ++ i ∷ [] → back ≡ parts i ∷ works → map parts less ++ back ≡ all
item_back parts all works back items less i are is put = ap (λ xs. map parts less ++ xs) put ∙ (crossed parts less items i works is ∙ are)

-- a handle is made with it
pub handle_made : {H I T : Type 0} (first : H → T) (ticket : I → T) (handles handles' : List H) (items items' : List I) (h : H) (i : I) → map first handles ≡ map ticket items → handles' ≡ handles ++ h ∷ [] → items' ≡ items ++ i ∷ [] → first h ≡ ticket i → map first handles' ≡ map ticket items'
handle_made first ticket handles handles' items items' h i same handle item of =
    ap (λ xs. map first xs) handle
    ∙ (map_push first handles h
    ∙ (ap (λ xs. xs ++ first h ∷ []) same
    ∙ (ap (λ t. map ticket items ++ t ∷ []) of
    ∙ (sym (map_push ticket items i) ∙ ap (λ xs. map ticket xs) (sym item)))))

tickets_of : {I W : Type 0} (parts : I → TicketValue × W) (items : List I) → map (λ i. (parts i).0) items ≡ map (λ w. w.0) (map parts items)
tickets_of parts [] = refl
tickets_of parts (i ∷ items) = ap (λ ts. (parts i).0 ∷ ts) (tickets_of parts items)

-- the handles of those that don't come back are the first
pub spawns_first : {H I W : Type 0} (first_of : H → TicketValue) (parts : I → TicketValue × W) (works between left : List (TicketValue × W)) (items taken back : List I) (handles kept : List H) → works ≡ map parts items ++ between → items ≡ taken ++ back → left ≡ map parts back ++ between → map first_of handles ≡ map (λ i. (parts i).0) items → kept ≡ take (length handles - length back) handles → SpawnsFirst first_of works left kept
spawns_first first_of parts works between left items taken back handles kept are split put same keeps =
    let first = map (λ i. (parts i).0) taken in
    let last = map (λ i. (parts i).0) back in
    let all : map first_of handles ≡ first ++ last = same ∙ (ap (λ xs. map (λ i. (parts i).0) xs) split ∙ map-append (λ i. (parts i).0) taken back) in
    let count : length handles - length back ≡ length first = omega (arith, length-map handles first_of, length-map taken (λ i. (parts i).0), length-map back (λ i. (parts i).0), ap length all, length-append first last) in
    record {
      taken = map parts taken;
      are = are ∙ (ap (λ xs. map parts xs ++ between) split ∙ (ap (λ xs. xs ++ between) (map-append parts taken back) ∙ (append_assoc (map parts taken) (map parts back) between ∙ ap (λ xs. map parts taken ++ xs) (sym put))));
      given =
          ap (λ xs. map first_of xs) keeps
          ∙ (sym (take-map first_of (length handles - length back) handles)
          ∙ (ap (λ xs. take (length handles - length back) xs) all
          ∙ (ap (λ n. take n (first ++ last)) count
          ∙ (take-append_seam first last ∙ tickets_of parts taken))));
    }
