-- A step of the machine on a word that is owned.
use Rattle.std.proofs.Common.{[], ℕ, ◌∷◌, List}
use Rattle.balkreyn_c.specs.{Shift, along, always, asks, back, found, if_none, rests, word}
use Rattle.balkreyn_c.proofs.Lemmas.{ !, ‵, ◌$◌, ◌∵◌, Fml, Logic, SProp, Ura, assume, block_ptr, by, each, ent, ex, ex_i, frame, qed, sem, show, suffices, upd_i}

module _ {M : Type 1} {𝓤 : Ura M} (𝓛 : Logic 𝓤) where
  pub owned_asks : (b o n : ℕ) (f : ℕ → ℕ) (out : ℕ → Fml) → ent 𝓤 (sem 𝓛 (word b o (f n))) (sem 𝓛 (out n)) → ent 𝓤 (sem 𝓛 (word b o n)) (asks 𝓛 (block_ptr b o) f always out)
  owned_asks b o n f out turn =
      let Q : List (ℕ × Fml) → SProp 𝓤 = λ L. ex 𝓤 (found 𝓛 L b o f always out) in
      qed 𝓛 (‵ (word b o n) ∷ []) ∵ suffices ! _ (ex_i 𝓤 (λ (s : Shift). along 𝓛 s Q []) rests) $ suffices ! _ (upd_i 𝓤 (Q [])) $
      show ! (found 𝓛 [] b o f always out) n $ frame ! $
      each ! (λ (_ : always n). back 𝓛 [] b o f out n) (λ y. assume ! (‵ (word b o (f n))) $
      suffices ! _ (ex_i 𝓤 (λ (s : Shift). along 𝓛 s (if_none 𝓛 (sem 𝓛 (out n))) []) rests) $ suffices ! _ (upd_i 𝓤 (sem 𝓛 (out n))) $ by ! turn)
