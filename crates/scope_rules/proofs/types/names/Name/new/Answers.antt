-- Each byte is copied to its place, and what is copied is a name.
use Rattle.std.proofs.Common.{[], ℕ, ◌++◌, ◌+◌, ◌-◌, ◌<◌, ◌∙◌, ◌∷◌, ◌≡◌, List, add-one, ap, arith, drop, get_or, length, replicate, set, sym, take, true}
use Rattle.scope_rules.specs.{is_name}
use Rattle.scope_rules.proofs.Words.{drop-drop, drop-replicate, drop-set-lt, length-set, take-suc, take-suc-set, take_all}
use Rattle.scope_rules.proofs.StoredNames.{stored_passes}
use Rattle.scope_rules.proofs.types.names.Name.new.Goals as goal

step_copied : (bytes text : List ℕ) (i : ℕ) → i < length bytes → i < length text → take i bytes ≡ take i text
    → take (i + 1) (set bytes i (get_or text i 0)) ≡ take (i + 1) text
step_copied bytes text i in_bytes in_text same =
    rw add-one (take-suc-set bytes i (get_or text i 0) in_bytes ∙ ap (λ w. w ++ get_or text i 0 ∷ []) same ∙ sym (take-suc text i 0 in_text))

step_padded : (bytes : List ℕ) (i x : ℕ) → drop i bytes ≡ replicate (24 - i) 0
    → drop (i + 1) (set bytes i x) ≡ replicate (24 - (i + 1)) 0
step_padded bytes i x same =
    drop-set-lt (i + 1) bytes i x (omega arith)
    ∙ sym (drop-drop 1 i bytes)
    ∙ ap (drop 1) same
    ∙ drop-replicate 1 (24 - i) 0
    ∙ ap (λ n. replicate n 0) (let e : 24 - i - 1 ≡ 24 - (i + 1) = omega arith in e)

pub loop-i-preserved : goal.loop-i-preserved
loop-i-preserved c = record {
  room = length-set _ _ _ ∙ c.loop-i.invariant.room;
  copied = step_copied _ _ _ (omega arith) (omega arith) c.loop-i.invariant.copied;
  padded = step_padded _ _ _ c.loop-i.invariant.padded;
}

pub invariant_of-result : goal.invariant_of-result
invariant_of-result c =
    let len : c.loop-i.i ≡ length c.args.text.now = omega arith in
    let copied : take (length c.args.text.now) c.loop-i.bytes ≡ c.args.text.now = rw len at c.loop-i.invariant.copied ∙ take_all _ _ (omega arith) in
    let named : is_name (take (length c.args.text.now) c.loop-i.bytes) ≡ true = ap is_name copied ∙ cc in
    record {
      stored = ∣ stored_passes _ _ (record {
        room = c.loop-i.invariant.room;
        fits = omega (arith, c.is_name.ensures.fits cc);
        named = named;
        padded = rw len at c.loop-i.invariant.padded;
      }) ∣₁;
    }
