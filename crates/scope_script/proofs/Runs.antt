-- Runs of commands that are put together.
use Rattle.std.proofs.Common.{[], ℕ, ◌++◌, ◌+◌, ◌<◌, ◌∙◌, ◌∷◌, ◌≡◌, List, Some, add-one, ap, drop, get_or, length, refl, slice_get, suc, sym, take}
use Rattle.script_words.specs.declared.commands.Command.{Command}
use Rattle.scope_script.specs.{Realm, StopsAmong, realm_after, realm_after_all, realm_stopped}
use Rattle.scope_script.proofs.Lemmas.{drop-cons, get_or_from_slice_get, slice_get_within, take-append-drop, take_at}

pub realm_after_more : (realm : Realm) (xs : List Command) (x : Command) → realm_after_all realm (xs ++ x ∷ []) ≡ realm_after (realm_after_all realm xs) x
unfolding realm_after_all
realm_after_more realm [] x = refl
realm_after_more realm (y ∷ ys) x = realm_after_more (realm_after realm y) ys x

-- the run so far, with the command at the index
pub realm_after_at : (realm : Realm) (xs : List Command) (i : ℕ) (x : Command) → slice_get xs i ≡ Some x → realm_after_all realm (take (i + 1) xs) ≡ realm_after (realm_after_all realm (take i xs)) x
realm_after_at realm xs i x at = ap (realm_after_all realm) (take_at xs i x at) ∙ realm_after_more realm (take i xs) x

take_drop_at : {A : Type 0} (xs : List A) (i : ℕ) (x : A) → slice_get xs i ≡ Some x → take i xs ++ x ∷ drop (i + 1) xs ≡ xs
take_drop_at xs i x at =
    let short : i < length xs = slice_get_within xs i x at in
    let first : get_or xs i x ≡ x = get_or_from_slice_get xs i x x at in
    let rest : drop i xs ≡ x ∷ drop (i + 1) xs = rw add-one (drop-cons xs i x short ∙ ap (λ y. y ∷ drop (suc i) xs) first) in
    ap (λ r. take i xs ++ r) (sym rest) ∙ take-append-drop i xs

-- the run was ended at the command at the index
pub stops_at : (realm now new : Realm) (xs : List Command) (i : ℕ) (x : Command) → slice_get xs i ≡ Some x → now ≡ realm_after_all realm (take i xs) → new ≡ realm_stopped now x → StopsAmong realm xs new
stops_at realm now new xs i x at is stopped = record {
  before = take i xs;
  command = x;
  others = drop (i + 1) xs;
  whole = sym (take_drop_at xs i x at);
  stopped = stopped ∙ ap (λ (r : Realm). realm_stopped r x) is;
}
