-- A script that goes on by a line is that of its lines.
use Rattle.std.specs.Prelude.{◌++◌, ◌≡◌, if◌then◌else◌}
use Rattle.script_jobs.specs.{ℕ, Err, Limits, List, Ok, OnOk, Result, Session, after_bytes, is_ok, the_beginning}
use Rattle.script_jobs.proofs.Words.{◌∙◌, after_append, ap, sym}

pub stands_more : {T E : Type 0} (r : Result T E) (L : Limits) (s t : Session) (lines whole other new : List ℕ) → s ≡ after_bytes (the_beginning L) lines → t ≡ after_bytes s whole → other ≡ whole
    → new ≡ (if is_ok r then lines ++ other else lines) → OnOk r (t ≡ after_bytes (the_beginning L) new)
stands_more (Ok x) L s t lines whole other new stands takes same is =
    takes
    ∙ (ap (λ (u : Session). after_bytes u whole) stands
    ∙ (sym (after_append (the_beginning L) lines whole)
    ∙ (ap (λ b. after_bytes (the_beginning L) (lines ++ b)) (sym same) ∙ ap (after_bytes (the_beginning L)) (sym is))))
stands_more (Err e) L s t lines whole other new stands takes same is = tt
