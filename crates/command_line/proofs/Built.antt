-- What the application is to `clap`.
use Rattle.std.specs.Prelude.{◌||◌, ◌≡◌}
use Rattle.command_line.specs.{Bool, false, is_simple_and_free, scopectl, true, with_jobs, with_rules}
use Rattle.command_line.proofs.Words.{◌∙◌, ap, cond, refl}

pub is_simple_app : is_simple_and_free scopectl ≡ true
unfolding scopectl with_jobs with_rules
is_simple_app = refl

-- ---- one more argument that is not global

or_nothing : (b : Bool) → (b || false) ≡ b
or_nothing true = refl
or_nothing false = refl

pub still : (b g : Bool) → g ≡ false → (b || g) ≡ b
still b g local = ap (λ x. b || x) local ∙ or_nothing b

pub same_either : {A : Type 0} (b : Bool) (x : A) → cond b x x ≡ x
same_either true x = refl
same_either false x = refl
