-- A script that a person types at a prompt.
use Rattle.std.specs.Prelude.{◌++◌, ◌≡◌}
use Rattle.script_jobs.specs.Words.{ℕ, Bool, Limits, List, after_bytes, false, the_beginning}
use Rattle.script_jobs.specs.Scripts.{plain_of}
use Rattle.script_jobs.specs.declared.session.NotedScript.{NotedScript}

-- the script under way is that of these lines, on a fresh realm of these limits
abbrev pub Stands : {g : _} {f : _} {m : _} → Limits → NotedScript g f m → List ℕ → Type 0
Stands L script lines = plain_of script ≡ after_bytes (the_beginning L) lines

-- it is so unless a line was taken back since
abbrev pub StandsUnless : {g : _} {f : _} {m : _} → (stale : Bool) → Limits → NotedScript g f m → List ℕ → Type 0
StandsUnless stale L script lines = stale ≡ false → Stands L script lines

-- these bytes come first
pub record IsBeginning (some all : List ℕ) : Type 0 where
  pub rest : List ℕ
  pub whole : all ≡ some ++ rest
