-- How much of a script was understood.
use Rattle.std.specs.Prelude.{◌&&◌, ◌==◌, ◌∷◌}
use Rattle.script_jobs.specs.Words.{[], ℕ, Bool, Count, History, Limits, List, Tally, false, nat_lt, realm_of_script, tally_of_script, true}

abbrev pub is_nil : {A : Type 0} → List A → Bool
is_nil [] = true
is_nil (x ∷ xs) = false

-- nothing was ever recorded
abbrev pub is_untouched : History → Bool
is_untouched h = is_nil h.events && ((h.base.moment == 0) && ((h.base.scopes == 0) && ((h.base.tasks == 0) && is_nil h.base.binds)))

-- so many lines were refused of a script that leaves this history; it looks like another kind of text if all of
-- them are no commands, and no other line recorded anything
abbrev pub count_in : Tally → History → Count
count_in t h = record {
  tally = t;
  is_foreign = nat_lt 0 t.refused && ((t.refused == t.bad_words) && is_untouched h);
}

-- of a whole script, on a fresh realm of these limits
abbrev pub count_of_script : Limits → List ℕ → Count
count_of_script L bytes = count_in (tally_of_script L bytes) (realm_of_script L bytes).history
