-- What is read is what the parse has of the option.
use Rattle.std.specs.Prelude.{◌≡◌}
use Rattle.command_line.specs.{[], ℕ, After, Found, List, Option, all_of, each_said, found_of, matched_of, name_of, option_map, raw_values, rows_of, texts_in, unwrap_or}
use Rattle.command_line.proofs.Words.{◌∙◌, IfErr-weaker, IfOk-weaker, ap, inl, inr, raw_values-rows, refl, sym}
use Rattle.command_line.proofs.delays.delays_in.Goals as goal

same_said : (f : Found) (id : List ℕ) (o : Option (List (List ℕ))) → id ≡ name_of After → o ≡ option_map raw_values (matched_of f id)
    → each_said (texts_in (rows_of f) After) ≡ each_said (unwrap_or o [])
same_said f id o named is =
    ap (λ texts. each_said (unwrap_or texts [])) (sym (is ∙ (raw_values-rows f id ∙ ap (λ name. all_of name (rows_of f)) named)))

pub returns-in-Some-clause-said : goal.returns-in-Some-clause-said
returns-in-Some-clause-said c = IfOk-weaker c.each_delay.result _ _ (λ delays is. same_said (found_of c.args.matches.now) _ _ c.name.ensures c.in-Some.ensures ∙ is) c.each_delay.ensures.said

pub returns-in-Some-clause-refused : goal.returns-in-Some-clause-refused
returns-in-Some-clause-refused c = IfErr-weaker c.each_delay.result _ _ (λ fault refused. elim refused [
  | inl memory ↦ inl memory
  | inr none ↦ inr (same_said (found_of c.args.matches.now) _ _ c.name.ensures c.in-Some.ensures ∙ none)
]) c.each_delay.ensures.refused

pub returns-in-None-clause-said : goal.returns-in-None-clause-said
unfolding each_said
returns-in-None-clause-said c = same_said (found_of c.args.matches.now) _ _ c.name.ensures c.in-None.ensures ∙ rw c.new.ensures.items refl
