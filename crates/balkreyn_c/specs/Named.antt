-- The events of commands that come with texts.
use Rattle.balkreyn_c.specs.Words.{ℕ, ℤ, Err, Event, List, None, Num, Ok, Option, Text, name_said, option_and_then, option_map}
use Rattle.scope_rules.specs.declared.types.events.Event.TheVariants as event

-- the label expects no end
abbrev pub fork_of : ℕ → ℕ → List ℕ → Option Event
fork_of actor scope text = option_map (λ name. event.Fork actor scope (record { name = name; due = None })) (name_said text)

abbrev pub text_end_of : ℕ → List ℕ → Option Event
text_end_of task text = option_map (λ name. event.Finish task (Ok (Text name))) (name_said text)

abbrev pub fault_of : ℕ → List ℕ → Option Event
fault_of task text = option_map (λ name. event.Finish task (Err (record { 0 = name }))) (name_said text)

abbrev pub bind_of : ℕ → List ℕ → ℤ → Option Event
bind_of actor key number = option_map (λ name. event.Bind actor (record { key = name; value = Num number })) (name_said key)

abbrev pub text_bind_of : ℕ → List ℕ → List ℕ → Option Event
text_bind_of actor key text = option_and_then (λ name. option_map (λ value. event.Bind actor (record { key = name; value = Text value })) (name_said text)) (name_said key)
