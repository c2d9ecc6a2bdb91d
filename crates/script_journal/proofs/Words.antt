-- The line of an event says its command, and an event is printed as that line.
use Rattle.std.proofs.Common.{[], ℕ, ◌++◌, ◌∙◌, ◌∷◌, ◌≡◌, Bool, Err, List, None, Ok, Option, Some, ap, append-nil, append_assoc, codes, false, refl, sym, true}
use Rattle.script_journal.specs.{Binding, Command, Do, EndValue, Event, Expiry, Fail, FailuresAtLeast, Fits, Label, MoveOn, OpenWord, Options, Policy, Until, decimal, end_line, event_line, join_with_byte, joiner_text, line_said, option_words}
use Rattle.script_journal.specs.{options_text, pair_text, policy_word, renumbered, spelled, text_of, the_start, value_text, without_due, words_of}
use Rattle.script_journal.proofs.Lemmas.{line_says_the_command, unary_clauses}
use Rattle.scope_rules.specs.declared.types.events.Event.TheVariants as event

-- ---- what is printed

then_pair : (a key value : List ℕ) → a ++ codes " " ++ (key ++ codes " " ++ value) ≡ a ++ 32 ∷ (key ++ 32 ∷ value)
then_pair a key value = simp (append_assoc)

pub pair_said : (a : ℕ) (pair : Binding) → codes "bind " ++ decimal a ++ codes " " ++ pair_text pair ≡ spelled (Do (event.Bind a pair))
unfolding words_of
pair_said a pair = ap (λ t. codes "bind " ++ t) (then_pair (decimal a) (text_of pair.key) (value_text pair.value))

pub fork_said : (a s : ℕ) (label : Label) → codes "fork " ++ decimal a ++ codes " " ++ decimal s ++ codes " " ++ text_of label.name ≡ spelled (Do (event.Fork a s label))
unfolding words_of
fork_said a s label = simp (append_assoc)

pub end_said : (k : ℕ) (end : EndValue) → end_line k end ≡ spelled (Do (event.Finish k end))
unfolding words_of
end_said k (Ok value) = simp (append_assoc)
end_said k (Err fault) = simp (append_assoc)

-- of two words the first ends
pub two_said : (a b : List ℕ) → a ++ 32 ∷ [] ++ b ≡ a ++ 32 ∷ b
two_said a b = append_assoc a (32 ∷ []) b

policy_spelled : (policy : Policy) → joiner_text policy ≡ policy_word policy
policy_spelled (Until (FailuresAtLeast count)) = refl
policy_spelled _ = refl

-- the options behind the joiner's word
options_spelled : (word : List ℕ) (deadline : Option ℕ) (expiry : Expiry) (shield : Bool) → word ++ options_text (record { deadline = deadline; shield = shield; expiry = expiry })
    ≡ join_with_byte 32 (word ∷ (option_words OpenWord.Deadline deadline ++ (option_words OpenWord.MoveOn expiry ++ (option_words OpenWord.Shield shield ++ []))))
options_spelled word None Fail false = simp (append-nil)
options_spelled word None Fail true = refl
options_spelled word None MoveOn false = refl
options_spelled word None MoveOn true = refl
options_spelled word (Some moment) Fail false = simp (append-nil)
options_spelled word (Some moment) Fail true = simp (append_assoc)
options_spelled word (Some moment) MoveOn false = simp (append-nil, append_assoc)
options_spelled word (Some moment) MoveOn true = simp (append_assoc)

then_more : (a word others : List ℕ) → a ++ codes " " ++ word ++ others ≡ a ++ 32 ∷ (word ++ others)
then_more a word others = simp (append_assoc)

pub open_said : (a : ℕ) (policy : Policy) (options : Options) → codes "open " ++ decimal a ++ codes " " ++ joiner_text policy ++ options_text options ≡ spelled (Do (event.Open a policy options))
unfolding words_of
open_said a policy options =
    rw (policy_spelled policy)
    (ap (λ t. codes "open " ++ t) (then_more (decimal a) (policy_word policy) (options_text options) ∙ ap (λ t. decimal a ++ 32 ∷ t) (options_spelled (policy_word policy) options.deadline options.expiry options.shield)))

-- ---- what the line says

pub none_before : (e : Event) → renumbered the_start e ≡ e
none_before (event.Tick now) = refl
none_before _ = simp unary_clauses

-- an end that is expected is not said
pub no_due_said : (e : Event) → spelled (Do (without_due e)) ≡ spelled (Do e)
unfolding words_of
no_due_said (event.Fork actor scope label) = refl
no_due_said _ = refl

pub line_says_event : (e : Event) → Fits e → line_said (event_line the_start e) ≡ Command (Do (without_due e))
unfolding event_line
line_says_event e fits = ap (λ d. line_said (spelled (Do d))) (none_before e) ∙ (ap line_said (sym (no_due_said e)) ∙ line_says_the_command (Do (without_due e)) fits)
