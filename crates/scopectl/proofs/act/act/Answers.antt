use Rattle.scopectl.specs.{CommandLine, Memory, Write}
use Rattle.scopectl.proofs.Words.{inl, inr, refl}
use Rattle.scopectl.proofs.{Acted.words_ask, Acted.words_say, Acted.words_say_none, Jobs.names_alone, Jobs.names_weaker, Jobs.well_ended}
use Rattle.scopectl.proofs.act.act.Goals as goal

pub returns-in-Ok-Replay-clause-done : goal.returns-in-Ok-Replay-clause-done
returns-in-Ok-Replay-clause-done g c = λ e f. inr (record { command = _; says = words_say _ c.args.said c.requires.read _ _ c.in-Ok-Replay.is c.in-Ok-Replay.field-0-is; did = c.replay.ensures.done e })

pub returns-in-Ok-Replay-clause-fault : goal.returns-in-Ok-Replay-clause-fault
returns-in-Ok-Replay-clause-fault g c = λ e. inr (inr (record { command = _; said = words_say _ c.args.said c.requires.read _ _ c.in-Ok-Replay.is c.in-Ok-Replay.field-0-is; did = c.replay.ensures.fault e }))

pub returns-in-Ok-Replay-clause-named : goal.returns-in-Ok-Replay-clause-named
returns-in-Ok-Replay-clause-named g c = λ e. elim (c.replay.ensures.named e) [
  | inl plain ↦ inl (names_weaker _ _ _ _ _ _ _ _ (λ f none. absurd none) plain)
  | inr after ↦ inr (record { command = _; says = words_say _ c.args.said c.requires.read _ _ c.in-Ok-Replay.is c.in-Ok-Replay.field-0-is; names = after })
]

pub returns-in-Ok-Show-clause-done : goal.returns-in-Ok-Show-clause-done
returns-in-Ok-Show-clause-done g c = λ e f. inr (record { command = _; says = words_say _ c.args.said c.requires.read _ _ c.in-Ok-Show.is c.in-Ok-Show.field-0-is; did = c.show.ensures.done e })

pub returns-in-Ok-Show-clause-fault : goal.returns-in-Ok-Show-clause-fault
returns-in-Ok-Show-clause-fault g c = λ e. inr (inr (record { command = _; said = words_say _ c.args.said c.requires.read _ _ c.in-Ok-Show.is c.in-Ok-Show.field-0-is; did = c.show.ensures.fault e }))

pub returns-in-Ok-Show-clause-named : goal.returns-in-Ok-Show-clause-named
returns-in-Ok-Show-clause-named g c = λ e. elim (c.show.ensures.named e) [
  | inl plain ↦ inl (names_weaker _ _ _ _ _ _ _ _ (λ f none. absurd none) plain)
  | inr after ↦ inr (record { command = _; says = words_say _ c.args.said c.requires.read _ _ c.in-Ok-Show.is c.in-Ok-Show.field-0-is; names = after })
]

pub returns-in-Ok-Quote-clause-done : goal.returns-in-Ok-Quote-clause-done
returns-in-Ok-Quote-clause-done g c =
    λ e f. (let none = well_ended _ c.quote.ensures.status e in inr (record { command = _; says = words_say _ c.args.said c.requires.read _ _ c.in-Ok-Quote.is c.in-Ok-Quote.field-0-is; did = record { did = c.quote.ensures.done none; noted = c.quote.ensures.silent none; status = none } }))

pub returns-in-Ok-Quote-clause-fault : goal.returns-in-Ok-Quote-clause-fault
returns-in-Ok-Quote-clause-fault g c = λ e. inr (inr (record { command = _; said = words_say _ c.args.said c.requires.read _ _ c.in-Ok-Quote.is c.in-Ok-Quote.field-0-is; did = c.quote.ensures.fault e }))

pub returns-in-Ok-Quote-clause-named : goal.returns-in-Ok-Quote-clause-named
returns-in-Ok-Quote-clause-named g c =
    λ e. inl (names_weaker _ _ _ _ _ _ _ _ (λ f it. (record { command = CommandLine.Quote c.in-Ok-Quote.deadline c.in-Ok-Quote.after c.in-Ok-Quote.tree_after; said = words_say _ c.args.said c.requires.read _ _ c.in-Ok-Quote.is c.in-Ok-Quote.field-0-is; is = it })) (c.quote.ensures.named e))

pub returns-in-Err-Help-clause-done : goal.returns-in-Err-Help-clause-done
returns-in-Err-Help-clause-done g c = λ e f. (let none = well_ended _ c.tell.ensures.status e in inl (
  none,
  refl,
  c.tell.ensures.silent none,
  record {
    text = _;
    asked = inl (inl (words_ask _ c.args.said c.requires.read _ _ c.in-Err-Help.is c.in-Err-Help.field-0-is, c.help_of.ensures));
    wrote = c.tell.ensures.done none;
  },
))

pub returns-in-Err-Help-clause-fault : goal.returns-in-Err-Help-clause-fault
returns-in-Err-Help-clause-fault g c = λ e. inr (inl (
  refl,
  record {
    text = _;
    asked = inl (inl (words_ask _ c.args.said c.requires.read _ _ c.in-Err-Help.is c.in-Err-Help.field-0-is, c.help_of.ensures));
    wrote = c.tell.ensures.fault e;
    writer = c.tell.ensures.failed e;
  },
))

pub returns-in-Err-Help-clause-named : goal.returns-in-Err-Help-clause-named
returns-in-Err-Help-clause-named g c =
    λ e. inl (record { fault = Write; came = c.tell.ensures.failed e; line = c.tell.ensures.named e })

pub returns-in-Err-Version-clause-named : goal.returns-in-Err-Version-clause-named
returns-in-Err-Version-clause-named g c =
    λ e. inl (record { fault = Write; came = c.tell-in-Err-Version.ensures.failed e; line = c.tell-in-Err-Version.ensures.named e })

pub returns-in-Err-Usage-clause-not_understood : goal.returns-in-Err-Usage-clause-not_understood
returns-in-Err-Usage-clause-not_understood g c = λ e. (
  words_say_none _ c.args.said c.requires.read _ _ c.in-Err-Usage.is c.in-Err-Usage.field-0-is,
  refl,
  refl,
  c.refuse_line.ensures.said,
)

pub returns-in-Ok-Generate-clause-done : goal.returns-in-Ok-Generate-clause-done
returns-in-Ok-Generate-clause-done g c = λ e f. (let none = well_ended _ c.generate.ensures.status e in let made = c.generate.ensures.done none in inl (
  none,
  refl,
  c.generate.ensures.silent none,
  record {
    text = made.0;
    asked = inr (record { seed = _; lines = _; said = words_say _ c.args.said c.requires.read _ _ c.in-Ok-Generate.is c.in-Ok-Generate.field-0-is; is = made.1 });
    wrote = made.2;
  },
))

pub returns-in-Ok-Generate-clause-fault : goal.returns-in-Ok-Generate-clause-fault
returns-in-Ok-Generate-clause-fault g c = λ e. elim (c.generate.ensures.fault e) [
  | inl kept ↦ inl (refl, kept)
  | inr made ↦ inr (inl (
    refl,
    record {
      text = made.0;
      asked = inr (record { seed = _; lines = _; said = words_say _ c.args.said c.requires.read _ _ c.in-Ok-Generate.is c.in-Ok-Generate.field-0-is; is = made.1 });
      wrote = made.2;
      writer = made.3;
    },
  ))
]

pub returns-in-Ok-Generate-clause-named : goal.returns-in-Ok-Generate-clause-named
returns-in-Ok-Generate-clause-named g c = λ e. inl (names_alone _ _ _ _ _ _ _ _ (λ sound. (c.requires.sound.0, sound)) (c.generate.ensures.named e))

pub returns-clause-named : goal.returns-clause-named
returns-clause-named g c = λ e. inl (record { fault = Memory; came = c.requires.sound; line = c.fail.ensures.named })
