use Rattle.balkreyn_c.specs.{BadWord, DoesLine, Line}
use Rattle.balkreyn_c.proofs.Lemmas.{ℤ, of_z, subst, sym, to_z, to_z-of_z, w64}
use Rattle.balkreyn_c.proofs.Doors.{bad_word, replied}
use Rattle.script_words.specs.declared.commands.Line.TheVariants.{Command as command}
use Rattle.balkreyn_c.proofs.line.do_line.Goals as goal

pub returns-in-BadWord : goal.returns-in-BadWord
returns-in-BadWord c =
    let back = to_z-of_z {w = w64} {z = c.write_reply.result} (record { sfits = c.write_reply.type_inv }) in
    let P : ℤ → Type 0 = λ n. DoesLine c.args.realm.now BadWord n c.args.realm.now c.args.reply.now c.write_reply.new.buffer in
    let Q : Line → Type 0 = λ l. DoesLine c.args.realm.now l (to_z w64 (of_z w64 c.write_reply.result)) c.args.realm.now c.args.reply.now c.write_reply.new.buffer in
    subst Q c.in-BadWord.ensures (subst P (sym back) (bad_word c.args.realm.now c.write_reply.result c.args.reply.now c.write_reply.new.buffer c.write_reply.ensures))

pub returns-in-Answered : goal.returns-in-Answered
returns-in-Answered c =
    let wrote = c.write_reply-in-Answered in
    let back = to_z-of_z {w = w64} {z = wrote.result} (record { sfits = wrote.type_inv }) in
    let P : ℤ → Type 0 = λ n. DoesLine c.args.realm.now (command c.in-Command.command) n c.perform.new.realm c.args.reply.now wrote.new.buffer in
    let Q : Line → Type 0 = λ l. DoesLine c.args.realm.now l (to_z w64 (of_z w64 wrote.result)) c.perform.new.realm c.args.reply.now wrote.new.buffer in
    subst Q c.in-Command.ensures (subst P (sym back) (replied c.args.realm.now c.perform.new.realm c.in-Command.command c.in-Answered.said wrote.result c.args.reply.now wrote.new.buffer c.in-Answered.ensures wrote.ensures))
