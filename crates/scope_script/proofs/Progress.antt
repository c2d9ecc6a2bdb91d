-- How a run comes on: what it has read, written and left behind.
use Rattle.std.proofs.Common.{[], ℕ, ◌++◌, ◌∙◌, ◌≡◌, List, Option, Some, ap, append-nil, append_assoc, refl, subst, sym, take}
use Rattle.scope_script.specs.{Appends, AppendsPart, Consumes, IsAtEnd, Keeps, Limits, Mode, Realm, RunsPartly, RunsTallied, RunsText, RunsToEnd, Session, Tally, after_bytes, bytes_reply, end_reply, end_tally, realm_of_script}
use Rattle.scope_script.specs.{replies_of, shown, tally_of_script, the_beginning}
use Rattle.scope_script.proofs.Lemmas.{Appends-nil, Appends-trans, Consumes-kept, Consumes-nil, Consumes-trans}
use Rattle.scope_script.proofs.{Kept.script_leaves, Kept.script_replies, Kept.script_tallies, Scripts.after_append, Scripts.after_none, Scripts.reply_none, Scripts.shown_append, Scripts.told_more}

-- the run is under way: it answered all that it read so far
pub record UnderWay (unread unread_now written written_now : Option (List ℕ)) (mode : Mode) (L : Limits) (now : Session) : Type 0 where
  pub script : List ℕ
  pub read : Consumes unread unread_now script
  pub replied : Appends written written_now (shown mode (bytes_reply (the_beginning L) script))
  pub session : now ≡ after_bytes (the_beginning L) script

-- a beginning of a beginning is a beginning
pub part_of_part : (old new : Option (List ℕ)) (bs part rest : List ℕ) → bs ≡ part ++ rest → AppendsPart old new part → AppendsPart old new bs
part_of_part old new bs part rest is done = record {
  part = done.part;
  rest = done.rest ++ rest;
  whole = is ∙ (ap (λ p. p ++ rest) done.whole ∙ append_assoc done.part done.rest rest);
  appended = done.appended;
}

pub part_of_all : (old new : Option (List ℕ)) (bs part rest : List ℕ) → bs ≡ part ++ rest → Appends old new part → AppendsPart old new bs
part_of_all old new bs part rest is done = record { part = part; rest = rest; whole = is; appended = done }

-- what is written after some bytes is a beginning of what goes on after them
part_after : (a b c : Option (List ℕ)) (xs ys : List ℕ) → Appends a b xs → AppendsPart b c ys → AppendsPart a c (xs ++ ys)
part_after a b c xs ys first then_part = record {
  part = xs ++ then_part.part;
  rest = then_part.rest;
  whole = ap (λ y. xs ++ y) then_part.whole ∙ sym (append_assoc xs then_part.part then_part.rest);
  appended = Appends-trans a b c xs then_part.part first then_part.appended;
}

-- a run begins
pub begins_run : (a x : Option (List ℕ)) (mode : Mode) (L : Limits) (s : Session) → s ≡ the_beginning L → UnderWay a a x x mode L s
begins_run a x mode L s is = record {
  script = [];
  read = Consumes-nil a;
  replied = subst (Appends x x) (reply_none mode (the_beginning L) []) (Appends-nil x);
  session = is ∙ after_none (the_beginning L);
}

-- it goes on by a piece
pub goes_on : (a b c x y z : Option (List ℕ)) (mode : Mode) (L : Limits) (s t : Session) (piece : List ℕ) → UnderWay a b x y mode L s → Consumes b c piece → Appends y z (shown mode (bytes_reply s piece)) → t ≡ after_bytes s piece → UnderWay a c x z mode L t
goes_on a b c x y z mode L s t piece run read written is =
    let start = the_beginning L in
    let told = shown mode (bytes_reply start run.script) in
    let more = ap (λ (u : Session). told ++ shown mode (bytes_reply u piece)) run.session ∙ told_more mode start run.script piece in
    record {
      script = run.script ++ piece;
      read = Consumes-trans a b c run.script piece run.read read;
      replied = subst (Appends x z) more (Appends-trans x y z told (shown mode (bytes_reply s piece)) run.replied written);
      session = is ∙ (ap (λ (u : Session). after_bytes u piece) run.session ∙ sym (after_append start run.script piece));
    }

-- all that is answered to a script is what its bytes are and what its end is
all_shown : (mode : Mode) (L : Limits) (script : List ℕ) → shown mode (bytes_reply (the_beginning L) script) ++ shown mode (end_reply (after_bytes (the_beginning L) script)) ≡ shown mode (replies_of L script)
all_shown mode L script = sym (shown_append mode (bytes_reply (the_beginning L) script) (end_reply (after_bytes (the_beginning L) script))) ∙ ap (shown mode) (sym (script_replies L script))

-- it ends
pub ends_run : (a b x y z : Option (List ℕ)) (mode : Mode) (L : Limits) (s : Session) (realm : Realm) → UnderWay a b x y mode L s → IsAtEnd b → Appends y z (shown mode (end_reply s)) → realm ≡ s.realm → RunsToEnd a b x z mode L realm
ends_run a b x y z mode L s realm run end written is =
    let told = shown mode (bytes_reply (the_beginning L) run.script) in
    let whole = ap (λ (u : Session). told ++ shown mode (end_reply u)) run.session ∙ all_shown mode L run.script in
    record {
      script = run.script;
      read = run.read;
      all = end;
      replied = subst (Appends x z) whole (Appends-trans x y z told (shown mode (end_reply s)) run.replied written);
      left = is ∙ (ap (λ (u : Session). u.realm) run.session ∙ script_leaves L run.script);
    }

-- and so many lines were refused
pub ends_tallied : (a b x y z : Option (List ℕ)) (mode : Mode) (L : Limits) (s : Session) (realm : Realm) (tally : Tally) → UnderWay a b x y mode L s → IsAtEnd b → Appends y z (shown mode (end_reply s)) → realm ≡ s.realm → tally ≡ end_tally s → RunsTallied a b x z mode L realm tally
unfolding ends_run
ends_tallied a b x y z mode L s realm tally run end written is counted = record {
  ends = ends_run a b x y z mode L s realm run end written is;
  counted = counted ∙ (ap end_tally run.session ∙ script_tallies L run.script);
}

-- it stops if a read fails
pub stops_reading : (a b c x y : Option (List ℕ)) (mode : Mode) (L : Limits) (s : Session) → UnderWay a b x y mode L s → Keeps b c → RunsPartly a c x y mode L
stops_reading a b c x y mode L s run same = record {
  script = run.script;
  read = Consumes-kept a b c run.script run.read same;
  replied = part_of_all x y _ _ _ (sym (all_shown mode L run.script)) run.replied;
}

-- it stops at the end of the script
pub stops_ending : (a b x y z : Option (List ℕ)) (mode : Mode) (L : Limits) (s : Session) → UnderWay a b x y mode L s → AppendsPart y z (shown mode (end_reply s)) → RunsPartly a b x z mode L
stops_ending a b x y z mode L s run written =
    let told = shown mode (bytes_reply (the_beginning L) run.script) in
    let whole = ap (λ (u : Session). told ++ shown mode (end_reply u)) run.session ∙ all_shown mode L run.script in
    record {
      script = run.script;
      read = run.read;
      replied = subst (AppendsPart x z) whole (part_after x y z told (shown mode (end_reply s)) run.replied written);
    }

-- it stops within a piece
pub stops_within : (a b c x y z : Option (List ℕ)) (mode : Mode) (L : Limits) (s : Session) (piece : List ℕ) → UnderWay a b x y mode L s → Consumes b c piece → AppendsPart y z (shown mode (bytes_reply s piece)) → RunsPartly a c x z mode L
stops_within a b c x y z mode L s piece run read written =
    let start = the_beginning L in
    let told = shown mode (bytes_reply start run.script) in
    let more = ap (λ (u : Session). told ++ shown mode (bytes_reply u piece)) run.session ∙ told_more mode start run.script piece in
    let some = subst (AppendsPart x z) more (part_after x y z told (shown mode (bytes_reply s piece)) run.replied written) in
    record {
      script = run.script ++ piece;
      read = Consumes-trans a b c run.script piece run.read read;
      replied = part_of_part x z _ _ _ (sym (all_shown mode L (run.script ++ piece))) some;
    }

-- a read of nothing
pub reads_none : (a b c x y : Option (List ℕ)) (mode : Mode) (L : Limits) (s : Session) (piece : List ℕ) (n : ℕ) → n ≡ 0 → UnderWay a b x y mode L s → Consumes b c (take n piece) → UnderWay a c x y mode L s
reads_none a b c x y mode L s piece n none run read =
    let nothing : run.script ++ take n piece ≡ run.script = rw none (append-nil run.script) in
    record {
      script = run.script;
      read = subst (Consumes a c) nothing (Consumes-trans a b c run.script (take n piece) run.read read);
      replied = run.replied;
      session = run.session;
    }

-- ---- a script that is at hand as a whole

module _ (x : Option (List ℕ)) (mode : Mode) (L : Limits) (s : Session) (script : List ℕ) (begins : s ≡ the_beginning L) where
  nothing_left : Consumes (Some script) (Some []) script
  nothing_left = sym (append-nil script)

  text_taken : (y : Option (List ℕ)) (t : Session) → Appends x y (shown mode (bytes_reply s script)) → t ≡ after_bytes s script → UnderWay (Some script) (Some []) x y mode L t
  text_taken y t written is = goes_on (Some script) (Some script) (Some []) x x y mode L s t script (begins_run (Some script) x mode L s begins) nothing_left written is

  same_script : (read : List ℕ) → script ≡ read ++ [] → read ≡ script
  same_script read is = sym (is ∙ append-nil read)

  pub text_ends : (y z : Option (List ℕ)) (t : Session) (realm : Realm) (tally : Tally) → Appends x y (shown mode (bytes_reply s script)) → t ≡ after_bytes s script → Appends y z (shown mode (end_reply t)) → realm ≡ t.realm → tally ≡ end_tally t
      → RunsText x z mode L script realm tally
  text_ends y z t realm tally written is ended left counted =
      let run = ends_tallied (Some script) (Some []) x y z mode L t realm tally (text_taken y t written is) refl ended left counted in
      let same = same_script run.ends.script run.ends.read in
      record {
        replied = subst (λ bytes. Appends x z (shown mode (replies_of L bytes))) same run.ends.replied;
        left = subst (λ bytes. realm ≡ realm_of_script L bytes) same run.ends.left;
        counted = subst (λ bytes. tally ≡ tally_of_script L bytes) same run.counted;
      }

  pub text_stops : (y : Option (List ℕ)) → AppendsPart x y (shown mode (bytes_reply s script)) → AppendsPart x y (shown mode (replies_of L script))
  text_stops y written =
      let run = stops_within (Some script) (Some script) (Some []) x x y mode L s script (begins_run (Some script) x mode L s begins) nothing_left written in
      subst (λ bytes. AppendsPart x y (shown mode (replies_of L bytes))) (same_script run.script run.read) run.replied

  pub text_stops_ending : (y z : Option (List ℕ)) (t : Session) → Appends x y (shown mode (bytes_reply s script)) → t ≡ after_bytes s script → AppendsPart y z (shown mode (end_reply t)) → AppendsPart x z (shown mode (replies_of L script))
  text_stops_ending y z t written is ended =
      let run = stops_ending (Some script) (Some []) x y z mode L t (text_taken y t written is) ended in
      subst (λ bytes. AppendsPart x z (shown mode (replies_of L bytes))) (same_script run.script run.read) run.replied

-- nothing is a beginning of anything
pub nothing_yet : (x : Option (List ℕ)) (bytes : List ℕ) → AppendsPart x x bytes
nothing_yet x bytes = part_of_all x x bytes [] bytes refl (Appends-nil x)
