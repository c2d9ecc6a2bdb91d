-- Lines that are taken out of a piece at once leave and are answered what their bytes are.
use Rattle.std.proofs.Common.{[], ℕ, ◌++◌, ◌==◌, ◌∙◌, ◌∷◌, ◌≡◌, List, Some, ap, append-nil, append_assoc, false, refl, sym}
use Rattle.scope_script.specs.{AppendsPart, CutsLine, Line, Mode, Session, after_byte, after_bytes, byte_reply, bytes_reply, grown, grown_by, has_feed, line_reply, realm_after_line, said, shown, tally_after_line}
use Rattle.scope_script.proofs.Lemmas.{or_parts}
use Rattle.scope_script.proofs.Scripts.{after_append, after_none, reply_append, reply_none, shown_nothing, told_more}

-- a session whose line has gone on by the bytes
gone_on : Session → List ℕ → Session
gone_on s bytes = record { realm = s.realm; tally = s.tally; begun = grown_by s.begun bytes }

-- a session in which this line has ended
ended_with : Session → Line → Session
ended_with s line = record { realm = realm_after_line s.realm line; tally = tally_after_line s.tally s.realm line; begun = Some [] }

byte_begun : (s : Session) (b : ℕ) → (b == 10) ≡ false → after_byte s b ≡ record { realm = s.realm; tally = s.tally; begun = grown s.begun b }
unfolding after_byte
byte_begun s b is = rw is refl

byte_silent : (s : Session) (b : ℕ) → (b == 10) ≡ false → byte_reply s b ≡ []
unfolding byte_reply
byte_silent s b is = rw is refl

-- bytes without a line feed only begin a line
begun_by : (s : Session) (bytes : List ℕ) → has_feed bytes ≡ false → after_bytes s bytes ≡ gone_on s bytes
unfolding after_bytes grown_by gone_on
begun_by s [] none = refl
begun_by s (b ∷ bytes) none =
    let parts = or_parts (b == 10) (has_feed bytes) none in
    ap (λ (u : Session). after_bytes u bytes) (byte_begun s b parts.0) ∙ begun_by (record { realm = s.realm; tally = s.tally; begun = grown s.begun b }) bytes parts.1

-- and are answered nothing
silent_by : (s : Session) (bytes : List ℕ) → has_feed bytes ≡ false → bytes_reply s bytes ≡ []
unfolding bytes_reply
silent_by s [] none = refl
silent_by s (b ∷ bytes) none =
    let parts = or_parts (b == 10) (has_feed bytes) none in
    ap (λ r. r ++ bytes_reply (after_byte s b) bytes) (byte_silent s b parts.0) ∙ silent_by (after_byte s b) bytes parts.1

feed_after : (s : Session) → after_bytes s (10 ∷ []) ≡ ended_with s (said s.begun)
unfolding after_bytes after_byte ended_with
feed_after s = refl

feed_reply : (s : Session) → bytes_reply s (10 ∷ []) ≡ line_reply s.realm (said s.begun)
unfolding bytes_reply byte_reply
feed_reply s = append-nil (line_reply s.realm (said s.begun))

-- what a line leaves that a line feed ends
line_after : (s : Session) (line : List ℕ) → has_feed line ≡ false → after_bytes s (line ++ 10 ∷ []) ≡ ended_with s (said (grown_by s.begun line))
unfolding gone_on ended_with
line_after s line none = after_append s line (10 ∷ []) ∙ (ap (λ (u : Session). after_bytes u (10 ∷ [])) (begun_by s line none) ∙ feed_after (gone_on s line))

-- and what it is answered
reply_after : (s : Session) (line : List ℕ) → has_feed line ≡ false → bytes_reply s (line ++ 10 ∷ []) ≡ line_reply s.realm (said (grown_by s.begun line))
unfolding gone_on
reply_after s line none =
    reply_append s line (10 ∷ [])
    ∙ (ap (λ r. r ++ bytes_reply (after_bytes s line) (10 ∷ [])) (silent_by s line none)
    ∙ (ap (λ (u : Session). bytes_reply u (10 ∷ [])) (begun_by s line none) ∙ feed_reply (gone_on s line)))

-- the bytes before the rest were taken, and answered
pub record Taken (mode : Mode) (start now : Session) (bytes rest old new : List ℕ) : Type 0 where
  pub done : List ℕ
  pub whole : bytes ≡ done ++ rest
  pub session : now ≡ after_bytes start done
  pub replied : new ≡ old ++ shown mode (bytes_reply start done)

pub takes_none : (mode : Mode) (start : Session) (bytes text : List ℕ) → Taken mode start start bytes bytes text text
takes_none mode start bytes text = record {
  done = [];
  whole = refl;
  session = after_none start;
  replied = reply_none mode start text;
}

-- the text so far, with what more bytes are answered
replies_more : (mode : Mode) (start now : Session) (done more old mid new : List ℕ) → now ≡ after_bytes start done → mid ≡ old ++ shown mode (bytes_reply start done) → new ≡ mid ++ shown mode (bytes_reply now more) → new ≡ old ++ shown mode (bytes_reply start (done ++ more))
replies_more mode start now done more old mid new is so then_new =
    let told = shown mode (bytes_reply start done) in
    then_new ∙ (ap (λ m. m ++ shown mode (bytes_reply now more)) so
    ∙ (append_assoc old told (shown mode (bytes_reply now more))
    ∙ ap (λ r. old ++ r) (ap (λ (u : Session). told ++ shown mode (bytes_reply u more)) is ∙ told_more mode start done more)))

same_session : (s t : Session) → s.realm ≡ t.realm → s.tally ≡ t.tally → s.begun ≡ t.begun → s ≡ t
same_session s t realm tally begun = λ i. record { realm = realm i; tally = tally i; begun = begun i }

-- a line more
pub takes_line : (mode : Mode) (start now next : Session) (bytes rest line others old mid new : List ℕ) (says : Line) → Taken mode start now bytes rest old mid → CutsLine rest line others → says ≡ said (grown_by now.begun line) → next.realm ≡ realm_after_line now.realm says → next.tally ≡ tally_after_line now.tally now.realm says → next.begun ≡ Some [] → new ≡ mid ++ shown mode (line_reply now.realm says) → Taken mode start next bytes others old new
unfolding ended_with
takes_line mode start now next bytes rest line others old mid new says taken cut is realm tally begun told =
    let more = line ++ 10 ∷ [] in
    let cut_so : rest ≡ more ++ others = cut.whole ∙ sym (append_assoc line (10 ∷ []) others) in
    let realm_so : next.realm ≡ realm_after_line now.realm (said (grown_by now.begun line)) = realm ∙ ap (realm_after_line now.realm) is in
    let tally_so : next.tally ≡ tally_after_line now.tally now.realm (said (grown_by now.begun line)) = tally ∙ ap (tally_after_line now.tally now.realm) is in
    let told_so : new ≡ mid ++ shown mode (bytes_reply now more) =
    told ∙ ap (λ r. mid ++ shown mode r) (ap (line_reply now.realm) is ∙ sym (reply_after now line cut.unended)) in
    record {
      done = taken.done ++ more;
      whole = taken.whole ∙ (ap (λ r. taken.done ++ r) cut_so ∙ sym (append_assoc taken.done more others));
      session =
          same_session next (ended_with now (said (grown_by now.begun line))) realm_so tally_so begun
          ∙ (sym (line_after now line cut.unended) ∙ (ap (λ (u : Session). after_bytes u more) taken.session ∙ sym (after_append start taken.done more)));
      replied = replies_more mode start now taken.done more old mid new taken.session taken.replied told_so;
    }

-- the rest ends no line
pub leaves_rest : (mode : Mode) (start now next : Session) (bytes rest old new : List ℕ) → Taken mode start now bytes rest old new → has_feed rest ≡ false → next.realm ≡ now.realm → next.tally ≡ now.tally → next.begun ≡ grown_by now.begun rest → next ≡ after_bytes start bytes
unfolding gone_on
leaves_rest mode start now next bytes rest old new taken none realm tally begun =
    same_session next (gone_on now rest) realm tally begun
    ∙ (sym (begun_by now rest none) ∙ (ap (λ (u : Session). after_bytes u rest) taken.session
    ∙ (sym (after_append start taken.done rest) ∙ ap (after_bytes start) (sym taken.whole))))

pub all_replied : (mode : Mode) (start now : Session) (bytes rest old new : List ℕ) → Taken mode start now bytes rest old new → has_feed rest ≡ false → new ≡ old ++ shown mode (bytes_reply start bytes)
all_replied mode start now bytes rest old new taken none =
    let nothing : new ≡ new ++ shown mode (bytes_reply now rest) = sym (ap (λ r. new ++ r) (ap (shown mode) (silent_by now rest none) ∙ shown_nothing mode) ∙ append-nil new) in
    replies_more mode start now taken.done rest old new new taken.session taken.replied nothing ∙ ap (λ b. old ++ shown mode (bytes_reply start b)) (sym taken.whole)

-- a line more found no memory
pub stops_taking : (mode : Mode) (start now : Session) (bytes rest old mid new : List ℕ) → Taken mode start now bytes rest old mid → new ≡ mid → AppendsPart (Some old) (Some new) (shown mode (bytes_reply start bytes))
stops_taking mode start now bytes rest old mid new taken same = record {
  part = shown mode (bytes_reply start taken.done);
  rest = shown mode (bytes_reply (after_bytes start taken.done) rest);
  whole = ap (λ b. shown mode (bytes_reply start b)) taken.whole ∙ sym (told_more mode start taken.done rest);
  appended = same ∙ taken.replied;
}
