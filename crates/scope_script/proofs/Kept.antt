-- A script that is taken byte by byte is answered as its lines are.
use Rattle.std.proofs.Common.{[], ℕ, ◌++◌, ◌==◌, ◌∙◌, ◌∷◌, ◌≡◌, Bool, List, ap, false, if◌then◌else◌, length, nat_lt, refl, sym, true}
use Rattle.scope_script.specs.{LINE_LIMIT, Limits, Realm, Session, Tally, after_byte, after_bytes, begun_line, byte_reply, bytes_reply, cut_reply, end_reply, end_tally, ended_lines, kept, line_reply, line_said, no_refusals}
use Rattle.scope_script.specs.{realm_after_line, realm_after_lines, realm_of_script, replies_of, replies_to, starting, tally_after_line, tally_after_lines, tally_of_script, the_beginning, the_start, with_bad_word, with_cut}
use Rattle.scope_script.proofs.Growing.{grown_kept, none_kept, said_kept}

-- a session that has begun this line
on_line : Realm → Tally → List ℕ → Session
on_line realm tally line = record { realm = realm; tally = tally; begun = kept line }

after_if : (realm : Realm) (tally : Tally) (line : List ℕ) (b : ℕ) (ends : Bool) → (b == 10) ≡ ends → after_byte (on_line realm tally line) b ≡ (if ends then on_line (realm_after_line realm (line_said line)) (tally_after_line tally realm (line_said line)) [] else on_line realm tally (line ++ b ∷ []))
unfolding after_byte on_line
after_if realm tally line b true is = rw (is, said_kept line, none_kept) refl
after_if realm tally line b false is = rw (is, grown_kept line b) refl

reply_if : (realm : Realm) (tally : Tally) (line : List ℕ) (b : ℕ) (ends : Bool) → (b == 10) ≡ ends → byte_reply (on_line realm tally line) b ≡ (if ends then line_reply realm (line_said line) else [])
unfolding byte_reply on_line
reply_if realm tally line b true is = rw (is, said_kept line) refl
reply_if realm tally line b false is = rw is refl

told_if : (realm : Realm) (tally : Tally) (line : List ℕ) (b : ℕ) (bytes : List ℕ) (ends : Bool) → (b == 10) ≡ ends
    → bytes_reply (on_line (realm_after_line realm (line_said line)) (tally_after_line tally realm (line_said line)) []) bytes ≡ replies_to (realm_after_line realm (line_said line)) (ended_lines [] bytes)
    → bytes_reply (on_line realm tally (line ++ b ∷ [])) bytes ≡ replies_to realm (ended_lines (line ++ b ∷ []) bytes)
    → bytes_reply (on_line realm tally line) (b ∷ bytes) ≡ replies_to realm (ended_lines line (b ∷ bytes))
unfolding bytes_reply replies_to ended_lines
told_if realm tally line b bytes true is ended more = rw (is, reply_if realm tally line b true is, after_if realm tally line b true is) (ap (λ r. line_reply realm (line_said line) ++ r) ended)
told_if realm tally line b bytes false is ended more = rw (is, reply_if realm tally line b false is, after_if realm tally line b false is) more

-- the bytes are answered as the lines that they end
told : (realm : Realm) (tally : Tally) (line bytes : List ℕ) → bytes_reply (on_line realm tally line) bytes ≡ replies_to realm (ended_lines line bytes)
unfolding bytes_reply replies_to ended_lines
told realm tally line [] = refl
told realm tally line (b ∷ bytes) = told_if realm tally line b bytes (b == 10) refl (told (realm_after_line realm (line_said line)) (tally_after_line tally realm (line_said line)) [] bytes) (told realm tally (line ++ b ∷ []) bytes)

left_if : (realm : Realm) (tally : Tally) (line : List ℕ) (b : ℕ) (bytes : List ℕ) (ends : Bool) → (b == 10) ≡ ends
    → after_bytes (on_line (realm_after_line realm (line_said line)) (tally_after_line tally realm (line_said line)) []) bytes ≡ on_line (realm_after_lines (realm_after_line realm (line_said line)) (ended_lines [] bytes)) (tally_after_lines (tally_after_line tally realm (line_said line)) (realm_after_line realm (line_said line)) (ended_lines [] bytes)) (begun_line [] bytes)
    → after_bytes (on_line realm tally (line ++ b ∷ [])) bytes ≡ on_line (realm_after_lines realm (ended_lines (line ++ b ∷ []) bytes)) (tally_after_lines tally realm (ended_lines (line ++ b ∷ []) bytes)) (begun_line (line ++ b ∷ []) bytes)
    → after_bytes (on_line realm tally line) (b ∷ bytes) ≡ on_line (realm_after_lines realm (ended_lines line (b ∷ bytes))) (tally_after_lines tally realm (ended_lines line (b ∷ bytes))) (begun_line line (b ∷ bytes))
unfolding after_bytes realm_after_lines tally_after_lines ended_lines begun_line
left_if realm tally line b bytes true is ended more = rw (is, after_if realm tally line b true is) ended
left_if realm tally line b bytes false is ended more = rw (is, after_if realm tally line b false is) more

-- and leave what these leave, with the line that is begun
left : (realm : Realm) (tally : Tally) (line bytes : List ℕ) → after_bytes (on_line realm tally line) bytes ≡ on_line (realm_after_lines realm (ended_lines line bytes)) (tally_after_lines tally realm (ended_lines line bytes)) (begun_line line bytes)
unfolding after_bytes realm_after_lines tally_after_lines ended_lines begun_line
left realm tally line [] = refl
left realm tally line (b ∷ bytes) = left_if realm tally line b bytes (b == 10) refl (left (realm_after_line realm (line_said line)) (tally_after_line tally realm (line_said line)) [] bytes) (left realm tally (line ++ b ∷ []) bytes)

cut_if : (realm : Realm) (tally : Tally) (b : ℕ) (line : List ℕ) (long : Bool) → nat_lt LINE_LIMIT (length (b ∷ line)) ≡ long → end_reply (on_line realm tally (b ∷ line)) ≡ cut_reply (b ∷ line)
unfolding on_line kept
cut_if realm tally b line true is = rw is refl
cut_if realm tally b line false is = rw is refl

-- a line that is begun at the end is a bad word
cut_kept : (realm : Realm) (tally : Tally) (line : List ℕ) → end_reply (on_line realm tally line) ≡ cut_reply line
unfolding on_line kept
cut_kept realm tally [] = refl
cut_kept realm tally (b ∷ line) = cut_if realm tally b line (nat_lt LINE_LIMIT (length (b ∷ line))) refl

tally_if : (realm : Realm) (tally : Tally) (b : ℕ) (line : List ℕ) (long : Bool) → nat_lt LINE_LIMIT (length (b ∷ line)) ≡ long → end_tally (on_line realm tally (b ∷ line)) ≡ with_bad_word tally
unfolding on_line kept
tally_if realm tally b line true is = rw is refl
tally_if realm tally b line false is = rw is refl

-- and counts as one
tally_kept : (realm : Realm) (tally : Tally) (line : List ℕ) → end_tally (on_line realm tally line) ≡ with_cut tally line
unfolding on_line kept
tally_kept realm tally [] = refl
tally_kept realm tally (b ∷ line) = tally_if realm tally b line (nat_lt LINE_LIMIT (length (b ∷ line))) refl

begins : (L : Limits) → the_beginning L ≡ on_line (starting L the_start) no_refusals []
unfolding on_line
begins L = ap (λ k. record { realm = starting L the_start; tally = no_refusals; begun = k }) (sym none_kept)

-- what a whole script leaves
all_left : (L : Limits) (bytes : List ℕ) → after_bytes (the_beginning L) bytes ≡ on_line (realm_after_lines (starting L the_start) (ended_lines [] bytes)) (tally_after_lines no_refusals (starting L the_start) (ended_lines [] bytes)) (begun_line [] bytes)
all_left L bytes = ap (λ (s : Session). after_bytes s bytes) (begins L) ∙ left (starting L the_start) no_refusals [] bytes

-- a whole script is answered as its lines are
pub script_replies : (L : Limits) (bytes : List ℕ) → replies_of L bytes ≡ bytes_reply (the_beginning L) bytes ++ end_reply (after_bytes (the_beginning L) bytes)
unfolding replies_of
script_replies L bytes =
    rw (all_left L bytes, begins L, told (starting L the_start) no_refusals [] bytes, cut_kept (realm_after_lines (starting L the_start) (ended_lines [] bytes)) (tally_after_lines no_refusals (starting L the_start) (ended_lines [] bytes)) (begun_line [] bytes)) refl

-- and leaves what these leave
pub script_leaves : (L : Limits) (bytes : List ℕ) → (after_bytes (the_beginning L) bytes).realm ≡ realm_of_script L bytes
unfolding realm_of_script on_line
script_leaves L bytes = ap (λ (s : Session). s.realm) (all_left L bytes)

-- and as many of its lines are refused
pub script_tallies : (L : Limits) (bytes : List ℕ) → end_tally (after_bytes (the_beginning L) bytes) ≡ tally_of_script L bytes
unfolding tally_of_script
script_tallies L bytes =
    ap end_tally (all_left L bytes) ∙ tally_kept (realm_after_lines (starting L the_start) (ended_lines [] bytes)) (tally_after_lines no_refusals (starting L the_start) (ended_lines [] bytes)) (begun_line [] bytes)
