-- Scripts that are put together.
use Rattle.std.proofs.Common.{[], ℕ, ◌++◌, ◌∙◌, ◌∷◌, ◌≡◌, List, ap, append-nil, append_assoc, refl, sym}
use Rattle.scope_script.specs.{Mode, Quiet, Replies, Session, after_byte, after_bytes, byte_reply, bytes_reply, shown}

pub shown_append : (mode : Mode) (xs ys : List ℕ) → shown mode (xs ++ ys) ≡ shown mode xs ++ shown mode ys
shown_append Replies xs ys = refl
shown_append Quiet xs ys = refl

pub after_append : (s : Session) (xs ys : List ℕ) → after_bytes s (xs ++ ys) ≡ after_bytes (after_bytes s xs) ys
unfolding after_bytes
after_append s [] ys = refl
after_append s (x ∷ xs) ys = after_append (after_byte s x) xs ys

pub reply_append : (s : Session) (xs ys : List ℕ) → bytes_reply s (xs ++ ys) ≡ bytes_reply s xs ++ bytes_reply (after_bytes s xs) ys
unfolding after_bytes bytes_reply
reply_append s [] ys = refl
reply_append s (x ∷ xs) ys = ap (λ r. byte_reply s x ++ r) (reply_append (after_byte s x) xs ys) ∙ sym (append_assoc (byte_reply s x) (bytes_reply (after_byte s x) xs) (bytes_reply (after_bytes (after_byte s x) xs) ys))

-- what is answered to some bytes, and then to those that go on after them
pub told_more : (mode : Mode) (s : Session) (xs ys : List ℕ) → shown mode (bytes_reply s xs) ++ shown mode (bytes_reply (after_bytes s xs) ys) ≡ shown mode (bytes_reply s (xs ++ ys))
told_more mode s xs ys = sym (shown_append mode (bytes_reply s xs) (bytes_reply (after_bytes s xs) ys)) ∙ ap (shown mode) (sym (reply_append s xs ys))

pub after_none : (s : Session) → s ≡ after_bytes s []
unfolding after_bytes
after_none s = refl

pub shown_nothing : (mode : Mode) → shown mode [] ≡ []
shown_nothing Replies = refl
shown_nothing Quiet = refl

pub reply_none : (mode : Mode) (s : Session) (text : List ℕ) → text ≡ text ++ shown mode (bytes_reply s [])
unfolding bytes_reply
reply_none mode s text = rw (shown_nothing mode) (sym (append-nil text))
