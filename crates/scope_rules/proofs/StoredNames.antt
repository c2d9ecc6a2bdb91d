-- How the bytes of a name lie: by the test, and by its parts.
use Rattle.std.proofs.Common.{ℕ, ◌++◌, ◌-◌, ◌∙◌, ◌≡◌, ◌≤◌, List, ap, arith, drop, false, length, length-append, replicate, subst, sym, take, true}
use Rattle.scope_rules.specs.{both_true, bytes_eq, filled_up, is_name, is_stored}
use Rattle.scope_rules.proofs.Words.{bytes_eq-Decides, common_steps, drop-append_seam, length-replicate, length-take, nat_tests, take-append-drop, take-append_seam}

-- the text, then zeros
pub record StoredText (len : ℕ) (bytes : List ℕ) : Type 0 where
  pub room : length bytes ≡ 24
  pub fits : len ≤ 24
  pub named : is_name (take len bytes) ≡ true
  pub padded : drop len bytes ≡ replicate (24 - len) 0

fits_24 : (text : List ℕ) → is_name text ≡ true → length text ≤ 24
unfolding is_name
fits_24 text named = grind arith

-- filled up, a name has 24 bytes
room_of : (text : List ℕ) → length text ≤ 24 → length (filled_up text) ≡ 24
unfolding filled_up
room_of text fits = rw length-append (rw length-replicate (omega (arith, fits)))

zeros_after : (len : ℕ) (text : List ℕ) → length text ≡ len → drop len (filled_up text) ≡ replicate (24 - len) 0
unfolding filled_up
zeros_after len text exact =
    subst (λ n. drop n (text ++ replicate (24 - length text) 0) ≡ replicate (24 - n) 0) exact (drop-append_seam text (replicate (24 - length text) 0))

pub stored_parts : (len : ℕ) (bytes : List ℕ) → is_stored len bytes ≡ true → StoredText len bytes
unfolding is_stored
stored_parts len bytes stored =
    let fits : len ≤ 24 = grind (arith, nat_tests) in
    let named : is_name (take len bytes) ≡ true = grind (arith, common_steps) in
    let filled : bytes ≡ filled_up (take len bytes) = (bytes_eq-Decides _ _).0 (grind (arith, common_steps)) in
    let room : length bytes ≡ 24 = ap length filled ∙ room_of (take len bytes) (fits_24 (take len bytes) named) in
    let exact : length (take len bytes) ≡ len = length-take len bytes ∙ omega (arith, fits, room) in
    record { room = room; fits = fits; named = named; padded = ap (drop len) filled ∙ zeros_after len (take len bytes) exact }

pub stored_passes : (len : ℕ) (bytes : List ℕ) → StoredText len bytes → is_stored len bytes ≡ true
unfolding is_stored filled_up
stored_passes len bytes s =
    let exact : length (take len bytes) ≡ len = length-take len bytes ∙ omega (arith, s.fits, s.room) in
    let filled : bytes ≡ take len bytes ++ replicate (24 - length (take len bytes)) 0 =
    rw exact (sym (take-append-drop len bytes) ∙ ap (λ w. take len bytes ++ w) s.padded) in
    let same : bytes_eq bytes (take len bytes ++ replicate (24 - length (take len bytes)) 0) ≡ true = (bytes_eq-Decides _ _).1 filled in
    both_true (both_true (grind (arith, nat_tests, s.fits)) s.named) same

-- a text that may be a name is stored once it is filled up
pub name_is_stored : (text : List ℕ) → is_name text ≡ true → is_stored (length text) (filled_up text) ≡ true
unfolding filled_up
name_is_stored text named =
    let fits = fits_24 text named in
    stored_passes (length text) (text ++ replicate (24 - length text) 0) (record {
      room = room_of text fits;
      fits = fits;
      named = rw take-append_seam named;
      padded = drop-append_seam text (replicate (24 - length text) 0);
    })

-- a text that may not be a name is not
pub other_is_not_stored : (text : List ℕ) → is_name text ≡ false → is_stored (length text) (filled_up text) ≡ false
unfolding is_stored filled_up
other_is_not_stored text other =
    let no : is_name (take (length text) (text ++ replicate (24 - length text) 0)) ≡ false = rw take-append_seam other in
    rw no (grind (arith, common_steps))
