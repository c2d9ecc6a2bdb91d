-- The bytes so far are the text's, and zeros stand after them.
use Rattle.std.proofs.Common.{◌-◌, ◌≡◌, drop, length, replicate, take}
use Rattle.scope_rules.proofs.types.names.Name.new.Given as goal

abbrev pub invariant-loop-i : goal.invariant-loop-i
invariant-loop-i l = record {
  room : length l.bytes ≡ 24;
  copied : take l.i l.bytes ≡ take l.i l.text;
  padded : drop l.i l.bytes ≡ replicate (24 - l.i) 0;
}
