-- What a place owns: nothing, or what a box of a realm with its times owns.
use Rattle.std.specs.Box.Ownership.{box_owns}
use Rattle.balkreyn_c.specs.Words.{Global, None, Option, Some, coded_option, ghosts}
use Rattle.balkreyn_c.specs.contracts.timed.TimedRealm.{the_row}
use base.{Fml.Fml, Fml.ftrue, Stored.Coded}
use denote.RawPtr.{Ptr}

abbrev pub Timed : Type 0
Timed = the_row.Denot

abbrev pub place_owns : Global → Ptr → Option Timed → Fml
place_owns alloc at None = ftrue
place_owns alloc at (Some timed) = box_owns (ghosts.dealloc_token alloc) the_row at timed

abbrev pub place_coded : Coded (Option Timed)
place_coded = coded_option the_row.coded
