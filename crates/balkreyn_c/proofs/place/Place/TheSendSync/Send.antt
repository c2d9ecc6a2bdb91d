-- A place may go to another thread: what it owns is the realm with its times alone, which may.
use Rattle.balkreyn_c.specs.{Global, Owning.Timed, contracts.place.Place.the_row, contracts.place.Place.the_type, place_owns}
use Rattle.balkreyn_c.proofs.Lemmas.{AllSend, IsSend, Keyless, None, Option, Ptr, Some, exits_of, fields, lies, lone, owning_send, quiet, sendable, shape, struct_send, to}
use mir.Raw.{raw}
use Rattle.std.proofs.Crossing as heap
use Rattle.std_heap.proofs.Global.TheSendSync as handle
use Rattle.balkreyn_c.specs.contracts.timed.TimedRealm as State
use Rattle.balkreyn_c.proofs.timed.TimedRealm.TheSendSync.{the_send as kept}

keyless : (alloc : Global) (at : Ptr) (held : Option Timed) → Keyless (place_owns alloc at held)
keyless alloc at None = tt
keyless alloc at (Some timed) = (lies State.the_row kept at timed, heap.frees.frees alloc (raw (lone State.the_row.mir)) at)

pub send : IsSend the_row
send =
    let all : AllSend (fields the_type) = (search sendable, (handle.the_field_send, tt)) in
    owning_send the_type all (λ d. keyless d.alloc d.at d.held)
    (λ k. quiet (to the_type) (exits_of k (fields the_type)) ((struct_send (shape the_type) all).leaving k))
