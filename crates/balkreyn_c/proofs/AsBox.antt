-- The place and the parts own what a box at the same types owns.
use Rattle.std.proofs.BoxSteps.Form.{Bx}
use Rattle.balkreyn_c.specs.{IsSome, dict, ghosts}
use Rattle.balkreyn_c.proofs.Lemmas.{[], None, Option, Slot, Some, dnil, impl, plain, refl, tnil}
use mathlib.Core.Path.{◌≡◌}
use Rattle.std_heap.specs.contracts.Global as Heap
use Rattle.std_heap.proofs.Global.TheLaws as heap
use Rattle.balkreyn_c.specs.contracts.timed.TimedRealm as State
use Rattle.balkreyn_c.proofs.timed.TimedRealm.TheLaws as kept
use Rattle.balkreyn_c.specs.contracts.place.parts.Parts as Parts
use Rattle.balkreyn_c.specs.contracts.place.Place as Place

abbrev pub E : Bx
E = record { row = State.the_row; laws = kept.the_row_laws; al = record { row = Heap.the_row; laws = heap.the_row_laws; g = ghosts; d = dict; drops = impl [] tnil dnil } }

abbrev pub FromParts : Slot 0
FromParts = plain (λ _. Parts.the_row State.the_row Heap.the_row ghosts)

abbrev pub FromPlace : Slot 0
FromPlace = plain (λ _. Place.the_row)

-- what is there
pub there : {A : Type 0} (o : Option A) → IsSome o → (x : A) × (o ≡ Some x)
there None h = absurd cc
there (Some x) h = (x, refl)
