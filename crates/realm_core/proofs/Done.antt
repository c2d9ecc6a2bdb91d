-- What a command answers of which there is no more to say than that it was done.
use Rattle.std.proofs.Common.{◌≡◌, Bool, Err, Ok, Result, false, inl, inr, refl}
use Rattle.realm_core.specs.{Answered, Answers, Checked, EventReply, Refusal, done}

pub done_for_sure : (check : Checked) (value : EventReply) (wants : Bool) (result : Result EventReply Refusal) → wants ≡ false → Answered check value wants result → Answers check tt (done result)
done_for_sure (Ok passed) value wants (Ok answer) none said = refl
done_for_sure (Ok passed) value wants (Err r) none said = elim said [ inl by ↦ absurd cc | inr memory ↦ absurd (cc (memory.2, none)) ]
done_for_sure (Err q) value wants (Ok answer) none said = absurd (cc said.0)
done_for_sure (Err q) value wants (Err r) none said = elim said [ inl by ↦ cc | inr memory ↦ absurd (cc memory.0) ]
