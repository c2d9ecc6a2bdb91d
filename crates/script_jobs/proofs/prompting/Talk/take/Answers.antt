use Rattle.script_jobs.specs.{plain_of}
use Rattle.script_jobs.proofs.Words.{◌∙◌, sym}
use Rattle.script_jobs.proofs.Standing.{stands_more}
use Rattle.script_jobs.proofs.prompting.Talk.take.Goals as goal

pub returns-clause-stands : goal.returns-clause-stands
returns-clause-stands g c =
    stands_more c.extend_from_slice-2.result c.refresh.new.self.limits (plain_of c.refresh.new.self.script) (plain_of c.take.new.self) c.refresh.new.self.lines.items c.deref.result.now c.deref-2.result.now c.extend_from_slice-2.new.self.items
    c.in_ok-refresh.ensures.stands c.in_ok-take.ensures.plain (c.deref-2.ensures.value ∙ sym c.deref.ensures.value) c.extend_from_slice-2.ensures.items
