-- The words of a dump that no reply has.
use Rattle.tree_dump.specs.Terms.{ℕ, Expiry, List, ScopeStage, codes}
use Rattle.scope_rules.specs.declared.types.events.Expiry.TheVariants as expiry
use Rattle.scope_rules.specs.declared.types.infos.ScopeStage.TheVariants as scope

abbrev pub expiry_word : Expiry → List ℕ
expiry_word expiry.Fail = codes "fail"
expiry_word expiry.MoveOn = codes "move-on"

abbrev pub scope_stage_word : ScopeStage → List ℕ
scope_stage_word scope.Open = codes "open"
scope_stage_word scope.Closing = codes "closing"
scope_stage_word scope.Closed = codes "closed"
