-- What is left behind the reference is the number's entry.
use Rattle.scope_rows.proofs.Words.{refl, rules}
use Rattle.scope_rows.proofs.Entries.{entry_written}
use Rattle.scope_rows.proofs.numbered.Numbered.get_mut.Goals as goal

pub returns : goal.returns
returns g c =
    ((refl, λ w. entry_written _ c.args.self.now c.args.number c.place-at.result w c.self.view_is (search rules) c.requires), record { writes_back = tt; value = search rules })
