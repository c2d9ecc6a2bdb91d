-- What was closed is whole.
use Rattle.std.proofs.Common.{ap}
use Rattle.scope_rules.specs.Replies.{Realm}
use Rattle.scope_rules.proofs.ClosingScopes.{end_closes_whole}
use Rattle.scope_book.proofs.state.book.BookState.end_close.Goals as goal

pub returns-clause-whole : goal.returns-clause-whole
returns-clause-whole g c =
    let ended = rw c.in-Closed.is at c.in_ok-told.ensures.1 in
    end_closes_whole _ _ _ c.args.actor c.args.scope c.limits-legal.ensures.ruled.legal (ap (λ (r : Realm). r.history) ended)
