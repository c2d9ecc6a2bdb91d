use Rattle.quote_gateway.proofs.Ending.{main_left}
use Rattle.quote_gateway.proofs.services.serve_by.Goals as goal

pub returns-clause-main : goal.returns-clause-main
returns-clause-main g c =
    let made = c.in_ok-ctx.ensures in
    main_left g.N.RealmName.table c.in_ok-ctx.ctx.token c.ask-found.new.ctx.token made.0 made.1 made.2 c.ask-found.ensures.token.0 c.ask-found.ensures.left
