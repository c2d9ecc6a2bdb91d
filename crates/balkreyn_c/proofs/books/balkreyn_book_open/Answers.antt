use Rattle.balkreyn_c.proofs.Lemmas.{◌∙◌, sym}
use Rattle.balkreyn_c.proofs.Opened.{holds_none, opened}
use Rattle.balkreyn_c.proofs.books.balkreyn_book_open.Goals as goal

pub returns-in-Ok : goal.returns-in-Ok
returns-in-Ok c =
    let book = c.args.book.now in
    opened book.place.held _ c.args.scopes c.args.tasks c.args.load c.in-Ok.timed.value (holds_none book.place.held book.word book.fits (sym c.swapped-found.ensures.was ∙ c.if-found-ne-EMPTY.false)) c.in-Ok.ensures c.put.ensures.holds
