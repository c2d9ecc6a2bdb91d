-- A scope is closed where its first close stands before the place.
use Rattle.run_picture.specs.{ℕ, Option, false, nat_lt, option_map_or}
use Rattle.run_picture.proofs.Lemmas.{◌∙◌, ap, closed_at_place, kept_first, sym}
use Rattle.run_picture.proofs.arounds.closed_before.Goals as goal

pub returns-in-Some : goal.returns-in-Some
returns-in-Some g c =
    let h = g.R.Readings.history c.args.readings.now in
    let is = kept_first h c.args.closes.now c.args.scope c.place.result c.requires.closes c.requires.opened c.place.ensures in
    ap (λ (o : Option ℕ). option_map_or (λ j. nat_lt j c.args.place) o false) (sym c.in-Some.is ∙ is) ∙ sym (closed_at_place h c.args.scope c.args.place c.requires.within)

pub returns-in-None : goal.returns-in-None
returns-in-None g c =
    let h = g.R.Readings.history c.args.readings.now in
    let is = kept_first h c.args.closes.now c.args.scope c.place.result c.requires.closes c.requires.opened c.place.ensures in
    ap (λ (o : Option ℕ). option_map_or (λ j. nat_lt j c.args.place) o false) (sym c.in-None.is ∙ is) ∙ sym (closed_at_place h c.args.scope c.args.place c.requires.within)
