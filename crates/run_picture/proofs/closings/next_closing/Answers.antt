-- What closes a scope, by what is kept of the scope around it.
use Rattle.std.specs.Prelude.{◌+◌, ◌≡◌}
use Rattle.run_picture.specs.{ℕ, None, Option, Some, begins_to_close, length, own_around, sooner}
use Rattle.run_picture.proofs.Lemmas.{◌∙◌, ap, arith, refl, sym}
use Rattle.run_picture.proofs.Covered.{begins_next, own_index}
use Rattle.run_picture.proofs.closings.next_closing.Goals as goal

alone : (a : Option ℕ) → a ≡ sooner a None
alone None = refl
alone (Some x) = refl

pub returns-in-None : goal.returns-in-None
returns-in-None g c =
    let h = g.R.Readings.history c.args.readings.now in
    let s = h.base.scopes + 1 + length c.args.closings.now.places.items in
    alone c.args.begin ∙ (ap (λ b. sooner b None) c.requires.begin ∙ sym (begins_next h s None (sym c.requires.own ∙ c.in-None.is)))

pub returns-in-Some : goal.returns-in-Some
returns-in-Some g c =
    let h = g.R.Readings.history c.args.readings.now in
    let n = length c.args.closings.now.places.items in
    let s = h.base.scopes + 1 + n in
    let own = c.in-Some.own in
    let around : own_around h s ≡ Some own = sym c.requires.own ∙ c.in-Some.is in
    let index = own_index h n own around in
    let kept = c.requires.closings in
    let place : c.place.result ≡ begins_to_close h own = c.place.ensures index.0 (omega (arith, index.2, kept.from)) index.1 ∙ (kept.each index.0 index.1 ∙ ap (begins_to_close h) (sym index.2)) in
    c.sooner.ensures ∙ (ap (sooner c.args.begin) place ∙ (ap (λ b. sooner b (begins_to_close h own)) c.requires.begin ∙ sym (begins_next h s (Some own) around)))
