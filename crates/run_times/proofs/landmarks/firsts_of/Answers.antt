-- The first places of the events so far, and one event more.
use Rattle.std.proofs.Common.{◌+◌, ◌∙◌, ◌≡◌, None, ap, arith, get_or, length, refl}
use Rattle.run_times.specs.{earliest, first_place, named_at, noted_in}
use Rattle.run_times.proofs.Words.{slice_get_read}
use Rattle.run_times.proofs.Landed.{noted_more}
use Rattle.run_times.proofs.landmarks.firsts_of.Goals as goal

pub loop-place-init : goal.loop-place-init
unfolding earliest
loop-place-init c = record { long = c.in_ok-places.ensures.long; each = c.in_ok-places.ensures.each }

pub loop-place-preserved : goal.loop-place-preserved
loop-place-preserved c = record {
  long = c.note.ensures.long ∙ c.loop-place.invariant.long;
  each = λ k small.
      let old = c.note.ensures.each k (omega (arith, c.loop-place.invariant.long)) in
      let there = slice_get_read c.args.events.now (length c.args.events.now) c.loop-place.place c.index-events-place.result refl c.loop-place-test.true c.index-events-place.is in
      old ∙ ap (λ n. noted_in c.args.before n c.loop-place.place k (get_or c.loop-place.places.items k None)) c.named.ensures ∙ noted_more c.args.landmark c.args.events.now c.args.before k c.loop-place.place c.index-events-place.result (get_or c.loop-place.places.items k None) there (c.loop-place.invariant.each k small);
}

pub returns : goal.returns
unfolding first_place
returns c =
    let whole : c.loop-place.place ≡ length c.args.events.now = omega arith in
    record {
      from = refl;
      long = c.loop-place.invariant.long;
      each = λ k small. c.loop-place.invariant.each k small ∙ ap (earliest (named_at c.args.landmark c.args.events.now (c.args.before + 1 + k))) whole;
    }
