use Rattle.std.proofs.Common.{◌≡◌, ◌∙◌, ℕ, List, Ok, ap, arith, length, refl, subst, take}
use Rattle.std.proofs.lemmas.Option.{slice_get_read}
use Rattle.seg_open.specs.OpeningSteps.{Asked, OpensSegments, asked_of}
use Rattle.seg_open.proofs.OpeningSteps.{all_asked, as_many, asked_at, fits_at, opens_turn, stops_turn}
use Rattle.seg_open.proofs.opened_segments.open_segments.Goals as goal

pub bounds-filters-at : goal.bounds-filters-at
bounds-filters-at g c = omega (arith, c.loop-at-test.true, as_many c.args.filters.now c.args.segments.now c.requires.fit)

pub open_next-requires : goal.open_next-requires
open_next-requires g c =
    let segments = c.args.segments.now in
    let filters = c.args.filters.now in
    let at = c.loop-at.at in
    let s = c.index-segments-at.result in
    let f = c.index-filters-at.result in
    let found = slice_get_read segments _ at s refl c.loop-at-test.true c.index-segments-at.is in
    let there = slice_get_read filters _ at f refl (omega (arith, c.loop-at-test.true, as_many filters segments c.requires.fit)) c.index-filters-at.is in
    record { fits = fits_at filters segments c.requires.fit at f s there found }

pub returns-in-Err : goal.returns-in-Err
returns-in-Err g c =
    let segments = c.args.segments.now in
    let filters = c.args.filters.now in
    let at = c.loop-at.at in
    let s = c.index-segments-at.result in
    let f = c.index-filters-at.result in
    let found = slice_get_read segments _ at s refl c.loop-at-test.true c.index-segments-at.is in
    let there = slice_get_read filters _ at f refl (omega (arith, c.loop-at-test.true, as_many filters segments c.requires.fit)) c.index-filters-at.is in
    stops_turn (asked_of segments filters) at (record { segment = s; custom = f }) (asked_at segments filters at s f found there) c.loop-at.opened.items _ _ _ c.loop-at.invariant c.in-Err.e c.in-Err.ensures

pub loop-at-preserved : goal.loop-at-preserved
loop-at-preserved g c =
    let segments = c.args.segments.now in
    let filters = c.args.filters.now in
    let at = c.loop-at.at in
    let s = c.index-segments-at.result in
    let f = c.index-filters-at.result in
    let found = slice_get_read segments _ at s refl c.loop-at-test.true c.index-segments-at.is in
    let there = slice_get_read filters _ at f refl (omega (arith, c.loop-at-test.true, as_many filters segments c.requires.fit)) c.index-filters-at.is in
    let here = c.in-Ok.ensures in
    opens_turn (asked_of segments filters) at (record { segment = s; custom = f }) (asked_at segments filters at s f found there) c.loop-at.opened.items _ _ _ c.loop-at.invariant c.open_next.new.opened.items here.0 here.1 here.2

pub returns : goal.returns
returns g c =
    let segments = c.args.segments.now in
    let asked = asked_of segments c.args.filters.now in
    let at_end : c.loop-at.at ≡ length segments = omega (arith, c.loop-at-test.false, c.loop-at.auto.at-end) in
    subst (λ (l : List Asked). OpensSegments l (Ok c.loop-at.opened.items) (g.W.Directory.state c.args.directory.now) (g.W.Directory.state c.loop-at.directory)) (ap (λ (n : ℕ). take n asked) at_end ∙ all_asked segments c.args.filters.now) c.loop-at.invariant
