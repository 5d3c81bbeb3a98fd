use Rattle.std.proofs.Common.{◌<◌, ◌≤◌, length, drop, sym, ap, ◌∙◌, arith}
use Rattle.std.specs.Prelude.{◌+◌, ◌&&◌, []}
use Rattle.std.proofs.lemmas.List.{drop_all}
use Rattle.seg_merger.specs.Merger.{all_fit}
use Rattle.seg_merger.proofs.FittingFilters.{fit_next, other_number}
use Rattle.seg_merger.proofs.filters.filters_fit.Goals as goal

pub returns-then-filters-segments : goal.returns-then-filters-segments
returns-then-filters-segments c = sym (other_number c.args.filters.now c.args.segments.now c.if-filters-segments.true)

pub returns-then-not-filter_fits : goal.returns-then-not-filter_fits
returns-then-not-filter_fits c =
    let filters = c.args.filters.now in
    let segments = c.args.segments.now in
    let at = c.loop-at.at in
    let within : at < length filters = omega (arith, c.if-filters-segments.false, c.loop-at-test.true) in
    sym (sym c.loop-at.invariant
    ∙ fit_next filters segments at c.index-filters-at.result c.index-segments-at.result within c.loop-at-test.true c.index-filters-at.is c.index-segments-at.is
    ∙ ap (λ b. b && all_fit (drop (at + 1) filters) (drop (at + 1) segments)) (sym c.filter_fits.ensures ∙ c.if-not-filter_fits.true))

pub loop-at-preserved : goal.loop-at-preserved
loop-at-preserved c =
    let filters = c.args.filters.now in
    let segments = c.args.segments.now in
    let at = c.loop-at.at in
    let within : at < length filters = omega (arith, c.if-filters-segments.false, c.loop-at-test.true) in
    sym (fit_next filters segments at c.index-filters-at.result c.index-segments-at.result within c.loop-at-test.true c.index-filters-at.is c.index-segments-at.is
    ∙ ap (λ b. b && all_fit (drop (at + 1) filters) (drop (at + 1) segments)) (sym c.filter_fits.ensures ∙ c.if-not-filter_fits.false))
    ∙ c.loop-at.invariant

pub returns : goal.returns
returns c =
    let filters = c.args.filters.now in
    let segments = c.args.segments.now in
    let at = c.loop-at.at in
    let past : length filters ≤ at = omega (arith, c.if-filters-segments.false, c.loop-at-test.false) in
    sym (ap (λ l. all_fit l (drop at segments)) (drop_all at filters past) ∙ ap (λ l. all_fit [] l) (drop_all at segments c.loop-at-test.false))
    ∙ c.loop-at.invariant
