use Rattle.std.proofs.Common.{◌∙◌, Some, ap, map, sym}
use Rattle.std.proofs.lemmas.Option.{slice_get-get_or}
use Rattle.seg_open.specs.OpenSegment.{terms_in}
use Rattle.seg_generate.specs.SummaryText.{indexed_terms}
use Rattle.seg_tool.proofs.TermSums.{of_all, place_more}
use Rattle.seg_tool.proofs.summary_totals.of_entries.Goals as goal

pub loop-place-init : goal.loop-place-init
loop-place-init c = of_all (indexed_terms c.args.entries.now (map terms_in c.args.reader.now.fields))

pub loop-place-preserved : goal.loop-place-preserved
loop-place-preserved c =
    let schema = c.args.entries.now in
    let place = c.loop-place.place in
    let entry = c.index-entries-place.result in
    let here = slice_get-get_or schema place entry c.loop-place-test.true ∙ ap (λ e. Some e) (sym c.index-entries-place.is) in
    place_more c.loop-place.totals _ _ schema c.args.reader.now.fields place entry c.requires.open here c.in_ok-totals.ensures c.loop-place.invariant
