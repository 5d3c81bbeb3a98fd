use Rattle.std.proofs.Common.{◌++◌, ◌+◌, ◌∙◌, Some, ap, sym, drop, map}
use Rattle.std.specs.List.{slice_get}
use Rattle.std.proofs.lemmas.Option.{slice_get-get_or}
use Rattle.seg_open.specs.OpenSegment.{terms_in}
use Rattle.seg_text.specs.FieldText.{fields_text}
use Rattle.seg_tool.specs.Printing.{opened_text}
use Rattle.seg_tool.proofs.Printed.{places_more}
use Rattle.seg_tool.proofs.segment_text.push_entries.Goals as goal

pub loop-place-preserved : goal.loop-place-preserved
loop-place-preserved c =
    let schema = c.args.entries.now in
    let fields = c.args.reader.now.fields in
    let place = c.loop-place.place in
    let entry = c.index-entries-place.result in
    let here = slice_get-get_or schema place entry c.loop-place-test.true ∙ ap (λ e. Some e) (sym c.index-entries-place.is) in
    ap (λ xs. xs ++ fields_text (drop (place + 1) schema) (map terms_in (drop (place + 1) fields))) (c.in_ok-push_place.ensures ∙ ap (λ name. c.loop-place.out.items ++ opened_text name (slice_get fields place)) c.as_str.ensures)
    ∙ places_more c.loop-place.out.items schema fields place entry c.requires.open here
    ∙ c.loop-place.invariant
