use Rattle.std.proofs.Common.{◌+◌, ◌++◌, ◌∙◌, [], Some, ap, sym, drop}
use Rattle.std.specs.Prelude.{unwrap_or}
use Rattle.std.proofs.lemmas.Option.{slice_get-get_or}
use Rattle.seg_directory.specs.CompositeFiles.{field_of}
use Rattle.seg_norms.specs.StoredNorms.{norms_of}
use Rattle.seg_text.specs.NormsText.{norms_text}
use Rattle.seg_tool.proofs.Printed.{norms_at_place, norms_more}
use Rattle.seg_tool.proofs.norm_lines.push_entries.Goals as goal

pub loop-place-preserved : goal.loop-place-preserved
loop-place-preserved c =
    let schema = c.args.entries.now in
    let parts = c.args.norms.now in
    let place = c.loop-place.place in
    let entry = c.index-entries-place.result in
    let here = slice_get-get_or schema place entry c.loop-place-test.true ∙ ap (λ e. Some e) (sym c.index-entries-place.is) in
    ap (λ xs. xs ++ norms_text (drop (place + 1) schema) (drop (place + 1) (norms_of schema parts))) c.in_ok-push_entry.ensures
    ∙ norms_more c.loop-place.out.items schema (norms_of schema parts) place entry (unwrap_or (field_of parts place) []) here (norms_at_place parts schema place entry here)
    ∙ c.loop-place.invariant
