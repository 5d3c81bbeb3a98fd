use Rattle.std.proofs.Common.{◌≡◌, ◌≤◌, length, Some, sym, refl, ap, subst, ◌∙◌, arith}
use Rattle.std.specs.Prelude.{IfSome}
use Rattle.std.specs.List.{slice_get}
use Rattle.std.proofs.lemmas.Option.{slice_get_read}
use Rattle.seg_directory.specs.CompositeFiles.{low_after}
use Rattle.seg_model.specs.Fields.{is_indexed}
use Rattle.seg_segment.specs.WrittenFields.{AddsIfIndexed}
use Rattle.seg_segment.proofs.FieldSequences.{none_written, ascends, one_written, have_fields}
use Rattle.seg_segment.proofs.terms_by_field.write_fields.Goals as goal

pub loop-at-init : goal.loop-at-init
loop-at-init g c = none_written (g.T.TermsByField.total c.args.terms.now) (g.T.TermsByField.has c.args.terms.now) c.args.schema.now c.new-files.result c.new-files.ensures

pub write_field-requires-clause-can : goal.write_field-requires-clause-can
write_field-requires-clause-can g c on =
    let entries = c.fields-entries.result.now in
    let entry = c.index-entries-at.result in
    let at : slice_get c.args.schema.now c.loop-at.at ≡ Some entry = ap (λ s. slice_get s c.loop-at.at) (sym c.fields-entries.ensures) ∙ slice_get_read entries (length entries) c.loop-at.at entry refl c.loop-at-test.true c.index-entries-at.is in
    subst (g.T.TermsByField.can_write c.args.terms.now) (sym c.from_field_id-field.ensures) (c.requires c.loop-at.at entry at on)

pub write_field-requires-clause-ascends : goal.write_field-requires-clause-ascends
write_field-requires-clause-ascends g c =
    subst (λ n. IfSome c.loop-at.files (λ f. (low_after 0 f.terms ≤ n) × (low_after 0 f.postings ≤ n) × (low_after 0 f.positions ≤ n))) (sym c.from_field_id-field.ensures)
    (ascends (g.T.TermsByField.total c.args.terms.now) (g.T.TermsByField.has c.args.terms.now) c.args.schema.now c.loop-at.at c.loop-at.files c.loop-at.invariant)

pub loop-at-preserved : goal.loop-at-preserved
loop-at-preserved g c =
    let entries = c.fields-entries.result.now in
    let entry = c.index-entries-at.result in
    let total = g.T.TermsByField.total c.args.terms.now in
    let Has = g.T.TermsByField.has c.args.terms.now in
    let at : slice_get c.args.schema.now c.loop-at.at ≡ Some entry = ap (λ s. slice_get s c.loop-at.at) (sym c.fields-entries.ensures) ∙ slice_get_read entries (length entries) c.loop-at.at entry refl c.loop-at-test.true c.index-entries-at.is in
    one_written total Has c.args.schema.now c.loop-at.at c.loop-at.files c.loop-at.invariant entry at c.write_field.new.files
    (subst (λ n. AddsIfIndexed total Has (is_indexed entry) n c.loop-at.files c.write_field.new.files) c.from_field_id-field.ensures c.in_ok-write_field.ensures)

pub returns : goal.returns
returns g c =
    let many : length c.fields-entries.result.now ≡ length c.args.schema.now = ap length c.fields-entries.ensures in
    let all : length c.args.schema.now ≤ c.loop-at.at = omega (arith, many, c.loop-at-test.false) in
    have_fields (g.T.TermsByField.total c.args.terms.now) (g.T.TermsByField.has c.args.terms.now) c.args.schema.now c.loop-at.at c.loop-at.files c.loop-at.invariant all
