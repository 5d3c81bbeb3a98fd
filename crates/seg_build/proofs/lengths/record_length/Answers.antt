use Rattle.std.proofs.Common.{◌≡◌, false, true, option_map, length, Some, refl, sym, ap, ◌∙◌, subst, arith}
use Rattle.std.specs.List.{slice_get}
use Rattle.std.proofs.lemmas.Option.{slice_get_read}
use Rattle.seg_common.specs.WriterGrowth.{HasGrown}
use Rattle.seg_norms.specs.FieldNorms.{at_field, with_length}
use Rattle.seg_build.specs.DocumentLengths.{lacks_length, recorded_once, length_at}
use Rattle.seg_build.proofs.RecordedLengths.{ids_at, stays_recorded, comes_recorded}
use Rattle.seg_build.proofs.lengths.record_length.Goals as goal

pub returns-then-not-lacks_length : goal.returns-then-not-lacks_length
returns-then-not-lacks_length c =
    let fields = c.args.fields.now in
    let place = c.args.field in
    let same : c.from_field_id-field.result ≡ place = omega (arith, c.from_field_id-field.ensures) in
    let there : lacks_length c.args.document (ids_at place c.args.norms.now) ≡ false = ap (λ n. lacks_length c.args.document (ids_at n c.args.norms.now)) (sym same) ∙ sym c.lacks_length.ensures ∙ c.if-not-lacks_length.true in
    stays_recorded c.args.document (length_at c.args.document (slice_get fields place)) c.args.norms.now place there

pub returns-in-Ok : goal.returns-in-Ok
returns-in-Ok c =
    let id = c.args.document in
    let fields = c.args.fields.now in
    let place = c.args.field in
    let same : c.from_field_id-field.result ≡ place = omega (arith, c.from_field_id-field.ensures) in
    let lacks : lacks_length id (ids_at place c.args.norms.now) ≡ true = ap (λ n. lacks_length id (ids_at n c.args.norms.now)) (sym same) ∙ sym c.lacks_length.ensures ∙ c.if-not-lacks_length.false in
    let at : slice_get fields place ≡ Some c.index-fields-place.result = slice_get_read fields (length fields) place c.index-fields-place.result refl (omega (arith, c.if-place-fields.false)) c.index-fields-place.is in
    let count : c.length_of-len.result ≡ length_at id (slice_get fields place) = c.length_of-len.ensures ∙ sym (ap (length_at id) at) in
    comes_recorded id c.length_of-len.result c.args.norms.now c.record.new.self place lacks
    (subst (λ n. HasGrown c.args.norms.now c.record.new.self (at_field n (with_length id c.length_of-len.result))) same c.in-Ok.ensures.ok)
    ∙ ap (λ n. option_map (at_field place (recorded_once id n)) c.args.norms.now) count
