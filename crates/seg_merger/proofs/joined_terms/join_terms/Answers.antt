use Rattle.std.proofs.Common.{◌^◌, ◌<◌, Option, ◌∙◌, ap, sym, subst}
use Rattle.std.specs.Prelude.{IsSomeAnd}
use Rattle.std.specs.List.{AllByRecursion}
use Rattle.std.proofs.lemmas.Result.{IfOk-weaker}
use Rattle.seg_postings.specs.FieldFiles.{FieldFiles}
use Rattle.seg_segment.specs.WrittenFields.{HaveFields}
use Rattle.seg_merger.specs.JoinedTerms.{AreJoined, IsOfField}
use Rattle.seg_merger.specs.JoinedTotals.{tokens_in}
use Rattle.seg_merger.specs.JoinedSegment.{HoldJoined}
use Rattle.seg_merger.specs.NewIds.{parts_of}
use Rattle.seg_open.specs.OpenSegment.{kept_count}
use Rattle.seg_merger.proofs.JoinedField.{hold_joined}
use Rattle.seg_merger.proofs.NumberedParts.{same_parts, are_numbered, all_of_field}
use Rattle.seg_merger.proofs.JoinedTotals.{all_of_schema, totals_agree}
use Rattle.seg_merger.proofs.joined_terms.join_terms.Goals as goal

pub write_fields-requires : goal.write_fields-requires
write_fields-requires c = λ field entry at on.
    let same = same_parts c.in_ok-numbered.numbered c.args.parts.now c.in_ok-numbered.ensures.numbered in
    record {
      ids = are_numbered c.in_ok-numbered.numbered c.args.parts.now c.in_ok-numbered.ensures.numbered;
      few = subst (λ ps. kept_count ps < 2 ^ 31) (sym same) c.requires.few;
      entry = entry;
      segments = subst (AllByRecursion (IsOfField entry field)) (sym same) (all_of_field c.args.schema.now field entry at on c.args.parts.now c.requires.parts c.in_ok-numbered.ensures.marked c.in_ok-numbered.ensures.fields);
    }

pub returns : goal.returns
returns c =
    let ns = c.in_ok-numbered.numbered in
    let schema = c.args.schema.now in
    let parts = c.args.parts.now in
    let same = same_parts ns parts c.in_ok-numbered.ensures.numbered in
    IfOk-weaker c.write_fields.result
    (λ (files : Option FieldFiles). IsSomeAnd files (HaveFields (λ field. tokens_in field (parts_of ns)) (AreJoined ns) schema))
    (λ (files : Option FieldFiles). IsSomeAnd files (HoldJoined schema parts))
    (hold_joined schema parts ns same (λ field. tokens_in field (parts_of ns))
    (λ field entry at on. subst (AllByRecursion (IsOfField entry field)) (sym same) (all_of_field schema field entry at on parts c.requires.parts c.in_ok-numbered.ensures.marked c.in_ok-numbered.ensures.fields))
    (λ field entry at. ap (tokens_in field) same ∙ totals_agree schema field entry at parts (all_of_schema schema parts c.requires.parts)))
    c.write_fields.ensures
