use Rattle.std.proofs.Common.{◌≡◌, ◌∙◌, true, ap, subst, sym}
use Rattle.seg_model.specs.Fields.{Schema}
use Rattle.seg_model.specs.Shape.{HasFullShape}
use Rattle.seg_values.specs.SchemaRules.{is_schema}
use Rattle.seg_open.specs.OpenSegment.{OpenSegment, contents_of}
use Rattle.seg_open.proofs.FacetFields.{is_answered, never_lacking, only_memory}
use Rattle.seg_open.proofs.segment_reader.SegmentReader.facet_column.Goals as goal

pub unreachable-requires : goal.unreachable-requires
unreachable-requires c =
    let s = c.args.self.now in
    let schema_is = ap (λ (s : OpenSegment). s.schema) c.self.view_is in
    let valid = subst (λ (t : Schema). is_schema t ≡ true) schema_is c.fields_are_valid.ensures in
    let shape = subst (λ (s : OpenSegment). HasFullShape s.schema (contents_of s)) c.self.view_is c.self.invariant.4 in
    never_lacking c.self.inside.fast_fields s c.args.field_name.now (c.self.invariant.2 ∙ schema_is) (ap (λ (s : OpenSegment). s.columns) c.self.view_is) valid c.requires
    shape c.in-Ok-None.field-0 c.in-Ok-None.ensures c.in-Ok-None.field-0-is

pub returns-in-Ok-Some-clause-ok : goal.returns-in-Ok-Some-clause-ok
returns-in-Ok-Some-clause-ok c =
    let s = c.args.self.now in
    let schema_is = ap (λ (s : OpenSegment). s.schema) c.self.view_is in
    let valid = subst (λ (t : Schema). is_schema t ≡ true) schema_is c.fields_are_valid.ensures in
    sym (is_answered c.self.inside.fast_fields s c.args.field_name.now (c.self.invariant.2 ∙ schema_is) (ap (λ (s : OpenSegment). s.columns) c.self.view_is) valid c.requires c.in-Ok-Some.field-0 c.in-Ok-Some.ensures)
    ∙ c.in-Ok-Some.field-0-is

pub returns-in-Err-clause-err : goal.returns-in-Err-clause-err
returns-in-Err-clause-err c =
    let s = c.args.self.now in
    let schema_is = ap (λ (s : OpenSegment). s.schema) c.self.view_is in
    let valid = subst (λ (t : Schema). is_schema t ≡ true) schema_is c.fields_are_valid.ensures in
    only_memory c.self.inside.fast_fields s c.args.field_name.now (c.self.invariant.2 ∙ schema_is) (ap (λ (s : OpenSegment). s.columns) c.self.view_is) valid c.requires c.in-Err.e c.in-Err.ensures
