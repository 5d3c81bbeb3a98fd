use Rattle.std.proofs.Common.{◌∙◌, ◌||◌, List, false, sym, ap}
use Rattle.std.specs.Prelude.{slice_index_or}
use Rattle.std.specs.List.{list_all}
use Rattle.seg_column_file.specs.ColumnFiles.{NamedColumn}
use Rattle.seg_column_format.specs.SchemaColumns.{all_marked, has_column, is_suited}
use Rattle.seg_column_format.proofs.FoundFields.{all_found, fewer_left, left_suits}
use Rattle.seg_column_format.proofs.schema_columns.all_suit.Goals as goal

pub loop-path-preserved-else-not-suits_one : goal.loop-path-preserved-else-not-suits_one
loop-path-preserved-else-not-suits_one c =
    let so_far = c.loop-path.invariant in
    let column : NamedColumn = record { path = c.in-Some.path.now; stored = c.in-Some.handle } in
    let too = c.if-not-suits_one.ensures.marks in
    record {
      can = tt;
      finite = tt;
      as_many = too.as_many ∙ so_far.as_many;
      suited = left_suits c.args.schema.now column c.loop-path.path-iterator c.next.new.self c.in-Some.ensures.steps
          (sym c.if-not-suits_one.ensures.suited) ∙ so_far.suited;
      marks = λ i e at.
          fewer_left c.args.schema.now column c.loop-path.found.items c.suits_one.new.found.items c.next.new.self too i e at
          ∙ (ap (λ (l : List NamedColumn). slice_index_or c.loop-path.found.items i false || has_column l e) (sym c.in-Some.ensures.steps)
          ∙ so_far.marks i e at);
    }

pub loop-path-preserved : goal.loop-path-preserved
loop-path-preserved c =
    let so_far = c.loop-path.invariant in
    let column : NamedColumn = record { path = c.in-Some.path.now; stored = c.in-Some.handle } in
    let too = c.if-not-suits_one.ensures.marks in
    record {
      can = tt;
      finite = tt;
      as_many = too.as_many ∙ so_far.as_many;
      suited = left_suits c.args.schema.now column c.loop-path.path-iterator c.next.new.self c.in-Some.ensures.steps
          (sym c.if-not-suits_one.ensures.suited) ∙ so_far.suited;
      marks = λ i e at.
          fewer_left c.args.schema.now column c.loop-path.found.items c.suits_one.new.found.items c.next.new.self too i e at
          ∙ (ap (λ (l : List NamedColumn). slice_index_or c.loop-path.found.items i false || has_column l e) (sym c.in-Some.ensures.steps)
          ∙ so_far.marks i e at);
    }

pub returns : goal.returns
returns c =
    let so_far = c.loop-path.invariant in
    c.all_there.ensures
    ∙ (λ j. all_marked (c.fields.ensures j) (c.as_slice.ensures.value j))
    ∙ all_found c.args.schema.now c.args.columnar.now.columns c.loop-path.found.items so_far.as_many
    (ap (list_all (is_suited c.args.schema.now)) (sym c.in-None.ensures.steps.0) ∙ so_far.suited)
    (λ i e at. ap (λ (l : List NamedColumn). slice_index_or c.loop-path.found.items i false || has_column l e) (sym c.in-None.ensures.steps.0)
    ∙ so_far.marks i e at)
