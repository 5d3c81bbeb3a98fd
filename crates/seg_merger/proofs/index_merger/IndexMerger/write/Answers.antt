use Rattle.std.proofs.Common.{◌≡◌, ◌∙◌, ℕ, List, Result, Err, ap, map, subst, sym}
use Rattle.std.specs.List.{AllByRecursion}
use Rattle.seg_column_merge.specs.MergedColumns.{MergeFails}
use Rattle.seg_values.specs.declared.error.TantivyError.{TantivyError}
use Rattle.seg_model.specs.Fields.{Schema}
use Rattle.seg_model.specs.Join.{joined_columns}
use Rattle.seg_open.specs.OpenSegment.{IsMarked, IsOfSchema, OpenSegment, part_of}
use Rattle.seg_merger.specs.JoinedSegment.{IsJoined}
use Rattle.seg_merger.specs.Merger.{Merging, WritesJoined}
use Rattle.seg_merger.proofs.MergedFiles.{writes_err, writes_none, writes_ok}
use Rattle.seg_merger.proofs.index_merger.IndexMerger.write.Goals as goal
use Rattle.seg_merger.proofs.index_merger.IndexMerger.write.Goals.{in-Ok-close, in-Err-close}

pub returns-in-Err-clause-does : goal.returns-in-Err-clause-does
returns-in-Err-clause-does g c block_size fresh =
    let segment = c.args.serializer.segment in
    let readers = c.args.self.now.readers in
    let a = g.O.Directory.state c.args.directory.now in
    let has : c.self.inside.readers.items ≡ readers = ap (λ (m : Merging). m.readers) c.self.view_is in
    let fails : MergeFails (joined_columns segment.schema (map part_of readers)) c.in-Err.error =
    subst (λ (rs : List OpenSegment). MergeFails (joined_columns segment.schema (map part_of rs)) c.in-Err.error) (c.deref.ensures.value ∙ has) c.in-Err.ensures.err in
    subst (λ (e : TantivyError). WritesJoined {T = ℕ} segment block_size readers (Err e) a a) (sym c.refusal.ensures)
    (writes_none segment block_size readers a c.in-Err.error fails)

pub returns-clause-does : goal.returns-clause-does
returns-clause-does g c block_size fresh =
    let segment = c.args.serializer.segment in
    let readers = c.args.self.now.readers in
    let a = g.O.Directory.state c.args.directory.now in
    let b = g.O.Directory.state c.close.new.directory in
    let has : c.self.inside.readers.items ≡ readers = ap (λ (m : Merging). m.readers) c.self.view_is in
    let of : c.self.inside.schema ≡ segment.schema = ap (λ (m : Merging). m.schema) c.self.view_is ∙ sym c.requires.schema in
    let are : AllByRecursion (IsOfSchema segment.schema) readers =
    subst (λ (rs : List OpenSegment). AllByRecursion (IsOfSchema segment.schema) rs) has (subst (λ (s : Schema). AllByRecursion (IsOfSchema s) c.self.inside.readers.items) of c.self.invariant.0) in
    let marked : AllByRecursion IsMarked readers = subst (λ (rs : List OpenSegment). AllByRecursion IsMarked rs) has c.self.invariant.1 in
    let joined : IsJoined segment block_size readers c.in-Ok.filled =
    subst (λ (rs : List OpenSegment). IsJoined segment block_size rs c.in-Ok.filled) (c.deref.ensures.value ∙ has) (c.in-Ok.ensures.ok block_size fresh) in
    elim c.match-close.branch [
      | in-Ok-close w ↦ subst (λ (r : Result ℕ TantivyError). WritesJoined {T = ℕ} segment block_size readers r a b) (sym w.result-is)
          (writes_ok c.joins_have_full_shape.ensures segment block_size readers are marked c.in-Ok.filled joined a b w.in-Ok-close.field-0 c.self.inside.max_doc w.in-Ok-close.ensures.does)
      | in-Err-close w ↦ subst (λ (r : Result ℕ TantivyError). WritesJoined {T = ℕ} segment block_size readers r a b) (sym w.result-is)
          (writes_err c.joins_have_full_shape.ensures segment block_size readers are marked c.in-Ok.filled joined a b {U = Unit {0}} w.in-Err-close.e w.in-Err-close.ensures.does)
    ]
