-- The columns of what a writer kept, and what comes where there are none.
use Rattle.std.proofs.Common.{◌≡◌, ◌⊎◌, ℕ, true, List, map, length, Some, None, Option, option_map, Result, Ok, Err, refl, sym, ap, ◌∙◌, inl, inr}
use Rattle.std.specs.Prelude.{is_some, IfOk, IfErr}
use Rattle.std.proofs.lemmas.Bool.{false≢true}
use Rattle.std.proofs.lemmas.List.{length-map}
use Rattle.seg_values.specs.declared.error.ArgumentCause.TheVariants.{Numbers}
use Rattle.seg_values.specs.declared.error.TantivyError.{TantivyError}
use Rattle.seg_values.specs.declared.error.TantivyError.TheVariants.{InvalidArgument, OutOfMemory}
use Rattle.seg_values.specs.Tree.{Document}
use Rattle.seg_model.specs.Columns.{Columns, FastValue, columns, columns_of, declared_columns, fast_values}
use Rattle.seg_model.specs.Contents.{reading_with}
use Rattle.seg_model.specs.Fields.{Schema, Analyzer}
use Rattle.seg_model.proofs.Exports.{some_none}
use Rattle.seg_column_file.specs.ColumnFiles.{IsColumnFile, column_file_of, row_count}
use Rattle.seg_column_format.specs.ModelColumns.{columns_in}
use Rattle.seg_column_format.specs.SchemaColumns.{HaveColumns}
use Rattle.seg_fastfield.specs.FastFieldWriters.{Holds, refusal_of}
use Rattle.seg_build.specs.FinishedFiles.{AreMixed, Fails, IsMadeOfKept}
use Rattle.seg_build.specs.WriterContents.{Kept}
use Rattle.seg_build.specs.SegmentWriters.{IsKeptOf, IsUnderWay}
use Rattle.seg_build.specs.declared.memory_segment.MemorySegment.{MemorySegment}

-- bytes are the file of the columns that were kept
pub record AreColumnsOf (kept : Kept) (bytes : List ℕ) : Type 0 where
  pub file : IsColumnFile bytes
  pub rows : row_count bytes ≡ kept.fast.rows
  pub are : (values : List (List FastValue)) → Holds values kept.fast
      → columns_of (declared_columns kept.fast.schema) values ≡ Some (columns_in (column_file_of bytes))

apart : InvalidArgument Numbers ≡ OutOfMemory → ⊥
apart h = cc

undefined : (o : Option Columns) → InvalidArgument Numbers ≡ refusal_of o → o ≡ None
undefined None h = refl
undefined (Some cs) h = absurd (apart h)

defined : (o : Option Columns) → OutOfMemory ≡ refusal_of o → is_some o ≡ true
defined (Some cs) h = refl
defined None h = absurd (apart (sym h))

module _ (schema : Schema) (kept : Kept) where
  module _ (analyzer : Analyzer) (size : ℕ) (documents : List Document) (stamps : List ℕ) (are : IsKeptOf schema analyzer size documents stamps kept) where
    same : columns_of (declared_columns kept.fast.schema) (map (fast_values schema analyzer) documents) ≡ columns schema analyzer documents
    same = ap (λ (s : Schema). columns_of (declared_columns s) (map (fast_values schema analyzer) documents)) are.fast_schema

    pub columns_are : (bytes : List ℕ) → AreColumnsOf kept bytes → columns schema analyzer documents ≡ Some (columns_in (column_file_of bytes))
    columns_are bytes made = sym same ∙ made.are (map (fast_values schema analyzer) documents) are.fast

    pub have_columns : (bytes : List ℕ) → AreColumnsOf kept bytes → HaveColumns (length documents) bytes (columns_in (column_file_of bytes))
    have_columns bytes made = record {
      file = made.file;
      rows = made.rows ∙ are.fast.rows_are ∙ length-map documents (fast_values schema analyzer);
      are = refl;
    }

  -- out of memory after the file of columns was made
  pub starved : (bytes : List ℕ) → AreColumnsOf kept bytes → Fails schema kept OutOfMemory
  starved bytes made = inr (refl, λ analyzer size documents stamps are. ap is_some (columns_are analyzer size documents stamps are bytes made))

  module _ (e : TantivyError) (told : (values : List (List FastValue)) → Holds values kept.fast → e ≡ refusal_of (columns_of (declared_columns kept.fast.schema) values)) where
    told_of : (analyzer : Analyzer) (size : ℕ) (documents : List Document) (stamps : List ℕ) → IsKeptOf schema analyzer size documents stamps kept → e ≡ refusal_of (columns schema analyzer documents)
    told_of analyzer size documents stamps are = told (map (fast_values schema analyzer) documents) are.fast ∙ ap refusal_of (same analyzer size documents stamps are)

    -- no file of columns is made
    pub not_made : (analyzer : Analyzer) → IsUnderWay schema analyzer kept → Fails schema kept e
    not_made analyzer u = by (columns schema analyzer u.documents) (told_of analyzer u.block_size u.documents u.stamps u.are)
      where
        by : (o : Option Columns) → e ≡ refusal_of o → Fails schema kept e
        by None is = inl (is, λ a size documents stamps are. undefined (columns schema a documents) (sym is ∙ told_of a size documents stamps are))
        by (Some cs) is = inr (is, λ a size documents stamps are. defined (columns schema a documents) (sym is ∙ told_of a size documents stamps are))

  -- where documents have no columns, that is told
  pub must_fail : (r : Result MemorySegment TantivyError) → IfOk r (IsMadeOfKept schema kept) → IfErr r (Fails schema kept)
      → (analyzer : Analyzer) (size : ℕ) (documents : List Document) (stamps : List ℕ) → IsKeptOf schema analyzer size documents stamps kept
      → columns schema analyzer documents ≡ None → r ≡ Err (InvalidArgument Numbers)
  must_fail (Ok made) ok err analyzer size documents stamps are none =
      let stand = ok.stand analyzer size documents stamps are in
      absurd (some_none stand.contents (sym stand.read ∙ ap (option_map (reading_with schema analyzer documents)) none))
  must_fail (Err e) ok (inl h) analyzer size documents stamps are none = ap Err h.0
  must_fail (Err e) ok (inr h) analyzer size documents stamps are none = absurd (false≢true (sym (ap is_some none) ∙ h.1 analyzer size documents stamps are))

  -- the error of a writer
  pub told_error : (e : TantivyError) → Fails schema kept e → (L N : Type 0) → (AreMixed schema kept → N)
      → L ⊎ ((e ≡ OutOfMemory) ⊎ ((e ≡ InvalidArgument Numbers) × N))
  told_error e (inl h) L N f = inr (inr (h.0, f h.1))
  told_error e (inr h) L N f = inr (inl h.0)
