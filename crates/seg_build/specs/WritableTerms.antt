-- Terms that can be written.
use Rattle.std.specs.Prelude.{◌≡◌, ◌<◌, ◌^◌, List, length, true, IsTrue}
use Rattle.std.specs.FinMap.{is_sorted}
use Rattle.std.specs.List.{AllByRecursion, list_all}
use Rattle.std.specs.Ordering.{nat_cmp}
use Rattle.std.specs.Cmp.Lexicographic.{slice_cmp}
use Rattle.seg_values.specs.Tree.{Document}
use Rattle.seg_model.specs.TextDocuments.{is_taken}
use Rattle.seg_model.specs.Fields.{Schema, Analyzer}
use Rattle.seg_postings.specs.WritablePostings.{AreWritable}
use Rattle.seg_build.specs.FieldTerms.{FieldTerms, kind_in, fields_of}

-- terms in byte order, each of which occurs, by ascending documents, with what its kind keeps, all of it small enough
pub record CanBeWritten (field : FieldTerms) : Type 0 where
  pub ascend : IsTrue (is_sorted (slice_cmp nat_cmp) field.terms)
  pub occur : AllByRecursion (λ e. 0 < length e.1) field.terms
  pub writable : AllByRecursion (λ e. AreWritable (kind_in field.asked e.0) 0 0 e.1) field.terms

-- the terms of fewer than 2^31 documents that pass their check can be written, field by field
abbrev pub TakenTermsCanBeWritten : Type 0
TakenTermsCanBeWritten = (schema : Schema) (analyzer : Analyzer) (documents : List Document)
    → list_all (is_taken schema analyzer) documents ≡ true → length documents < 2 ^ 31
    → AllByRecursion CanBeWritten (fields_of schema analyzer documents)
