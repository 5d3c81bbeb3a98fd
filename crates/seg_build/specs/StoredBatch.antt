-- Documents that were indexed, and are in a store.
use Rattle.std.specs.Prelude.{◌≡◌, ℕ, List, map, true, Some}
use Rattle.std.specs.List.{list_all, AllByRecursion}
use Rattle.std.specs.Option.{option_map}
use Rattle.seg_values.specs.Tree.{Document}
use Rattle.seg_values.specs.Utf8Values.{IsUtf8Document}
use Rattle.seg_model.specs.TextDocuments.{is_taken}
use Rattle.seg_model.specs.Fields.{Schema, Analyzer}
use Rattle.seg_model.specs.DocumentTerms.{stored_document}
use Rattle.seg_store.specs.Store.{store_of, documents_of}
use Rattle.seg_build.specs.declared.fields.IndexedBatch.{IndexedBatch}
use Rattle.seg_build.specs.BatchContents.{IsBatchOf}

-- a batch is of these documents, and so are the bytes of a store
pub record IsStoredBatch (schema : Schema) (analyzer : Analyzer) (documents : List Document) (batch : IndexedBatch)
    (store : List ℕ) : Type 0 where
  pub taken : list_all (is_taken schema analyzer) documents ≡ true
  pub utf8 : AllByRecursion IsUtf8Document documents
  pub indexed : IsBatchOf schema analyzer documents batch
  pub stored : option_map documents_of (store_of store) ≡ Some (map (stored_document schema) documents)
