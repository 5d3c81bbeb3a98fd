-- The laws of the definitions.
use Rattle.std.specs.Prelude.{◌≡◌, ◌↔◌, List, [], ◌∷◌, ℕ, Some, None, true, false, replicate, map, ◌++◌, length}
use Rattle.std.specs.List.{flat_map, AllByRecursion}
use Rattle.std.specs.FinMap.{get}
use Rattle.seg_values.specs.declared.schema.FieldEntry.{FieldEntry}
use Rattle.seg_values.specs.Tree.{Document}
use Rattle.seg_model.specs.Fields.{Schema, Analyzer}
use Rattle.seg_model.specs.Occurrences.{Occurrence}
use Rattle.seg_model.specs.Operations.{Operation, Batch, live, batches}
use Rattle.seg_model.specs.DocumentTerms.{Terms, terms_of, postings_of, if_any, listed, recorded_in}
use Rattle.seg_model.specs.Columns.{ColumnKey, ColumnValue, Columns, columns, column_at, is_mixed, declared_columns, values_at, fast_values}
use Rattle.seg_model.specs.Contents.{Contents, reading_part, reading, full_reading}
use Rattle.seg_model.specs.Join.{Part, join}
use Rattle.seg_model.specs.DocumentCheck.{IsSound}
use Rattle.seg_model.specs.Shape.{HasFullShape}
use Rattle.seg_model.specs.Input.{Input}
use Rattle.seg_model.specs.ValidInputs.{Known, IsValid}
use Rattle.seg_model.specs.Refusals.{build_refusal}

-- ---- terms and columns are known by what they answer

-- the terms of documents have at the bytes of each value its postings, and at bytes that do not occur nothing
abbrev pub TermsAnswer : Type 0
TermsAnswer = (entry : FieldEntry) (documents : List (List Occurrence)) (term : List ℕ)
    → get (terms_of entry documents) term ≡ if_any (postings_of entry term documents)

-- and no other term list does
abbrev pub NoOtherTerms : Type 0
NoOtherTerms = (entry : FieldEntry) (documents : List (List Occurrence)) (terms : Terms)
    → ((term : List ℕ) → get terms term ≡ if_any (postings_of entry term documents)) → terms ≡ terms_of entry documents

-- what documents record at a key
abbrev pub recorded_values : Schema → Analyzer → List Document → ColumnKey → List (List ColumnValue)
recorded_values schema analyzer ds key = map (values_at key) (map (fast_values schema analyzer) ds)

-- columns that have at each key the column of what the documents record there
abbrev pub AreColumnsOf : Schema → Analyzer → List Document → Columns → Type 0
AreColumnsOf schema analyzer ds cs = (key : ColumnKey)
    → get cs key ≡ column_at (declared_columns schema) key (recorded_values schema analyzer ds key)

-- no path has numbers without a type
abbrev pub NoneIsMixed : Schema → Analyzer → List Document → Type 0
NoneIsMixed schema analyzer ds = (key : ColumnKey)
    → is_mixed (declared_columns schema) key (recorded_values schema analyzer ds key) ≡ false

-- where documents have columns, these answer so, and no path is mixed
abbrev pub ColumnsAnswer : Type 0
ColumnsAnswer = (schema : Schema) (analyzer : Analyzer) (ds : List Document) (cs : Columns)
    → columns schema analyzer ds ≡ Some cs → AreColumnsOf schema analyzer ds cs × NoneIsMixed schema analyzer ds

-- where no path is mixed, the columns that answer so are those of the documents
abbrev pub NoOtherColumns : Type 0
NoOtherColumns = (schema : Schema) (analyzer : Analyzer) (ds : List Document) (cs : Columns)
    → NoneIsMixed schema analyzer ds → AreColumnsOf schema analyzer ds cs → columns schema analyzer ds ≡ Some cs

-- where a path is mixed, documents have no columns
abbrev pub MixedNumbersHaveNoColumns : Type 0
MixedNumbersHaveNoColumns = (schema : Schema) (analyzer : Analyzer) (ds : List Document) (key : ColumnKey)
    → is_mixed (declared_columns schema) key (recorded_values schema analyzer ds key) ≡ true
    → columns schema analyzer ds ≡ None

-- ---- one more document

-- with one more document a term has one more posting, where it occurs there
abbrev pub PostingsGrow : Type 0
PostingsGrow = (entry : FieldEntry) (term : List ℕ) (documents : List (List Occurrence)) (occurred : List Occurrence)
    → postings_of entry term (documents ++ occurred ∷ [])
    ≡ postings_of entry term documents ++ listed (length documents) (recorded_in entry term occurred)

-- and a column one more row
abbrev pub ColumnsGrow : Type 0
ColumnsGrow = (schema : Schema) (analyzer : Analyzer) (ds : List Document) (d : Document) (key : ColumnKey)
    → recorded_values schema analyzer (ds ++ d ∷ []) key
    ≡ recorded_values schema analyzer ds key ++ values_at key (fast_values schema analyzer d) ∷ []

-- ---- batches

-- what is alive in the end does not depend on how the operations are cut
abbrev pub BatchesPlayNoPart : Type 0
BatchesPlayNoPart = (schema : Schema) (analyzer : Analyzer) (cuts : List ℕ) (operations : List Operation)
    → flat_map live (batches schema analyzer cuts operations) ≡ flat_map live (batches schema analyzer [] operations)

-- ---- valid inputs

-- an input is valid exactly where nothing refuses it
abbrev pub ValidInputsAreNotRefused : Type 0
ValidInputsAreNotRefused = (known : Known) (analyzer : Analyzer) (input : Input)
    → IsValid known analyzer input ↔ (build_refusal known analyzer input ≡ None)

-- ---- joining is invisible

-- a part that has the full reading of a batch's documents, and its alive set
pub record IsReadingOf (schema : Schema) (analyzer : Analyzer) (batch : Batch) (part : Part) : Type 0 where
  pub contents : full_reading schema analyzer batch.documents ≡ Some part.contents
  pub alive : part.alive ≡ batch.alive

-- each part in turn
abbrev pub AreReadingsOf : Schema → Analyzer → List Batch → List Part → Type 0
AreReadingsOf schema analyzer [] [] = Unit {0}
AreReadingsOf schema analyzer [] (p ∷ ps) = ⊥
AreReadingsOf schema analyzer (b ∷ bs) [] = ⊥
AreReadingsOf schema analyzer (b ∷ bs) (p ∷ ps) = IsReadingOf schema analyzer b p × AreReadingsOf schema analyzer bs ps

-- the full readings of documents join to the full reading of the live ones, each undefined exactly where the other is
abbrev pub JoiningIsInvisible : Type 0
JoiningIsInvisible = (schema : Schema) (analyzer : Analyzer) (bs : List Batch) (ps : List Part)
    → AreReadingsOf schema analyzer bs ps → join schema ps ≡ full_reading schema analyzer (flat_map live bs)

-- the reading is a part of the full reading
abbrev pub FullReadingsHaveTheReading : Type 0
FullReadingsHaveTheReading = (schema : Schema) (analyzer : Analyzer) (ds : List Document) (contents : Contents)
    → full_reading schema analyzer ds ≡ Some contents → reading_part contents ≡ reading schema analyzer ds

-- ---- joins of joins

-- contents with each document alive
abbrev pub whole : Contents → Part
whole contents = record { contents = contents; alive = replicate contents.documents true }

-- parts whose contents all have full shape
abbrev pub AreOfFullShape : Schema → List Part → Type 0
AreOfFullShape schema [] = Unit {0}
AreOfFullShape schema (p ∷ ps) = HasFullShape schema p.contents × AreOfFullShape schema ps

-- groups of parts of full shape, of which each joins to these contents
abbrev pub AreJoinsOf : Schema → List (List Part) → List Contents → Type 0
AreJoinsOf schema [] [] = Unit {0}
AreJoinsOf schema [] (c ∷ cs) = ⊥
AreJoinsOf schema (group ∷ groups) [] = ⊥
AreJoinsOf schema (group ∷ groups) (c ∷ cs) = AreOfFullShape schema group
    × (join schema group ≡ Some c) × AreJoinsOf schema groups cs

-- joined group by group, in order, parts join to what they join to at once
abbrev pub JoinsGroupInOrder : Type 0
JoinsGroupInOrder = (schema : Schema) (groups : List (List Part)) (cs : List Contents) → AreJoinsOf schema groups cs
    → join schema (map whole cs) ≡ join schema (flat_map (λ group. group) groups)

-- parts of full shape join to contents of full shape
abbrev pub JoinsHaveFullShape : Type 0
JoinsHaveFullShape = (schema : Schema) (ps : List Part) (contents : Contents) → AreOfFullShape schema ps
    → join schema ps ≡ Some contents → HasFullShape schema contents

-- the full reading of sound documents is of full shape
abbrev pub ReadingsHaveFullShape : Type 0
ReadingsHaveFullShape = (schema : Schema) (analyzer : Analyzer) (ds : List Document) (contents : Contents)
    → AllByRecursion (IsSound schema) ds → full_reading schema analyzer ds ≡ Some contents
    → HasFullShape schema contents
