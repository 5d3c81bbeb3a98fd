-- The files of terms, postings and positions while fields are added.
use Rattle.std.specs.Prelude.{ℕ, List, [], ◌∷◌, ◌++◌, Option, Some, None}
use Rattle.seg_common.specs.WriterGrowth.{HasGrown}
use Rattle.seg_directory.specs.CompositeFiles.{Part}
use Rattle.seg_postings.specs.Field.{IsField}
use Rattle.seg_postings.specs.FieldSerializers.{FieldWriting}

-- the parts of each of the three files
pub record FieldFiles : Type 0 where
  pub terms : List Part
  pub postings : List Part
  pub positions : List Part

-- no field yet
abbrev pub no_fields : FieldFiles
no_fields = record { terms = []; postings = []; positions = [] }

-- the parts of a field are added
abbrev pub with_field : ℕ → List ℕ → List ℕ → List ℕ → FieldFiles → FieldFiles
with_field field dictionary postings positions files = record {
  terms = files.terms ++ (field, dictionary) ∷ [];
  postings = files.postings ++ (field, postings) ∷ [];
  positions = files.positions ++ (field, positions) ∷ [];
}

-- three files, where each is kept
abbrev pub all_files : Option (List Part) → Option (List Part) → Option (List Part) → Option FieldFiles
all_files (Some terms) (Some postings) (Some positions) =
    Some (record { terms = terms; postings = postings; positions = positions })
all_files _ _ _ = None

-- a field was added: its parts spell what was written of it
pub record AddsField (before after : Option FieldFiles) (w : FieldWriting) : Type 0 where
  pub dictionary : List ℕ
  pub postings : List ℕ
  pub positions : List ℕ
  pub spells : IsField dictionary postings positions w.total w.terms
  pub grown : HasGrown before after (with_field w.field dictionary postings positions)
