-- What the cases are about: an analyzer, fields and their values.
use Rattle.std.specs.Prelude.{ℕ, zero, suc, List, [], ◌∷◌, codes, true, false, None}
use Rattle.seg_common.specs.declared.precision.DateTimePrecision.TheVariants.{Seconds}
use Rattle.seg_tokens.specs.declared.token.Token.{Token}
use Rattle.seg_values.specs.declared.schema.FieldEntry.{FieldEntry}
use Rattle.seg_values.specs.declared.schema.FieldKind.{FieldKind}
use Rattle.seg_values.specs.declared.schema.IndexOption.{IndexOption}
use Rattle.seg_tokens.specs.Tokenizers.{default_tokens}
use Rattle.seg_values.specs.Tree.{Tree, leaf, text, pre_tokenized, array, tree, no_trees, object, member, no_members, Document}
use Rattle.seg_model.specs.Fields.{Schema, Analyzer}
use Rattle.seg_model.specs.Occurrences.{Occurrence, occurrences}
use Rattle.seg_model.specs.DocumentTerms.{Posting, Recorded, postings_of}

-- words in lower case, under every name
abbrev pub analyzer : Analyzer
analyzer name s = default_tokens s

-- a field `f` that is stored and fast, with lengths where it is indexed
abbrev pub entry : FieldKind → IndexOption → FieldEntry
entry kind index = record {
  name = codes "f";
  kind = kind;
  stored = true;
  index = index;
  tokenizer = None;
  norms = true;
  fast = true;
  fast_tokenizer = None;
  precision = Seconds;
  expand_dots = false;
}

-- a schema of this field alone
abbrev pub only : FieldKind → IndexOption → Schema
only kind index = entry kind index ∷ []

-- a document with one value of the field
abbrev pub one : Tree → Document
one value = (0, value) ∷ []

abbrev pub said : List ℕ → Tree
said s = leaf (text s)

-- a token without a place in a text
abbrev pub token : ℕ → List ℕ → Token
token position s = record { offset_from = 0; offset_to = 0; position = position; position_length = 1; text = s }

-- tokens that are handed in
abbrev pub cut : List Token → Tree
cut tokens = leaf (pre_tokenized (record { text = codes "a"; tokens = tokens }))

-- an object of one member
abbrev pub keyed : List ℕ → Tree → Tree
keyed key value = object (member key value no_members)

-- a value in this many arrays
abbrev pub in_arrays : ℕ → Tree → Tree
in_arrays zero value = value
in_arrays (suc n) value = array (tree (in_arrays n value) no_trees)

abbrev pub at : List ℕ → ℕ → Occurrence
at bytes position = record { bytes = bytes; position = position }

abbrev pub posting : ℕ → Recorded → Posting
posting document recorded = record { document = document; recorded = recorded }

-- the postings of a term of the only field in one document
abbrev pub recorded_of : FieldKind → IndexOption → Tree → List ℕ → List Posting
recorded_of kind index value term = postings_of (entry kind index) term
    (occurrences (only kind index) analyzer (one value) 0 ∷ [])
