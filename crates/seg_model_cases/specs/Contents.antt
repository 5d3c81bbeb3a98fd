-- Cases of contents that their stored documents tell.
use Rattle.std.specs.Prelude.{◌≡◌, ℕ, List, [], ◌∷◌, codes}
use Rattle.std.specs.FinMap.{from_sorted}
use Rattle.seg_common.specs.declared.column_type.ColumnType.TheVariants.{Str}
use Rattle.seg_values.specs.declared.schema.FieldKind.TheVariants.{Text, U64}
use Rattle.seg_values.specs.declared.schema.IndexOption.TheVariants.{Basic, Freqs}
use Rattle.seg_values.specs.Tree.{leaf, null, Document}
use Rattle.seg_model.specs.DocumentTerms.{Posting, frequency}
use Rattle.seg_model.specs.Columns.{ColumnKey, ColumnValue, text_value}
use Rattle.seg_model.specs.Contents.{Contents}
use Rattle.seg_model.specs.SelfToldContents.{IsSelfTold}
use Rattle.seg_model_cases.specs.CaseData.{analyzer, only, one, said, posting}

-- "a b a" and "b"
abbrev pub documents : List Document
documents = one (said (codes "a b a")) ∷ one (said (codes "b")) ∷ []

-- their terms, where `a` occurs this often in the first
abbrev pub term_entries : ℕ → List (List ℕ × List Posting)
term_entries often = (codes "a", posting 0 (frequency often) ∷ [])
    ∷ (codes "b", posting 0 (frequency 1) ∷ posting 1 (frequency 1) ∷ []) ∷ []

abbrev pub column_entries : List (ColumnKey × List (List ColumnValue))
column_entries =
    (record { path = codes "f"; type = Str }, (text_value (codes "a b a") ∷ []) ∷ (text_value (codes "b") ∷ []) ∷ [])
    ∷ []

-- contents of them, but for how often `a` occurs, the length of the first, and what is stored
abbrev pub contents : ℕ → ℕ → List Document → Contents
contents often length stored = record {
  documents = 2;
  terms = from_sorted (term_entries often) ∷ [];
  stored = stored;
  norms = (length ∷ 1 ∷ []) ∷ [];
  columns = from_sorted column_entries;
}

pub record ContentsCases : Type 0 where
  pub told : IsSelfTold (only Text Freqs) analyzer (contents 2 3 documents)
  pub other_frequency : ¬ IsSelfTold (only Text Freqs) analyzer (contents 1 3 documents)
  pub other_length : ¬ IsSelfTold (only Text Freqs) analyzer (contents 2 4 documents)
  pub one_dropped : ¬ IsSelfTold (only Text Freqs) analyzer (contents 2 3 (one (said (codes "a b a")) ∷ []))
  -- nor are contents in which a document is stored that is not taken
  pub untaken : (found : Contents) → found.stored ≡ one (leaf null) ∷ [] → ¬ IsSelfTold (only U64 Basic) analyzer found
