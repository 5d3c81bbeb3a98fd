-- Cases of the parts of a field, in bytes that were written by hand.
use Rattle.std.specs.Prelude.{◌≡◌, ℕ, List, [], ◌∷◌, ◌++◌, map, replicate, codes, true, false, None, Some}
use Rattle.std.specs.List.{list_all}
use Rattle.seg_common.specs.declared.term_info.TermInfo.{TermInfo}
use Rattle.seg_values.specs.declared.schema.FieldKind.TheVariants.{Text, Json}
use Rattle.seg_values.specs.declared.schema.IndexOption.TheVariants as options
use Rattle.seg_model.specs.DocumentTerms.{Posting, presence, frequency, positions}
use Rattle.seg_termdict.specs.Dictionary.{Term, terms_of}
use Rattle.seg_postings.specs.declared.record_kind.RecordKind.TheVariants.{Documents, Counts, Positions}
use Rattle.seg_postings.specs.OpenedFields.{FieldRules, ReadTerm, is_read, read_term}
use Rattle.seg_postings.specs.JsonSpaces.{path_and_type}
use Rattle.seg_postings.specs.Postings.{term_postings}
use Rattle.seg_postings.specs.OpenPostings.{alive_count}
use Rattle.seg_model_cases.specs.ColumnFiles.{eight, four}
use Rattle.seg_model_cases.specs.CaseData.{posting}

-- the bytes of an info: how many documents a term is in, and where its postings and its positions end
abbrev pub info_bytes : ℕ → ℕ → ℕ → List ℕ
info_bytes documents postings places = four documents ++ eight postings ++ eight places

-- the number of infos, and where the postings and the positions of the first one start
abbrev pub begin : ℕ → List ℕ
begin n = eight n ++ eight 0 ++ eight 0

-- the length of all infos with what is before them, the version, and the type
abbrev pub footer : ℕ → List ℕ
footer size = eight size ++ four 1 ++ four 3

abbrev pub info : ℕ → ℕ → ℕ → ℕ → ℕ → TermInfo
info documents start end places_start places_end = record {
  doc_freq = documents;
  postings_start = start;
  postings_end = end;
  positions_start = places_start;
  positions_end = places_end;
}

-- ---- a text field: `a` is in document 0 twice and in document 2 once, `b` in document 1 once

abbrev pub dictionary : List ℕ
dictionary = eight 2 ++ eight 1 ++ eight 2 ++ codes "ab" ++ begin 2 ++ info_bytes 2 5 3 ++ info_bytes 1 8 4 ++ footer 64

abbrev pub postings : List ℕ
postings = (2 ∷ 0 ∷ 2 ∷ 2 ∷ 1 ∷ []) ++ (2 ∷ 1 ∷ 1 ∷ [])

abbrev pub places : List ℕ
places = (0 ∷ 3 ∷ 1 ∷ []) ++ (2 ∷ [])

abbrev pub of_a : List Posting
of_a = posting 0 (positions (0 ∷ 3 ∷ [])) ∷ posting 2 (positions (1 ∷ [])) ∷ []

abbrev pub of_b : List Posting
of_b = posting 1 (positions (2 ∷ [])) ∷ []

abbrev pub terms : List Term
terms = (codes "a", info 2 0 5 0 3) ∷ (codes "b", info 1 5 8 3 4) ∷ []

-- in a segment of three documents, with positions
abbrev pub rules : FieldRules
rules = record { kind = Text; index = options.Positions; max_doc = 3 }

-- ---- a JSON field: 1 and the texts `x` and `y` at the path `a`, and the text `x` at the path `b`

abbrev pub json_dictionary : List ℕ
json_dictionary =
    eight 4 ++ eight 11 ++ eight 15 ++ eight 19 ++ eight 23
    ++ (97 ∷ 0 ∷ 105 ∷ 128 ∷ replicate 6 0 ++ 1 ∷ []) ++ (97 ∷ 0 ∷ 115 ∷ 120 ∷ []) ++ (97 ∷ 0 ∷ 115 ∷ 121 ∷ [])
    ++ (98 ∷ 0 ∷ 115 ∷ 120 ∷ [])
    ++ begin 4 ++ info_bytes 1 2 0 ++ info_bytes 2 7 2 ++ info_bytes 1 10 3 ++ info_bytes 1 13 5 ++ footer 104

abbrev pub json_postings : List ℕ
json_postings = (0 ∷ 0 ∷ []) ++ (2 ∷ 0 ∷ 1 ∷ 1 ∷ 1 ∷ []) ++ (2 ∷ 2 ∷ 1 ∷ []) ++ (2 ∷ 1 ∷ 2 ∷ [])

abbrev pub json_places : List ℕ
json_places = (0 ∷ 0 ∷ []) ++ (4 ∷ []) ++ (0 ∷ 2 ∷ [])

pub record PostingsCases : Type 0 where
  pub terms_read : terms_of dictionary ≡ terms
  pub postings_read : map (read_term postings places) terms ≡
      record { bytes = codes "a"; info = info 2 0 5 0 3; kind = Positions; postings = of_a }
      ∷ record { bytes = codes "b"; info = info 1 5 8 3 4; kind = Positions; postings = of_b } ∷ []
  -- each is a term of the field
  pub taken : list_all (is_read rules postings places) terms ≡ true
  -- not so in a segment of two documents, nor where no positions are asked for
  pub too_high : list_all (is_read (record rules { max_doc = 2 }) postings places) terms ≡ false
  pub other_option : list_all (is_read (record rules { index = options.Freqs }) postings places) terms ≡ false
  -- a kind that keeps documents alone, and one that keeps counts
  pub documents : term_postings 2 (0 ∷ 3 ∷ 4 ∷ []) [] ≡
      Some (record { kind = Documents; postings = posting 3 presence ∷ posting 7 presence ∷ [] })
  pub counts : term_postings 1 (1 ∷ 3 ∷ 4 ∷ []) [] ≡
      Some (record { kind = Counts; postings = posting 3 (frequency 4) ∷ [] })
  -- a document twice, no occurrence, a document too few and one too many, positions left over, an unknown kind
  pub refused : map (λ (bytes : List ℕ). term_postings 2 bytes [])
      ((0 ∷ 3 ∷ 0 ∷ []) ∷ (1 ∷ 3 ∷ 1 ∷ 4 ∷ 0 ∷ []) ∷ (0 ∷ 3 ∷ []) ∷ (0 ∷ 3 ∷ 4 ∷ 5 ∷ []) ∷ (3 ∷ 3 ∷ 4 ∷ []) ∷ [] ∷ []) ≡
      replicate 6 None
  pub left_over : term_postings 1 (2 ∷ 3 ∷ 1 ∷ []) (0 ∷ 0 ∷ []) ≡ None
  pub alive : alive_count (false ∷ true ∷ true ∷ []) of_a ≡ 1
  -- a document beyond the set isn't
  pub beyond : alive_count (true ∷ true ∷ []) of_a ≡ 1
  -- three paths and types
  pub spaces : map (λ (t : Term). path_and_type t.0) (terms_of json_dictionary) ≡
      (97 ∷ 0 ∷ 105 ∷ []) ∷ (97 ∷ 0 ∷ 115 ∷ []) ∷ (97 ∷ 0 ∷ 115 ∷ []) ∷ (98 ∷ 0 ∷ 115 ∷ []) ∷ []
  pub json_taken : list_all (is_read (record rules { kind = Json }) json_postings json_places)
      (terms_of json_dictionary)
      ≡ true
