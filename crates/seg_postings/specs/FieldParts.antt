-- What is kept of a field whose postings are being written.
use Rattle.std.specs.Prelude.{◌≡◌, ℕ, ◌<◌, ◌≤◌, List, [], ◌∷◌, ◌++◌, length, drop, Option, Some, None, option_map, unwrap_or}
use Rattle.std.specs.List.{AllByRecursion}
use Rattle.seg_common.specs.LittleEndian.{u64_at}
use Rattle.seg_common.specs.Varint.{varint}
use Rattle.seg_termdict.specs.Dictionary.{Term}
use Rattle.seg_termdict.specs.DictionaryBuilders.{Building, last_term, postings_end, positions_end}
use Rattle.seg_model.specs.DocumentTerms.{Posting}
use Rattle.seg_postings.specs.declared.open_term.OpenTerm.{OpenTerm}
use Rattle.seg_postings.specs.declared.record_kind.RecordKind.{RecordKind}
use Rattle.seg_postings.specs.declared.record_kind.RecordKind.TheVariants.{Documents, Counts, Positions}
use Rattle.seg_postings.specs.PostingsBytes.{postings_form, positions_form}
use Rattle.seg_postings.specs.Postings.{TermPostings, term_postings}
use Rattle.seg_postings.specs.WritablePostings.{AreWritable}
use Rattle.seg_postings.specs.Field.{terms_at}
use Rattle.seg_postings.specs.FieldSerializers.{TermWritten, FieldWriting, next_document}

-- the last document of some postings, or else the one before them
abbrev pub last_document : ℕ → List Posting → ℕ
last_document before [] = before
last_document before (p ∷ ps) = last_document p.document ps

-- the bytes of a count, where the kind keeps it
abbrev pub kept_count : RecordKind → ℕ → List ℕ
kept_count Documents count = []
kept_count Counts count = varint count
kept_count Positions count = varint count

-- the bytes of a document, as its difference from the one before, and of its count
abbrev pub occurrence_form : RecordKind → ℕ → ℕ → List ℕ
occurrence_form kind gap count = varint gap ++ kept_count kind count

-- the term that is open, as its bytes so far read
abbrev pub open_term : List ℕ → List ℕ → List ℕ → OpenTerm → TermWritten
open_term key postings positions o = record {
  bytes = key;
  kind = o.kind;
  postings = unwrap_or
      (option_map (λ (t : TermPostings). t.postings)
      (term_postings o.doc_freq (drop o.postings_start postings) (drop o.positions_start positions)))
      [];
}

-- what was given so far
abbrev pub writing : ℕ → ℕ → Option Building → List ℕ → List ℕ → Option OpenTerm → FieldWriting
writing field total None postings positions current =
    record { field = field; total = total; terms = []; current = None }
writing field total (Some b) postings positions current = record {
  field = field;
  total = total;
  terms = unwrap_or (terms_at postings positions b.terms) [];
  current = option_map (open_term (unwrap_or b.waiting []) postings positions) current;
}

-- the bytes of the open term spell its postings
pub record IsOpenTerm (terms : List Term) (postings positions : List ℕ) (o : OpenTerm)
    (ps : List Posting) : Type 0 where
  pub starts : postings_end (last_term None terms) ≡ o.postings_start
  pub positions_starts : positions_end (last_term None terms) ≡ o.positions_start
  pub room : o.postings_start ≤ length postings
  pub positions_room : o.positions_start ≤ length positions
  pub form : drop o.postings_start postings ≡ postings_form o.kind ps
  pub positions_are : drop o.positions_start positions ≡ positions_form ps
  pub writable : AreWritable o.kind 0 0 ps
  pub number : o.doc_freq ≡ length ps
  pub few : o.doc_freq ≤ next_document 0 ps
  pub last : o.last ≡ last_document 0 ps

-- whether a term is open: then its key waits for its info, and else all bytes belong to the terms before
abbrev pub IsOpen : Building → List ℕ → List ℕ → Option OpenTerm → Type 0
IsOpen b postings positions None =
    (b.waiting ≡ None) × (postings_end (last_term None b.terms) ≡ length postings)
    × (positions_end (last_term None b.terms) ≡ length positions)
IsOpen b postings positions (Some o) = ((key : List ℕ) × (b.waiting ≡ Some key))
    × ((ps : List Posting) × IsOpenTerm b.terms postings positions o ps)

-- the ranges of a term lie within these lengths
abbrev pub LiesWithin : ℕ → ℕ → Term → Type 0
LiesWithin postings positions t =
    (t.1.postings_start ≤ t.1.postings_end) × (t.1.postings_end ≤ postings) × (t.1.positions_start ≤ t.1.positions_end)
    × (t.1.positions_end ≤ positions)

-- the parts of a field: postings after the total of its tokens, positions, and a dictionary whose terms can be read
pub record AreParts (total : ℕ) (dictionary : Option Building) (postings positions : List ℕ)
    (current : Option OpenTerm) : Type 0 where
  pub built : Building
  pub is_built : dictionary ≡ Some built
  pub room : 8 ≤ length postings
  pub counted : u64_at postings 0 ≡ total
  pub terms : List TermWritten
  pub read : terms_at (drop 8 postings) positions built.terms ≡ Some terms
  pub occur : AllByRecursion (λ t. 0 < length t.postings) terms
  pub within : AllByRecursion (LiesWithin (length (drop 8 postings)) (length positions)) built.terms
  pub is_open : IsOpen built (drop 8 postings) positions current
