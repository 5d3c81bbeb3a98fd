-- Terms that are written document by document, each begun by its first one.
use Rattle.std.specs.Prelude.{◌≡◌, ℕ, ◌+◌, ◌-◌, ◌<◌, ◌≤◌, ◌^◌, List, [], ◌∷◌, ◌++◌, length, Option, Some, None, unwrap_or, IfSome}
use Rattle.std.specs.Ordering.{nat_cmp}
use Rattle.std.specs.Cmp.Lexicographic.{slice_cmp}
use Rattle.std.specs.declared.cmp.Ordering.TheVariants.{Less}
use Rattle.seg_model.specs.DocumentTerms.{Posting}
use Rattle.seg_postings.specs.declared.record_kind.RecordKind.{RecordKind}
use Rattle.seg_postings.specs.declared.record_kind.RecordKind.TheVariants.{Documents, Counts, Positions}
use Rattle.seg_postings.specs.FieldSerializers.{TermWritten, FieldWriting, with_open, last_written}
use Rattle.seg_postings.specs.OpenPostings.{kind_kept, count_of}
use Rattle.seg_postings.specs.WritablePostings.{Rise, recorded_as}

-- no term was written, and none is open
pub record IsUnwritten (w : FieldWriting) : Type 0 where
  pub empty : w.terms ≡ []
  pub closed : w.current ≡ None

-- these are the terms, and none is open
abbrev pub with_terms : List TermWritten → FieldWriting → FieldWriting
with_terms terms w = record w { terms = terms; current = None }

-- a term with these postings, of which the first says what they keep; none without a posting
abbrev pub term_with : List ℕ → List Posting → Option TermWritten
term_with bytes [] = None
term_with bytes (p ∷ ps) = Some (record { bytes = bytes; kind = kind_kept p.recorded; postings = p ∷ ps })

-- a term came with its postings, where it has some, and none is open
abbrev pub with_whole_term : List ℕ → List Posting → FieldWriting → FieldWriting
with_whole_term bytes postings w = record w { terms = with_open w.terms (term_with bytes postings); current = None }

-- the postings of the open term; none where none is open
abbrev pub open_postings : Option TermWritten → List Posting
open_postings None = []
open_postings (Some t) = t.postings

-- more postings of a term came; the first of all begins it
abbrev pub with_more : List ℕ → List Posting → FieldWriting → FieldWriting
with_more bytes more w = record w { current = term_with bytes (open_postings w.current ++ more) }

-- a term is open: it was, or it is opened without a posting
abbrev pub opened : List ℕ → RecordKind → FieldWriting → FieldWriting
opened bytes kind w =
    record w { current = Some (unwrap_or w.current (record { bytes = bytes; kind = kind; postings = [] })) }

-- what a kind records of a document
abbrev pub posting_of : RecordKind → ℕ → ℕ → List ℕ → Posting
posting_of kind document count places = record { document = document; recorded = recorded_as kind count places }

-- a count and positions that don't fall are what a kind records: once where it keeps no count, and
-- no position where it keeps none
abbrev pub AreOfKind : RecordKind → ℕ → List ℕ → Type 0
AreOfKind Documents count places = (count ≡ 1) × (places ≡ [])
AreOfKind Counts count places = places ≡ []
AreOfKind Positions count places = (count ≡ length places) × Rise 0 places

-- postings by ascending documents, from the id `least` on, with what a kind keeps, and of a term that occurs in each
abbrev pub AscendBy : RecordKind → ℕ → List Posting → Type 0
AscendBy kind least [] = Unit {0}
AscendBy kind least (p ∷ ps) =
    (least ≤ p.document) × (p.document < 2 ^ 32 - 1) × (kind_kept p.recorded ≡ kind) × (1 ≤ count_of p.recorded)
    × AscendBy kind (p.document + 1) ps

-- all postings of a term: they ascend, and keep what the first keeps
abbrev pub AreOfTerm : List Posting → Type 0
AreOfTerm [] = Unit {0}
AreOfTerm (p ∷ ps) = AscendBy (kind_kept p.recorded) 0 (p ∷ ps)

-- a field may be given more postings of a term: none other is open, and the term is greater than those that are closed
pub record MayTake (bytes : List ℕ) (more : List Posting) (w : FieldWriting) : Type 0 where
  pub ascends : IfSome (last_written None w.terms) (λ t. slice_cmp nat_cmp t.bytes bytes ≡ Less)
  pub is_open : w.current ≡ term_with bytes (open_postings w.current)
  pub are : AreOfTerm (open_postings w.current ++ more)
