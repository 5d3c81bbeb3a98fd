-- The postings of a term while they are read.
use Rattle.std.specs.Prelude.{ℕ, ◌-◌, ◌^◌, Bool, true, false, List, [], ◌∷◌, length, get_or, Option, Some, None, is_some, option_map, unwrap_or}
use Rattle.std.specs.List.{count_by}
use Rattle.seg_model.specs.DocumentTerms.{Recorded, presence, frequency, positions, Posting}
use Rattle.seg_postings.specs.declared.documents.CountedDocument.{CountedDocument}
use Rattle.seg_postings.specs.declared.record_kind.RecordKind.{RecordKind}
use Rattle.seg_postings.specs.declared.record_kind.RecordKind.TheVariants.{Documents, Counts, Positions}
use Rattle.seg_postings.specs.RecordKinds.{kind_of_byte}
use Rattle.seg_postings.specs.RemainingPostings.{postings_from}

-- the postings that are left, the current one first, and the number of all
pub record OpenPostings : Type 0 where
  pub left : List Posting
  pub all : ℕ

-- the kind that the first byte says, and the bytes after it
abbrev pub kind_at : List ℕ → Option (RecordKind × List ℕ)
kind_at [] = None
kind_at (b ∷ bytes) = option_map (λ kind. (kind, bytes)) (kind_of_byte b)

-- the postings from the current document on, with this many after it; none at the end
unfoldable pub left_from : RecordKind → Option CountedDocument → ℕ → List ℕ → List ℕ → List Posting
left_from kind None n bytes position_bytes = []
left_from kind (Some d) n bytes position_bytes =
    unwrap_or (postings_from kind d.document d.count n bytes position_bytes) []

-- whether they can be read
unfoldable pub can_be_read : RecordKind → Option CountedDocument → ℕ → List ℕ → List ℕ → Bool
can_be_read kind None n bytes position_bytes = true
can_be_read kind (Some d) n bytes position_bytes =
    is_some (postings_from kind d.document d.count n bytes position_bytes)

-- the current document; no document's id at the end
abbrev pub document_of : List Posting → ℕ
document_of [] = 2 ^ 32 - 1
document_of (p ∷ ps) = p.document

-- how often the term occurs by what is recorded; 1 where that isn't kept
abbrev pub count_of : Recorded → ℕ
count_of presence = 1
count_of (frequency n) = n
count_of (positions ps) = length ps

-- how often it occurs in the current document; 1 at the end
abbrev pub term_freq_of : List Posting → ℕ
term_freq_of [] = 1
term_freq_of (p ∷ ps) = count_of p.recorded

-- where it occurs by what is recorded
abbrev pub places_of : Recorded → List ℕ
places_of (positions ps) = ps
places_of _ = []

-- where it occurs in the current document; nowhere at the end
abbrev pub positions_of : List Posting → List ℕ
positions_of [] = []
positions_of (p ∷ ps) = places_of p.recorded

-- the kind that keeps what is recorded
abbrev pub kind_kept : Recorded → RecordKind
kind_kept presence = Documents
kind_kept (frequency n) = Counts
kind_kept (positions ps) = Positions

-- the kind that keeps what is recorded of the current document; none at the end
abbrev pub kept_kind_of : List Posting → Option RecordKind
kept_kind_of [] = None
kept_kind_of (p ∷ ps) = Some (kind_kept p.recorded)

-- how many of the documents are alive; one beyond the set isn't
abbrev pub alive_count : List Bool → List Posting → ℕ
alive_count alive ps = count_by (λ p. get_or alive p.document false) ps
