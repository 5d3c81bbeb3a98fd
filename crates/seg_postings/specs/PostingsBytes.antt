-- The bytes that the postings of a term are written as.
use Rattle.std.specs.Prelude.{ℕ, ◌+◌, ◌-◌, List, [], ◌∷◌, ◌++◌, length}
use Rattle.std.specs.List.{flat_map}
use Rattle.seg_common.specs.Varint.{varint}
use Rattle.seg_model.specs.DocumentTerms.{Recorded, presence, frequency, positions, Posting}
use Rattle.seg_postings.specs.declared.record_kind.RecordKind.{RecordKind}
use Rattle.seg_postings.specs.RecordKinds.{kind_byte}

-- each number as its difference from the one before
abbrev pub differences : ℕ → List ℕ → List ℕ
differences before [] = []
differences before (n ∷ ns) = (n - before) ∷ differences n ns

-- the numbers of which these are the differences, the first from the one before
abbrev pub positions_after : ℕ → List ℕ → List ℕ
positions_after before [] = []
positions_after before (delta ∷ deltas) = (before + delta) ∷ positions_after (before + delta) deltas

-- how often the term occurs, where that is kept
abbrev pub count_form : Recorded → List ℕ
count_form presence = []
count_form (frequency n) = varint n
count_form (positions ps) = varint (length ps)

-- where it occurs, where that is kept: these bytes are in the file of positions
abbrev pub position_form : Recorded → List ℕ
position_form (positions ps) = flat_map varint (differences 0 ps)
position_form _ = []

-- a document as its difference from the one before, and its count
abbrev pub document_form : ℕ → Posting → List ℕ
document_form before p = varint (p.document - before) ++ count_form p.recorded

-- all documents, the first as its difference from `before`
abbrev pub documents_form : ℕ → List Posting → List ℕ
documents_form before [] = []
documents_form before (p ∷ ps) = document_form before p ++ documents_form p.document ps

-- the postings of a term: its kind, and its documents
abbrev pub postings_form : RecordKind → List Posting → List ℕ
postings_form kind ps = kind_byte kind ∷ documents_form 0 ps

-- the positions of a term
abbrev pub positions_form : List Posting → List ℕ
positions_form ps = flat_map (λ p. position_form p.recorded) ps
