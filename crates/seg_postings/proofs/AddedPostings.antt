-- The postings of a term as a document is added.
use Rattle.std.proofs.Common.{◌≡◌, ℕ, ◌+◌, ◌-◌, ◌<◌, ◌≤◌, ◌^◌, List, [], ◌∷◌, ◌++◌, refl, ap, sym, ◌∙◌, arith}
use Rattle.std.specs.List.{flat_map}
use Rattle.std.proofs.lemmas.List.{append_assoc, append-nil}
use Rattle.seg_common.specs.Varint.{varint}
use Rattle.seg_model.specs.DocumentTerms.{Posting}
use Rattle.seg_postings.specs.declared.record_kind.RecordKind.{RecordKind}
use Rattle.seg_postings.specs.declared.record_kind.RecordKind.TheVariants.{Documents, Counts, Positions}
use Rattle.seg_postings.specs.PostingsBytes.{differences, count_form, position_form, document_form, documents_form, positions_form}
use Rattle.seg_postings.specs.WritablePostings.{recorded_as, Rise, IsOfKind, AreWritable}
use Rattle.seg_postings.specs.FieldSerializers.{next_document, HasPositions}
use Rattle.seg_postings.specs.FieldParts.{last_document, kept_count}

-- what is kept of a count
pub count_form_is : (kind : RecordKind) (count : ℕ) (ds : List ℕ) → HasPositions kind count ds → count_form (recorded_as kind count ds) ≡ kept_count kind count
count_form_is Documents count ds has = refl
count_form_is Counts count ds has = refl
count_form_is Positions count ds has = ap varint has

pub position_form_is : (kind : RecordKind) (count : ℕ) (ds : List ℕ) → HasPositions kind count ds → position_form (recorded_as kind count ds) ≡ flat_map varint (differences 0 ds)
position_form_is Documents count ds has = rw has refl
position_form_is Counts count ds has = rw has refl
position_form_is Positions count ds has = refl

pub is_of_kind : (kind : RecordKind) (count : ℕ) (ds : List ℕ) → HasPositions kind count ds → 1 ≤ count → count < 2 ^ 32 → Rise 0 ds → IsOfKind kind (recorded_as kind count ds)
is_of_kind Documents count ds has some few rise = refl
is_of_kind Counts count ds has some few rise = (count, some, few, refl)
is_of_kind Positions count ds has some few rise = (ds, omega (arith, has, some), omega (arith, has, few), rise, refl)

module _ (p : Posting) where
  -- one more document
  pub documents_form-push : (before : ℕ) (ps : List Posting) → documents_form before (ps ++ p ∷ []) ≡ documents_form before ps ++ document_form (last_document before ps) p
  documents_form-push before [] = append-nil (document_form before p)
  documents_form-push before (q ∷ ps) = ap (λ x. document_form before q ++ x) (documents_form-push q.document ps) ∙ sym (append_assoc (document_form before q) (documents_form q.document ps) (document_form (last_document q.document ps) p))

  pub positions_form-push : (ps : List Posting) → positions_form (ps ++ p ∷ []) ≡ positions_form ps ++ position_form p.recorded
  positions_form-push [] = append-nil (position_form p.recorded)
  positions_form-push (q ∷ ps) = ap (λ x. position_form q.recorded ++ x) (positions_form-push ps) ∙ sym (append_assoc (position_form q.recorded) (positions_form ps) (position_form p.recorded))

  pub last_document-push : (before : ℕ) (ps : List Posting) → last_document before (ps ++ p ∷ []) ≡ p.document
  last_document-push before [] = refl
  last_document-push before (q ∷ ps) = last_document-push q.document ps

  pub next_document-push : (least : ℕ) (ps : List Posting) → next_document least (ps ++ p ∷ []) ≡ p.document + 1
  next_document-push least [] = refl
  next_document-push least (q ∷ ps) = next_document-push (q.document + 1) ps

  pub writable-push : (kind : RecordKind) (before least : ℕ) (ps : List Posting) → IsOfKind kind p.recorded → p.document < 2 ^ 32 - 1 → next_document (before + least) ps ≤ p.document → AreWritable kind before least ps → AreWritable kind before least (ps ++ p ∷ [])
  writable-push kind before least [] of_kind limit behind fits = (behind, limit, of_kind, tt)
  writable-push kind before least (q ∷ ps) of_kind limit behind (ascends, small, other, rest) = (ascends, small, other, writable-push kind q.document 1 ps of_kind limit behind rest)

-- the last document lies before the next
pub last_before_next : (least : ℕ) (ps : List Posting) → last_document least ps ≤ next_document least ps
last_before_next least [] = omega arith
last_before_next least (q ∷ ps) = shifted q.document ps
  where
    shifted : (d : ℕ) (ps : List Posting) → last_document d ps ≤ next_document (d + 1) ps
    shifted d [] = omega arith
    shifted d (q ∷ ps) = shifted q.document ps
