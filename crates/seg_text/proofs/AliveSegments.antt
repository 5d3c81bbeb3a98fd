-- Segments whose documents are all alive.
use Rattle.std.proofs.Common.{◌≡◌, ℕ, zero, suc, ◌+◌, ◌*◌, ◌++◌, ◌∙◌, List, [], true, refl, arith, replicate, count_by}
use Rattle.std.proofs.lemmas.List.Folds.{sum_by-replicate}
use Rattle.seg_model.specs.Fields.{Schema}
use Rattle.seg_model.specs.Contents.{Reading}
use Rattle.seg_text.specs.HeaderText.{header_text, dead_from, dead_text}
use Rattle.seg_text.specs.FieldText.{fields_text}
use Rattle.seg_text.specs.DocumentText.{documents_text}
use Rattle.seg_text.specs.SegmentText.{segment_text}

dead_from-replicate : (n first : ℕ) → dead_from first (replicate n true) ≡ []
dead_from-replicate zero first = refl
dead_from-replicate (suc n) first = dead_from-replicate n (first + 1)

-- no line tells of deleted documents
pub dead_text-replicate : (n : ℕ) → dead_text (replicate n true) ≡ []
dead_text-replicate n = rw (dead_from-replicate n 0)

-- as many are alive as there are
pub count_by-replicate : (n : ℕ) → count_by (λ b. b) (replicate n true) ≡ n
count_by-replicate n = let e : n * 1 ≡ n = omega arith in sum_by-replicate _ n true ∙ e

-- the first line, the fields and the documents
pub segment_text-replicate : (schema : Schema) (label : List ℕ) (id : ℕ) (reading : Reading) → segment_text schema (record { label = label; id = id; alive = replicate reading.documents true; reading = reading }) ≡ header_text label id reading.documents reading.documents ++ (fields_text schema reading.terms ++ documents_text schema reading.stored)
segment_text-replicate schema label id reading = rw (count_by-replicate reading.documents, dead_from-replicate reading.documents 0)
