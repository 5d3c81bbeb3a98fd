-- Postings by themselves, without their positions.
use Rattle.std.specs.Prelude.{ℕ, ◌&&◌, nat_eq, nat_lt, Bool, false, List, [], ◌∷◌, slice_range, Option, Some, None}
use Rattle.std.specs.List.{list_all}
use Rattle.seg_common.specs.declared.term_info.TermInfo.{TermInfo}
use Rattle.seg_termdict.specs.Dictionary.{Term}
use Rattle.seg_postings.specs.declared.record_kind.RecordKind.{RecordKind}
use Rattle.seg_postings.specs.RecordKinds.{kind_byte}
use Rattle.seg_postings.specs.Postings.{Counted, counts_at}
use Rattle.seg_postings.specs.OpenedFields.{FieldRules, kind_by}

-- whether there are documents with their counts, each document below `max_doc`
abbrev pub are_counted : ℕ → Option (List Counted) → Bool
are_counted max_doc None = false
are_counted max_doc (Some cs) = list_all (λ c. nat_lt c.document max_doc) cs

-- whether bytes are a kind, and after it this many documents with their counts, each document below `max_doc`
abbrev pub is_counted_term : RecordKind → ℕ → ℕ → List ℕ → Bool
is_counted_term kind max_doc n [] = false
is_counted_term kind max_doc n (b ∷ bytes) = nat_eq b (kind_byte kind)
    && are_counted max_doc (counts_at kind n 0 0 bytes)

-- whether the bytes in the range of an info are such, of one document or more
abbrev pub is_counted_info : ℕ → List ℕ → RecordKind → TermInfo → Bool
is_counted_info max_doc postings kind info =
    nat_lt 0 info.doc_freq
    && is_counted_term kind max_doc info.doc_freq (slice_range postings info.postings_start info.postings_end)

-- whether those of a term are, of the kind that the rules ask for
abbrev pub is_counted : FieldRules → List ℕ → Term → Bool
is_counted rules postings t = is_counted_info rules.max_doc postings (kind_by rules t.0) t.1
