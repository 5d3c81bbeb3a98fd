-- What is written is read, whatever follows.
use Rattle.std.proofs.Common.{◌≡◌, ℕ, suc, ◌<◌, ◌^◌, List, [], ◌∷◌, ◌++◌, Some, length, length-append, append_assoc, refl, ap, ◌∙◌, arith}
use Rattle.std.specs.List.{flat_map, AllByRecursion}
use Rattle.std.specs.Int.{w64, to_le_bytes, from_le_bytes}
use Rattle.std.proofs.Math.Seq.{take-append_seam, drop-append_seam}
use Rattle.std.proofs.lemmas.Bool.{le-leb, lt-ltb}
use Rattle.std.proofs.lemmas.Nat.{from_le_bytes-to_le_bytes_8}
use Rattle.std.proofs.lemmas.Str.{is_utf8-from_IsUtf8}
use Rattle.seg_common.specs.Varint.{varint, varint_at}
use Rattle.seg_common.proofs.VarintSteps.{reads_back, u64_has_ten}
use Rattle.seg_values.specs.StoredBytes.{sized}
use Rattle.seg_doc_bytes.specs.FrontReaders.{Reader, then_read, times_at, counted_at, front, sized_at, text_at, small_at, number_at}
use Rattle.seg_doc_bytes.specs.StorableDocuments.{IsText}

-- a reader reads a thing from its bytes
abbrev pub Reads : {A : Type 0} → Reader A → List ℕ → A → Type 0
Reads read form x = (rest : List ℕ) → read (form ++ rest) ≡ Some (x, rest)

pub varint_reads : (n : ℕ) → n < 2 ^ 64 → Reads varint_at (varint n) n
varint_reads n lt rest = reads_back 10 n rest (u64_has_ten n lt) lt

pub small_reads : (n : ℕ) → n < 2 ^ 32 → Reads small_at (varint n) n
small_reads n lt rest = rw (varint_reads n (omega arith) rest) (rw (lt-ltb n (2 ^ 32) lt) refl)

pub front_reads : (bytes rest : List ℕ) → front (length bytes) (bytes ++ rest) ≡ Some (bytes, rest)
front_reads bytes rest = rw (le-leb (length bytes) (length (bytes ++ rest)) (omega (arith, length-append bytes rest)), take-append_seam bytes rest, drop-append_seam bytes rest) refl

pub sized_reads : (bytes : List ℕ) → length bytes < 2 ^ 64 → Reads sized_at (sized bytes) bytes
sized_reads bytes lt rest =
    ap sized_at (append_assoc (varint (length bytes)) bytes rest)
    ∙ ap (λ x. then_read x front) (varint_reads (length bytes) lt (bytes ++ rest))
    ∙ front_reads bytes rest

pub text_reads : (bytes : List ℕ) → IsText bytes → Reads text_at (sized bytes) bytes
text_reads bytes is rest = rw (sized_reads bytes is.small rest) (rw (is_utf8-from_IsUtf8 bytes is.utf8) refl)

pub number_reads : (n : ℕ) → n < 2 ^ 64 → Reads number_at (to_le_bytes w64 n) n
number_reads n lt rest =
    ap (λ x. then_read x (λ word more. Some (from_le_bytes w64 word, more))) (front_reads (to_le_bytes w64 n) rest)
    ∙ ap (λ (m : ℕ). Some (m, rest)) (from_le_bytes-to_le_bytes_8 n lt)

-- one thing after another
pub times_read : {A : Type 0} (read : Reader A) (form : A → List ℕ) (P : A → Type 0) → ((x : A) → P x → Reads read (form x) x) → (xs : List A) → AllByRecursion P xs → Reads (times_at read (length xs)) (flat_map form xs) xs
times_read read form P each [] all rest = refl
times_read read form P each (x ∷ xs) all rest =
    ap (times_at read (suc (length xs))) (append_assoc (form x) (flat_map form xs) rest)
    ∙ ap (λ r. then_read r (λ y more. then_read (times_at read (length xs) more) (λ ys after. Some (y ∷ ys, after)))) (each x all.0 (flat_map form xs ++ rest))
    ∙ ap (λ r. then_read r (λ ys after. Some (x ∷ ys, after))) (times_read read form P each xs all.1 rest)

-- a number, and as many things
pub counted_reads : {A : Type 0} (read : Reader A) (n : ℕ) (form : List ℕ) (xs : List A) → n < 2 ^ 64 → Reads (times_at read n) form xs → Reads (counted_at read) (varint n ++ form) xs
counted_reads read n form xs lt reads rest =
    ap (counted_at read) (append_assoc (varint n) form rest)
    ∙ ap (λ x. then_read x (times_at read)) (varint_reads n lt (form ++ rest))
    ∙ reads rest
