-- Readers: what is at the front of bytes, and the bytes after it.
use Rattle.std.specs.Prelude.{ℕ, zero, suc, nat_lt, nat_le, ◌^◌, if◌then◌else◌, List, [], ◌∷◌, length, take, drop, Option, Some, None}
use Rattle.std.specs.Int.{w64, from_le_bytes}
use Rattle.std.specs.Str.{is_utf8}
use Rattle.seg_common.specs.Varint.{varint_at}

-- what is read, and what is left; nothing where the bytes don't begin with one
abbrev pub Reader : Type 0 → Type 0
Reader A = List ℕ → Option (A × List ℕ)

-- reads on after what was read
abbrev pub then_read : {A B : Type 0} → Option (A × List ℕ) → (A → Reader B) → Option (B × List ℕ)
then_read None next = None
then_read (Some x) next = next x.0 x.1

-- what was read, made into another thing
abbrev pub made_of : {A B : Type 0} → (A → B) → Option (A × List ℕ) → Option (B × List ℕ)
made_of make read = then_read read (λ x rest. Some (make x, rest))

-- this many, one after another
abbrev pub times_at : {A : Type 0} → Reader A → ℕ → Reader (List A)
times_at read zero bytes = Some ([], bytes)
times_at read (suc n) bytes = then_read (read bytes)
    (λ x rest. then_read (times_at read n rest) (λ xs after. Some (x ∷ xs, after)))

-- their number as a varint, and these
abbrev pub counted_at : {A : Type 0} → Reader A → Reader (List A)
counted_at read bytes = then_read (varint_at bytes) (times_at read)

-- this many bytes
abbrev pub front : ℕ → Reader (List ℕ)
front n bytes = if nat_le n (length bytes) then Some (take n bytes, drop n bytes) else None

-- bytes after their number
abbrev pub sized_at : Reader (List ℕ)
sized_at bytes = then_read (varint_at bytes) front

-- a text after the number of its bytes, in UTF-8
abbrev pub text_at : Reader (List ℕ)
text_at bytes = then_read (sized_at bytes) (λ text rest. if is_utf8 text then Some (text, rest) else None)

-- a varint below 2^32
abbrev pub small_at : Reader ℕ
small_at bytes = then_read (varint_at bytes) (λ n rest. if nat_lt n (2 ^ 32) then Some (n, rest) else None)

-- a number in eight bytes, the lowest first
abbrev pub number_at : Reader ℕ
number_at bytes = then_read (front 8 bytes) (λ word rest. Some (from_le_bytes w64 word, rest))
