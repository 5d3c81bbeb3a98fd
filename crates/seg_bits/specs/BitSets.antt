-- Sets of the numbers below a size: for each number whether it is in. In bytes: the size in four
-- bytes, and a bit for each number, the lowest first, 64 in a word of eight bytes; the bits after the
-- last number are 0, and nothing follows.
use Rattle.std.specs.Prelude.{ℕ, ◌+◌, ◌*◌, ◌≡◌, ◌==◌, ◌&&◌, if◌then◌else◌, ◌^◌, ◌<◌, List, Bool, true, not, length, take, drop, get_or, map, Option, Some, None}
use Rattle.std.specs.Int.{bit_at, div_ceil}
use Rattle.std.specs.List.{flat_map, list_all, range_with_len, count_by}
use Rattle.std.specs.Io.KnownBytes.{Appends}
use Rattle.seg_common.specs.LittleEndian.{u32_at, u64_at}
use Rattle.seg_common.specs.Streams.{AppendsPart}
use Rattle.seg_common.specs.Marks.{kept, both_marked}

-- how many words hold this many bits
abbrev pub words_for : ℕ → ℕ
words_for size = div_ceil size 64

-- the bits of a word, the lowest first
unfoldable pub word_bits : ℕ → List Bool
word_bits word = map (λ i. bit_at word i == 1) (range_with_len 0 64)

-- the bits of words, one after another
unfoldable pub bits_of : List ℕ → List Bool
bits_of words = flat_map word_bits words

-- which of the numbers below a size are in
abbrev pub members : ℕ → List ℕ → List Bool
members size words = take size (bits_of words)

-- whether no bit is set after the last number
abbrev pub is_clear_from : ℕ → List ℕ → Bool
is_clear_from size words = list_all not (drop size (bits_of words))

-- how many numbers are in
abbrev pub member_count : List Bool → ℕ
member_count set = count_by (λ b. b) set

-- words keep a set with its count: as many words as its size needs, and no bit set after its last number
pub record KeepsSet (size : ℕ) (words : List ℕ) (count : ℕ) : Type 0 where
  pub small : size < 2 ^ 32
  pub enough : length words ≡ words_for size
  pub clear : is_clear_from size words ≡ true
  pub counted : count ≡ member_count (members size words)

-- the numbers that are in, ascending, where the first one of the list is n
abbrev pub numbers_from : ℕ → List Bool → List ℕ
numbers_from n set = kept set (range_with_len n (length set))

-- the words after the size
unfoldable pub words_of : List ℕ → List ℕ
words_of bytes = map (λ i. u64_at bytes (4 + 8 * i)) (range_with_len 0 (words_for (u32_at bytes 0)))

-- whether bytes are a set
unfoldable pub is_bit_set : List ℕ → Bool
is_bit_set bytes = (length bytes == 4 + 8 * words_for (u32_at bytes 0))
    && is_clear_from (u32_at bytes 0) (words_of bytes)

-- the set that bytes have
abbrev pub set_in : List ℕ → List Bool
set_in bytes = members (u32_at bytes 0) (words_of bytes)

-- what bytes read as
unfoldable pub set_of : List ℕ → Option (List Bool)
set_of bytes = if is_bit_set bytes then Some (set_in bytes) else None

-- bytes that read as the set were appended
abbrev pub AppendsSet : Option (List ℕ) → Option (List ℕ) → List Bool → Type 0
AppendsSet old new set = (bytes : List ℕ) × (set_of bytes ≡ Some set) × Appends old new bytes

-- some first bytes of such bytes were appended
abbrev pub AppendsPartOfSet : Option (List ℕ) → Option (List ℕ) → List Bool → Type 0
AppendsPartOfSet old new set = (bytes : List ℕ) × (set_of bytes ≡ Some set) × AppendsPart old new bytes

-- each is a byte
abbrev pub AreBytes : List ℕ → Type 0
AreBytes bytes = (i : ℕ) → get_or bytes i 0 < 256

-- bytes that read as one set are the same
abbrev pub SetsHaveOneForm : Type 0
SetsHaveOneForm = (a b : List ℕ) (set : List Bool) → AreBytes a → AreBytes b
    → set_of a ≡ Some set → set_of b ≡ Some set → a ≡ b

-- what two alive sets share does not depend on their order or grouping
pub record AliveSetsMeet : Type 0 where
  pub commutative : (as' bs : List Bool) → both_marked as' bs ≡ both_marked bs as'
  pub associative : (as' bs cs : List Bool) → both_marked (both_marked as' bs) cs ≡ both_marked as' (both_marked bs cs)
  pub idempotent : (as' : List Bool) → both_marked as' as' ≡ as'
