-- A term dictionary as a list: how many keys, where each ends, their bytes, the infos, their length, version 1, type 3.
use Rattle.std.specs.Prelude.{◌≡◌, ℕ, zero, suc, ◌+◌, ◌*◌, ◌-◌, ◌<◌, ◌≤◌, List, length, map, slice_range}
use Rattle.std.specs.List.{range_with_len}
use Rattle.std.specs.Ordering.{nat_cmp}
use Rattle.std.specs.Cmp.Lexicographic.{slice_cmp}
use Rattle.std.specs.declared.cmp.Ordering.TheVariants.{Less}
use Rattle.seg_common.specs.declared.term_info.TermInfo.{TermInfo}
use Rattle.seg_common.specs.LittleEndian.{u32_at, u64_at}

-- a key, and what is known of it
abbrev pub Term : Type 0
Term = List ℕ × TermInfo

-- ---- keys: a table of where each ends, eight bytes a key, and their bytes

-- where a key begins: where the one before it ends
unfoldable pub key_start : List ℕ → ℕ → ℕ
key_start ends zero = 0
key_start ends (suc i) = u64_at ends (8 * i)

-- the key at a place
unfoldable pub key_of : List ℕ → List ℕ → ℕ → List ℕ
key_of ends keys i = slice_range keys (key_start ends i) (key_start ends (i + 1))

-- this many keys fill their bytes, and strictly ascend in byte order
pub record AreKeys (ends keys : List ℕ) (count : ℕ) : Type 0 where
  pub rise : (i : ℕ) → i < count → key_start ends i ≤ key_start ends (i + 1)
  pub fill : key_start ends count ≡ length keys
  pub ascend : (i : ℕ) → i + 1 < count → slice_cmp nat_cmp (key_of ends keys i) (key_of ends keys (i + 1)) ≡ Less

-- ---- infos: where the postings and the positions of the first begin, then twenty bytes an info

-- where the postings of a term begin: where those of the one before it end
unfoldable pub postings_start : List ℕ → ℕ → ℕ
postings_start infos i = u64_at infos (20 * i)

-- where its positions begin
unfoldable pub positions_start : List ℕ → ℕ → ℕ
positions_start infos i = u64_at infos (8 + 20 * i)

-- the info at a place
unfoldable pub info_of : List ℕ → ℕ → TermInfo
info_of infos i = record {
  doc_freq = u32_at infos (16 + 20 * i);
  postings_start = postings_start infos i;
  postings_end = postings_start infos (i + 1);
  positions_start = positions_start infos i;
  positions_end = positions_start infos (i + 1);
}

-- the ranges of the first of this many infos begin at 0, and no range ends before it begins
pub record AreInfos (infos : List ℕ) (count : ℕ) : Type 0 where
  pub first_postings : 0 < count → postings_start infos 0 ≡ 0
  pub first_positions : 0 < count → positions_start infos 0 ≡ 0
  pub postings : (i : ℕ) → i < count → postings_start infos i ≤ postings_start infos (i + 1)
  pub positions : (i : ℕ) → i < count → positions_start infos i ≤ positions_start infos (i + 1)

-- ---- terms

-- the term at a place
abbrev pub term_of : List ℕ → List ℕ → List ℕ → ℕ → Term
term_of ends keys infos i = (key_of ends keys i, info_of infos i)

-- the first terms, this many
unfoldable pub terms_in : List ℕ → List ℕ → List ℕ → ℕ → List Term
terms_in ends keys infos count = map (term_of ends keys infos) (range_with_len 0 count)

-- ---- the whole

-- how many keys there are
abbrev pub count_of : List ℕ → ℕ
count_of bytes = u64_at bytes 0

-- the table of their ends
unfoldable pub ends_of : List ℕ → List ℕ
ends_of bytes = slice_range bytes 8 (8 + 8 * count_of bytes)

-- their bytes
unfoldable pub keys_of : List ℕ → List ℕ
keys_of bytes = slice_range bytes (8 + 8 * count_of bytes) (length bytes - (40 + 20 * count_of bytes))

-- the infos, in the store after their number
unfoldable pub infos_of : List ℕ → List ℕ
infos_of bytes = slice_range bytes (length bytes - (32 + 20 * count_of bytes)) (length bytes - 16)

-- bytes are a dictionary
pub record IsDictionary (bytes : List ℕ) : Type 0 where
  pub room : 48 + 28 * count_of bytes ≤ length bytes
  pub kind : u32_at bytes (length bytes - 4) ≡ 3
  pub version : u32_at bytes (length bytes - 8) ≡ 1
  pub store_length : u64_at bytes (length bytes - 16) ≡ 24 + 20 * count_of bytes
  pub number : u64_at bytes (length bytes - (40 + 20 * count_of bytes)) ≡ count_of bytes
  pub keys : AreKeys (ends_of bytes) (keys_of bytes) (count_of bytes)
  pub infos : AreInfos (infos_of bytes) (count_of bytes)

-- its terms
unfoldable pub terms_of : List ℕ → List Term
terms_of bytes = terms_in (ends_of bytes) (keys_of bytes) (infos_of bytes) (count_of bytes)
