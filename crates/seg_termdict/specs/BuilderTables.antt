-- What the builder of a dictionary keeps: the table of the keys' ends, their bytes, and the infos.
use Rattle.std.specs.Prelude.{◌≡◌, ℕ, ◌+◌, ◌*◌, ◌-◌, ◌^◌, ◌<◌, ◌≤◌, List, ◌++◌, length, Option, Some, None, nat_lt, if◌then◌else◌}
use Rattle.std.specs.Int.{w32, w64, to_le_bytes}
use Rattle.seg_common.specs.declared.term_info.TermInfo.{TermInfo}
use Rattle.seg_termdict.specs.Dictionary.{key_start, key_of, AreKeys, postings_start, positions_start, AreInfos, terms_in}
use Rattle.seg_termdict.specs.DictionaryBuilders.{Building}

-- this many keys and infos, of which the last key begins at a place
pub record AreWritten (ends keys infos : List ℕ) (key_count info_count last_start : ℕ) : Type 0 where
  pub ends_length : length ends ≡ 8 * key_count
  pub infos_length : length infos ≡ 16 + 20 * info_count
  pub keys_are : AreKeys ends keys key_count
  pub infos_are : AreInfos infos info_count
  pub postings_from : postings_start infos 0 ≡ 0
  pub positions_from : positions_start infos 0 ≡ 0
  pub fewer : info_count ≤ key_count
  pub one_waits : key_count ≤ info_count + 1
  pub last : last_start ≡ key_start ends (key_count - 1)

-- a key more than infos is one that waits
abbrev pub waiting_in : List ℕ → List ℕ → ℕ → ℕ → Option (List ℕ)
waiting_in ends keys key_count info_count = if nat_lt info_count key_count
    then Some (key_of ends keys info_count) else None

-- what was given so far
abbrev pub written : List ℕ → List ℕ → List ℕ → ℕ → ℕ → Building
written ends keys infos key_count info_count = record {
  terms = terms_in ends keys infos info_count;
  waiting = waiting_in ends keys key_count info_count;
}

-- the bytes of an info, which begins where the one before it ends
abbrev pub info_bytes : TermInfo → List ℕ
info_bytes info = to_le_bytes w32 info.doc_freq
    ++ (to_le_bytes w64 info.postings_end ++ to_le_bytes w64 info.positions_end)

-- its numbers fit their bytes
pub record HasWidths (info : TermInfo) : Type 0 where
  pub doc_freq : info.doc_freq < 2 ^ 32
  pub postings_end : info.postings_end < 2 ^ 64
  pub positions_end : info.positions_end < 2 ^ 64
