-- The infos of a dictionary, and one more info.
use Rattle.std.proofs.Common.{◌≡◌, ℕ, ◌+◌, ◌*◌, ◌<◌, ◌≤◌, List, ◌++◌, length, refl, sym, ap, ◌∙◌, arith, inl, inr}
use Rattle.std.specs.Int.{w32, w64, to_le_bytes}
use Rattle.std.proofs.lemmas.Bool.{cases_lt}
use Rattle.std.proofs.lemmas.List.{length-append, append_assoc}
use Rattle.seg_common.specs.LittleEndian.{u32_at, u64_at}
use Rattle.seg_common.specs.declared.term_info.TermInfo.{TermInfo}
use Rattle.seg_common.proofs.Bytes.{u32_at-front, u64_at-front, u32_at-written, u64_at-written, u64_at-end}
use Rattle.seg_termdict.specs.Dictionary.{postings_start, positions_start, info_of, AreInfos}
use Rattle.seg_termdict.specs.BuilderTables.{info_bytes, HasWidths}

postings_start-front : (infos more : List ℕ) (count i : ℕ) → length infos ≡ 16 + 20 * count → i ≤ count → postings_start (infos ++ more) i ≡ postings_start infos i
unfolding postings_start
postings_start-front infos more count i len h = u64_at-front infos more (20 * i) (omega arith)

positions_start-front : (infos more : List ℕ) (count i : ℕ) → length infos ≡ 16 + 20 * count → i ≤ count → positions_start (infos ++ more) i ≡ positions_start infos i
unfolding positions_start
positions_start-front infos more count i len h = u64_at-front infos more (8 + 20 * i) (omega arith)

pub info_of-front : (infos more : List ℕ) (count i : ℕ) → length infos ≡ 16 + 20 * count → i < count → info_of (infos ++ more) i ≡ info_of infos i
unfolding info_of
info_of-front infos more count i len h =
    rw (u32_at-front infos more (16 + 20 * i) (omega arith), postings_start-front infos more count i len (omega arith), postings_start-front infos more count (i + 1) len (omega arith), positions_start-front infos more count i len (omega arith), positions_start-front infos more count (i + 1) len (omega arith)) refl

-- an info whose ranges begin where those of the last end
pub record IsNext (infos : List ℕ) (count : ℕ) (info : TermInfo) : Type 0 where
  pub postings : info.postings_start ≡ postings_start infos count
  pub positions : info.positions_start ≡ positions_start infos count
  pub postings_rise : info.postings_start ≤ info.postings_end
  pub positions_rise : info.positions_start ≤ info.positions_end

module _ (infos : List ℕ) (count : ℕ) (info : TermInfo) (len : length infos ≡ 16 + 20 * count) (fit : HasWidths info) where
  doc_freq_after : u32_at (infos ++ info_bytes info) (16 + 20 * count) ≡ info.doc_freq
  doc_freq_after = u32_at-written infos (to_le_bytes w64 info.postings_end ++ to_le_bytes w64 info.positions_end) info.doc_freq (16 + 20 * count) fit.doc_freq len

  postings_after : postings_start (infos ++ info_bytes info) (count + 1) ≡ info.postings_end
  unfolding postings_start
  postings_after =
      let first = to_le_bytes w32 info.doc_freq in
      let rest = to_le_bytes w64 info.postings_end ++ to_le_bytes w64 info.positions_end in
      ap (λ (l : List ℕ). u64_at l (20 * (count + 1))) (sym (append_assoc infos first rest)) ∙ u64_at-written (infos ++ first) (to_le_bytes w64 info.positions_end) info.postings_end (20 * (count + 1)) fit.postings_end (omega (arith, length-append infos first, len))

  positions_after : positions_start (infos ++ info_bytes info) (count + 1) ≡ info.positions_end
  unfolding positions_start
  positions_after =
      let first = to_le_bytes w32 info.doc_freq in
      let second = to_le_bytes w64 info.postings_end in
      let third = to_le_bytes w64 info.positions_end in
      ap (λ (l : List ℕ). u64_at l (8 + 20 * (count + 1))) (sym (append_assoc (infos ++ first) second third ∙ append_assoc infos first (second ++ third))) ∙ u64_at-end ((infos ++ first) ++ second) info.positions_end (8 + 20 * (count + 1)) fit.positions_end (omega (arith, length-append (infos ++ first) second, length-append infos first, len))

  pub info_after : IsNext infos count info → info_of (infos ++ info_bytes info) count ≡ info
  unfolding info_of
  info_after next =
      let more = info_bytes info in
      rw (doc_freq_after, postings_after, positions_after, postings_start-front infos more count count len (omega arith), positions_start-front infos more count count len (omega arith), ← next.postings, ← next.positions) refl

  pub postings_from_after : postings_start (infos ++ info_bytes info) 0 ≡ postings_start infos 0
  postings_from_after = postings_start-front infos (info_bytes info) count 0 len (omega arith)

  pub positions_from_after : positions_start (infos ++ info_bytes info) 0 ≡ positions_start infos 0
  positions_from_after = positions_start-front infos (info_bytes info) count 0 len (omega arith)

  pub infos_after : AreInfos infos count → IsNext infos count info → postings_start infos 0 ≡ 0 → positions_start infos 0 ≡ 0 → AreInfos (infos ++ info_bytes info) (count + 1)
  infos_after are next a b =
      let more = info_bytes info in
      record {
        first_postings = λ h. postings_from_after ∙ a;
        first_positions = λ h. positions_from_after ∙ b;
        postings = λ i h. elim (cases_lt i count) [
          | inl lt ↦ rw (postings_start-front infos more count i len (omega arith), postings_start-front infos more count (i + 1) len (omega arith)) (are.postings i lt)
          | inr le ↦ let e : i ≡ count = omega arith in rw (e, postings_after, postings_start-front infos more count count len (omega arith), ← next.postings) next.postings_rise
        ];
        positions = λ i h. elim (cases_lt i count) [
          | inl lt ↦ rw (positions_start-front infos more count i len (omega arith), positions_start-front infos more count (i + 1) len (omega arith)) (are.positions i lt)
          | inr le ↦ let e : i ≡ count = omega arith in rw (e, positions_after, positions_start-front infos more count count len (omega arith), ← next.positions) next.positions_rise
        ];
      }
