-- Sets that are written are read back, and what a write that fails leaves.
use Rattle.std.proofs.Common.{◌≡◌, ◌<◌, ℕ, zero, suc, ◌+◌, ◌*◌, ◌^◌, true, List, [], ◌∷◌, ◌++◌, Option, Some, length, take, drop, get_or, sym, ap, ◌∙◌, subst, arith, append_assoc, length-append}
use Rattle.std.specs.Int.{w32, w64, to_le_bytes, from_le_bytes}
use Rattle.std.specs.List.{flat_map}
use Rattle.std.specs.Io.KnownBytes.{Appends}
use Rattle.std.proofs.lemmas.Grind.{flat_map-append}
use Rattle.std.proofs.lemmas.List.{drop-drop, ext_get_or, take-append-drop, take_more, append-nil}
use Rattle.std.proofs.lemmas.Nat.{from_le_bytes-to_le_bytes_4, from_le_bytes-to_le_bytes_8}
use Rattle.seg_common.specs.LittleEndian.{u32_at, u64_at}
use Rattle.seg_common.specs.Streams.{AppendsPart}
use Rattle.seg_common.proofs.KnownBytes.{part_of_front, front_and_part}
use Rattle.seg_common.proofs.Bytes.{length-numbers}
use Rattle.seg_bits.specs.BitSets.{words_for, members, is_clear_from, words_of, is_bit_set, set_in, set_of}
use Rattle.seg_bits.proofs.SetBytes.{length-words_of, get_or-words_of, is_set, reads_some}

-- a size, and words after it
abbrev pub spelled : ℕ → List ℕ → List ℕ
spelled size words = to_le_bytes w32 size ++ flat_map (to_le_bytes w64) words

pub size_at : (size : ℕ) (words : List ℕ) → size < 2 ^ 32 → u32_at (spelled size words) 0 ≡ size
unfolding u32_at
size_at size words small = from_le_bytes-to_le_bytes_4 size small

word_in : (words : List ℕ) (i : ℕ) → i < length words → ((k : ℕ) → get_or words k 0 < 2 ^ 64) → from_le_bytes w64 (take 8 (drop (8 * i) (flat_map (to_le_bytes w64) words))) ≡ get_or words i 0
word_in [] i h small = absurd (omega arith)
word_in (w ∷ ws) zero h small = from_le_bytes-to_le_bytes_8 w (small 0)
word_in (w ∷ ws) (suc i) h small =
    let e : 8 * suc i ≡ 8 + 8 * i = omega arith in
    ap (λ n. from_le_bytes w64 (take 8 (drop n (flat_map (to_le_bytes w64) (w ∷ ws))))) e
    ∙ ap (λ bs. from_le_bytes w64 (take 8 bs)) (sym (drop-drop (8 * i) 8 (flat_map (to_le_bytes w64) (w ∷ ws))))
    ∙ word_in ws i (omega arith) (λ k. small (suc k))

module _ (size : ℕ) (words : List ℕ) (small : size < 2 ^ 32) (enough : length words ≡ words_for size) (fit : (k : ℕ) → get_or words k 0 < 2 ^ 64) where
  number_of_words : length (words_of (spelled size words)) ≡ length words
  number_of_words = length-words_of (spelled size words) ∙ ap words_for (size_at size words small) ∙ sym enough

  word_at : (i : ℕ) → i < length words → u64_at (spelled size words) (4 + 8 * i) ≡ get_or words i 0
  unfolding u64_at
  word_at i h = ap (λ bs. from_le_bytes w64 (take 8 bs)) (sym (drop-drop (8 * i) 4 (spelled size words))) ∙ word_in words i h fit

  pub words_back : words_of (spelled size words) ≡ words
  words_back = ext_get_or 0 (words_of (spelled size words)) words number_of_words (λ i h.
      let below : i < words_for (u32_at (spelled size words) 0) = omega (arith, length-words_of (spelled size words)) in
      get_or-words_of (spelled size words) i below ∙ word_at i (omega (arith, number_of_words)))

  pub set_back : set_in (spelled size words) ≡ members size words
  set_back = ap (λ n. members n (words_of (spelled size words))) (size_at size words small) ∙ ap (members size) words_back

  pub is_set_back : is_clear_from size words ≡ true → is_bit_set (spelled size words) ≡ true
  is_set_back clear =
      let long : length (spelled size words) ≡ 4 + 8 * words_for (u32_at (spelled size words) 0) =
      length-append (to_le_bytes w32 size) (flat_map (to_le_bytes w64) words) ∙ ap (λ n. 4 + n) (length-numbers words ∙ ap (λ n. 8 * n) (enough ∙ ap words_for (sym (size_at size words small)))) in
      is_set (spelled size words) long
      (ap (λ n. is_clear_from n (words_of (spelled size words))) (size_at size words small) ∙ ap (is_clear_from size) words_back ∙ clear)

  pub read_back : is_clear_from size words ≡ true → set_of (spelled size words) ≡ Some (members size words)
  read_back clear = reads_some (spelled size words) (is_set_back clear) ∙ ap Some set_back

-- ---- parts

pub words_more : (words : List ℕ) (i : ℕ) → i < length words → flat_map (to_le_bytes w64) (take (i + 1) words) ≡ flat_map (to_le_bytes w64) (take i words) ++ to_le_bytes w64 (get_or words i 0)
words_more words i h =
    ap (flat_map (to_le_bytes w64)) (take_more words i 0 h) ∙ flat_map-append (to_le_bytes w64) (take i words) (get_or words i 0 ∷ [])
    ∙ ap (λ bs. flat_map (to_le_bytes w64) (take i words) ++ bs) (append-nil (to_le_bytes w64 (get_or words i 0)))

-- the words so far, and a part of the next
pub part_of_words : (a b c : Option (List ℕ)) (front words : List ℕ) (i : ℕ) → i < length words → Appends a b (front ++ flat_map (to_le_bytes w64) (take i words)) → AppendsPart b c (to_le_bytes w64 (get_or words i 0)) → AppendsPart a c (front ++ flat_map (to_le_bytes w64) words)
part_of_words a b c front words i h so_far part =
    let some : List ℕ = flat_map (to_le_bytes w64) (take i words) in
    let next : List ℕ = to_le_bytes w64 (get_or words i 0) in
    let rest : List ℕ = flat_map (to_le_bytes w64) (drop (i + 1) words) in
    let split : flat_map (to_le_bytes w64) words ≡ (some ++ next) ++ rest =
    ap (flat_map (to_le_bytes w64)) (sym (take-append-drop (i + 1) words)) ∙ flat_map-append (to_le_bytes w64) (take (i + 1) words) (drop (i + 1) words) ∙ ap (λ bs. bs ++ rest) (words_more words i h) in
    let whole : front ++ flat_map (to_le_bytes w64) words ≡ ((front ++ some) ++ next) ++ rest =
    ap (λ bs. front ++ bs) split ∙ sym (append_assoc front (some ++ next) rest) ∙ ap (λ bs. bs ++ rest) (sym (append_assoc front some next)) in
    subst (AppendsPart a c) (sym whole) (part_of_front a c ((front ++ some) ++ next) rest (front_and_part a b c (front ++ some) next so_far part))
