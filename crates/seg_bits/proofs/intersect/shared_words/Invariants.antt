use Rattle.std.proofs.Common.{◌≡◌, ◌<◌, ◌^◌, ◌++◌, ℕ}
use Rattle.std.specs.Int.{w32, w64, to_le_bytes}
use Rattle.std.specs.List.{flat_map}
use Rattle.seg_bits.specs.BitSets.{words_of}
use Rattle.seg_bits.proofs.SharedWords.{shared, shared_word}
use Rattle.seg_bits.proofs.intersect.shared_words.Given as goal

-- the size and the words so far are there
abbrev pub invariant-loop-at : goal.invariant-loop-at
invariant-loop-at l = record {
  so_far : l.bytes.items ≡ to_le_bytes w32 l.max_value ++ flat_map (to_le_bytes w64) (shared (words_of l.left) (words_of l.right) l.at);
  fit : (k : ℕ) → k < l.at → shared_word (words_of l.left) (words_of l.right) k < 2 ^ 64;
}
