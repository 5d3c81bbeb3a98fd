use Rattle.std.proofs.Common.{◌≡◌, ◌/◌, ℕ, List, length, replicate, set, ap, ◌∙◌}
use Rattle.std.proofs.lemmas.List.{length-replicate}
use Rattle.seg_bits.specs.BitSets.{words_for, members, is_clear_from}
use Rattle.seg_bits.proofs.LowestBits.{clear_whole}
use Rattle.seg_bits.proofs.SetWords.{all_whole, last_ones, all_cut, cut_clear}
use Rattle.seg_bits.proofs.bit_set.full_words.Goals as goal

pub returns-then-used-eq0-clause-all : goal.returns-then-used-eq0-clause-all
returns-then-used-eq0-clause-all c =
    let is : c.in_ok-words.words.items ≡ replicate (words_for c.args.max_value) 18446744073709551615 = c.in_ok-words.ensures.items_if_clones_equal (λ y h. h) ∙ ap (λ n. replicate n 18446744073709551615) c.num_words.ensures in
    ap (members c.args.max_value) is ∙ all_whole c.args.max_value c.if-used-eq0.true

pub returns-then-used-eq0-clause-clear : goal.returns-then-used-eq0-clause-clear
returns-then-used-eq0-clause-clear c =
    let is : c.in_ok-words.words.items ≡ replicate (words_for c.args.max_value) 18446744073709551615 = c.in_ok-words.ensures.items_if_clones_equal (λ y h. h) ∙ ap (λ n. replicate n 18446744073709551615) c.num_words.ensures in
    clear_whole c.args.max_value c.in_ok-words.words.items (ap length is ∙ length-replicate (words_for c.args.max_value) 18446744073709551615) c.if-used-eq0.true

pub returns-clause-all : goal.returns-clause-all
returns-clause-all c =
    let is : c.in_ok-words.words.items ≡ replicate (words_for c.args.max_value) 18446744073709551615 = c.in_ok-words.ensures.items_if_clones_equal (λ y h. h) ∙ ap (λ n. replicate n 18446744073709551615) c.num_words.ensures in
    ap (λ (words : List ℕ). members c.args.max_value (set words (c.args.max_value / 64) (last_ones c.args.max_value))) is ∙ all_cut c.args.max_value c.if-used-eq0.false

pub returns-clause-clear : goal.returns-clause-clear
returns-clause-clear c =
    let is : c.in_ok-words.words.items ≡ replicate (words_for c.args.max_value) 18446744073709551615 = c.in_ok-words.ensures.items_if_clones_equal (λ y h. h) ∙ ap (λ n. replicate n 18446744073709551615) c.num_words.ensures in
    ap (λ (words : List ℕ). is_clear_from c.args.max_value (set words (c.args.max_value / 64) (last_ones c.args.max_value))) is ∙ cut_clear c.args.max_value c.if-used-eq0.false
