use Rattle.std.proofs.Common.{false}
use Rattle.std.specs.Char.{to_ascii_lowercase}
use Rattle.seg_tokens.specs.Tokenizers.{separates_words, is_blank}
use Rattle.seg_tokens.proofs.WordTokens.{in_words_cut}
use Rattle.seg_tokens.proofs.laws.tokens_are_words.Goals as goal

pub returns : goal.returns
returns c = record { default_words = in_words_cut separates_words to_ascii_lowercase; whitespace_words = in_words_cut is_blank (λ byte. byte); raw_words = in_words_cut (λ _. false) (λ byte. byte) }
