-- The pieces of a text with its tokens.
use Rattle.std.proofs.Common.{◌≡◌, ℕ, List, [], ◌∷◌, ◌++◌, codes, decimal, append_assoc}
use Rattle.json.specs.Print.{escape_byte, quoted}
use Rattle.serde_json.specs.Data.{array}
use Rattle.serde_json.specs.Written.{compact_text}
use Rattle.seg_tokens.specs.declared.token.PreTokenizedString.{PreTokenizedString}
use Rattle.seg_tokens.specs.declared.token.Token.{Token}
use Rattle.seg_values.specs.Tree.{pre_tokenized}
use Rattle.seg_values.specs.ValueJson.{leaf_json, token_json, tokens_items}

pub pre_tokenized_pieces : (out a b c d e : List ℕ) (p : PreTokenizedString) → a ≡ out ++ codes "{\"text\":" → b ≡ a ++ quoted p.text → c ≡ b ++ codes ",\"tokens\":" → d ≡ c ++ compact_text (array (tokens_items p.tokens)) → e ≡ d ++ 125 ∷ [] → e ≡ out ++ compact_text (leaf_json (pre_tokenized p))
unfolding escape_byte
pre_tokenized_pieces out a b c d e p first text second tokens last = rw (last, tokens, second, text, first) (simp append_assoc)

joined : (out a b c d e f g h i j k : List ℕ) → ((((((((((out ++ a) ++ b) ++ c) ++ d) ++ e) ++ f) ++ g) ++ h) ++ i) ++ j) ++ k ≡ out ++ (a ++ (b ++ (c ++ (d ++ (e ++ (f ++ (g ++ (h ++ (i ++ (j ++ k))))))))))
joined out a b c d e f g h i j k = simp append_assoc

-- the pieces of a token
pub token_pieces : (out a b c d e f g h i j k : List ℕ) (t : Token) → a ≡ out ++ codes "{\"offset_from\":" → b ≡ a ++ decimal t.offset_from → c ≡ b ++ codes ",\"offset_to\":" → d ≡ c ++ decimal t.offset_to
    → e ≡ d ++ codes ",\"position\":" → f ≡ e ++ decimal t.position → g ≡ f ++ codes ",\"position_length\":" → h ≡ g ++ decimal t.position_length
    → i ≡ h ++ codes ",\"text\":" → j ≡ i ++ quoted t.text → k ≡ j ++ 125 ∷ [] → k ≡ out ++ compact_text (token_json t)
unfolding escape_byte
token_pieces out a b c d e f g h i j k t one two three four five six seven eight nine ten eleven =
    rw (eleven, ten, nine, eight, seven, six, five, four, three, two, one)
    (joined out (codes "{\"offset_from\":") (decimal t.offset_from) (codes ",\"offset_to\":") (decimal t.offset_to) (codes ",\"position\":") (decimal t.position) (codes ",\"position_length\":") (decimal t.position_length) (codes ",\"text\":") (quoted t.text) (125 ∷ []))
