-- The texts of some values that are known from elsewhere.
use Rattle.std.proofs.Common.{◌≡◌, negsuc, refl, codes, [], ◌∷◌, ◌++◌, List, ℕ, true, replicate}
use Rattle.std.specs.Fmt.{digits}
use Rattle.std.specs.Net.Text.{hex, hex_groups_text}
use Rattle.base64.specs.Rfc4648.{encode_symbols}
use Rattle.json.specs.Print.{escape_byte}
use Rattle.serde_json.specs.Written.{compact_text}
use Rattle.seg_values.specs.Tree.{null, unsigned, signed, boolean, facet, byte_string, pre_tokenized, leaf, array, object, no_trees, tree, no_members, member, Tree}
use Rattle.seg_values.specs.AddressText.{address_text}
use Rattle.seg_values.specs.ValueJson.{value_json}

zero_address : address_text (replicate 16 0) ≡ codes "::"
unfolding hex hex_groups_text
zero_address = refl

mapped_address : address_text (replicate 10 0 ++ 255 ∷ 255 ∷ 192 ∷ 0 ∷ 2 ∷ 1 ∷ []) ≡ codes "192.0.2.1"
unfolding digits
mapped_address = refl

-- of two runs of zeros as long, the first
two_runs : address_text (32 ∷ 1 ∷ 13 ∷ 184 ∷ 0 ∷ 0 ∷ 0 ∷ 0 ∷ 0 ∷ 1 ∷ 0 ∷ 0 ∷ 0 ∷ 0 ∷ 0 ∷ 171 ∷ []) ≡ codes "2001:db8::1:0:0:ab"
unfolding hex hex_groups_text
two_runs = refl

json_text : Tree → List ℕ
json_text t = compact_text (value_json t)

path : json_text (leaf (facet (97 ∷ 0 ∷ 98 ∷ []))) ≡ codes "\"/a/b\""
unfolding json_text escape_byte
path = refl

encoded_bytes : json_text (leaf (byte_string (codes "hi"))) ≡ codes "\"aGk=\""
unfolding json_text escape_byte encode_symbols
encoded_bytes = refl

-- keys in byte order, and the last value of a key
members : json_text (object (member (codes "b") (leaf (unsigned 1)) (member (codes "a") (array (tree (leaf null) (tree (leaf (signed (negsuc 4))) no_trees))) (member (codes "b") (leaf (boolean true)) no_members)))) ≡ codes "{\"a\":[null,-5],\"b\":true}"
unfolding json_text escape_byte digits
members = refl

tokens : json_text (leaf (pre_tokenized (record { text = codes "A"; tokens = record { offset_from = 0; offset_to = 1; position = 2; position_length = 1; text = codes "a" } ∷ [] }))) ≡ codes "{\"text\":\"A\",\"tokens\":[{\"offset_from\":0,\"offset_to\":1,\"position\":2,\"position_length\":1,\"text\":\"a\"}]}"
unfolding json_text escape_byte digits
tokens = refl
