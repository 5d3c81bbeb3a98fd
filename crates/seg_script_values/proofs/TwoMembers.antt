-- Objects of other than two members.
use Rattle.std.proofs.Common.{◌≡◌, ◌≢◌, List, [], ◌∷◌, length, String, Global, None, refl}
use Rattle.serde_json.specs.View.{members_view}
use Rattle.serde_json.specs.declared.value.Value.{Value}
use Rattle.seg_script_values.specs.TokenizedTexts.{text_and_tokens}

-- such an object is no text with its tokens
pub not_two : (ms : List (String Global × Value)) → length ms ≢ 2 → text_and_tokens (members_view ms) ≡ None
not_two [] h = refl
not_two (m ∷ []) h = refl
not_two (m ∷ n ∷ []) h = absurd (h refl)
not_two (m ∷ n ∷ o ∷ ms) h = refl
