-- JSON values whose text is UTF-8 and reads back: their numbers and texts are such as their types hold, and they nest a few levels.
use Rattle.std.proofs.Common.{◌≡◌, ℕ, zero, suc, ◌+◌, ◌/◌, ◌%◌, ◌^◌, ◌<◌, ◌≤◌, List, [], ◌∷◌, map, Bool, true, Option, Some, None, decimal, IsUtf8, codes, refl, arith}
use Rattle.std.specs.Char.{digit_char}
use Rattle.std.specs.List.{AllByRecursion}
use Rattle.std.proofs.lemmas.Bool.Decides.{nat_tests}
use Rattle.std.proofs.lemmas.Fmt.{decimal_by_steps}
use Rattle.std.proofs.lemmas.Str.{IsUtf8-append, IsUtf8-nil}
use Rattle.json.specs.Tree as tree
use Rattle.json.proofs.Printed.Decimals.{IsNumber-decimal}
use Rattle.json.proofs.Printed.Utf8.{are_ascii, IsUtf8-are_ascii, IsUtf8-quoted, IsUtf8-key, IsUtf8-boolean}
use Rattle.serde_json.specs.Data.{Data, null, boolean, string, array, object, Items, Members, no_members, member}
use Rattle.serde_json.specs.View.{items_of}
use Rattle.serde_json.specs.Written.{outline, items_outline, members_outline}
use Rattle.seg_common.specs.SegmentIds.{hex_text, id_text}
use Rattle.seg_model.proofs.Exports.{IsUtf8-ascii}
use Rattle.seg_meta.specs.MetaBounds.{IsText}
use Rattle.seg_meta.specs.MetaJson.{count_json, text_json}
use Rattle.seg_meta.proofs.PrettyJson.{AreUtf8, AreUtf8-append}

-- a value that nests n levels
pub record IsPlain (n : ℕ) (d : Data) : Type 0 where
  pub utf8 : AreUtf8 (tree.json_tokens (outline d))
  pub numbers : tree.HasNumbers (outline d)
  pub shallow : tree.depth (outline d) ≤ n

pub record ArePlain (n : ℕ) (ds : Items) : Type 0 where
  pub utf8 : AreUtf8 (tree.items_tokens (items_outline ds))
  pub numbers : tree.ItemsHaveNumbers (items_outline ds)
  pub shallow : tree.items_depth (items_outline ds) ≤ n

-- members with names of ASCII
abbrev pub HasPlain : ℕ → Members → Type 0
HasPlain n no_members = Unit {0}
HasPlain n (member k d ms) = (are_ascii k ≡ true) × IsPlain n d × HasPlain n ms

record MembersPlain (n : ℕ) (ms : Members) : Type 0 where
  utf8 : AreUtf8 (tree.members_tokens (members_outline ms))
  numbers : tree.MembersHaveNumbers (members_outline ms)
  shallow : tree.members_depth (members_outline ms) ≤ n

IsUtf8-decimal : (n : ℕ) → n < 2 ^ 64 → IsUtf8 (decimal n)
IsUtf8-decimal n h = decimal_by_steps (λ n ds. IsUtf8 ds) (λ n l. IsUtf8-ascii (48 + n) (omega arith)) (λ n ds l u. IsUtf8-append ds ((48 + n % 10) ∷ []) u (IsUtf8-ascii (48 + n % 10) (omega arith))) n h

digit_small : (d : ℕ) → d < 16 → digit_char d < 128
digit_small d h = grind (arith, nat_tests)

pub IsUtf8-hex : (k n : ℕ) → IsUtf8 (hex_text k n)
unfolding hex_text
IsUtf8-hex zero n = IsUtf8-nil
IsUtf8-hex (suc k) n = IsUtf8-append (hex_text k (n / 16)) (digit_char (n % 16) ∷ []) (IsUtf8-hex k (n / 16)) (IsUtf8-ascii (digit_char (n % 16)) (digit_small (n % 16) (omega arith)))

pub plain_null : (n : ℕ) → IsPlain n null
plain_null n = record { utf8 = (IsUtf8-are_ascii (codes "null") refl, tt); numbers = tt; shallow = omega arith }

pub plain_flag : (n : ℕ) (b : Bool) → IsPlain n (boolean b)
plain_flag n b = record { utf8 = (IsUtf8-boolean b, tt); numbers = tt; shallow = omega arith }

pub plain_string : (n : ℕ) (s : List ℕ) → IsUtf8 s → IsPlain n (string s)
plain_string n s u = record { utf8 = (IsUtf8-quoted s u, tt); numbers = tt; shallow = omega arith }

pub plain_count : (n number : ℕ) → number < 2 ^ 64 → IsPlain n (count_json number)
plain_count n number h = record { utf8 = (IsUtf8-decimal number h, tt); numbers = IsNumber-decimal number h; shallow = omega arith }

pub plain_word : (n : ℕ) (s : List ℕ) → are_ascii s ≡ true → IsPlain n (string s)
plain_word n s h = plain_string n s (IsUtf8-are_ascii s h)

pub plain_id : (n id : ℕ) → IsPlain n (string (id_text id))
plain_id n id = plain_string n (id_text id) (IsUtf8-hex 32 id)

-- a text, or null
pub plain_text : (n : ℕ) (text : Option (List ℕ)) → IsText text → IsPlain n (text_json text)
plain_text n None h = plain_null n
plain_text n (Some s) h = plain_string n s h

members_plain : (n : ℕ) (ms : Members) → HasPlain n ms → MembersPlain n ms
members_plain n no_members h = record { utf8 = (IsUtf8-are_ascii (125 ∷ []) refl, tt); numbers = tt; shallow = omega arith }
members_plain n (member k d ms) h =
    let rest = members_plain n ms h.2 in
    record {
      utf8 = (IsUtf8-key k (IsUtf8-are_ascii k h.0), AreUtf8-append _ _ h.1.utf8 rest.utf8);
      numbers = (h.1.numbers, rest.numbers);
      shallow = omega (arith, h.1.shallow, rest.shallow);
    }

pub plain_object : (n : ℕ) (ms : Members) → HasPlain n ms → IsPlain (suc n) (object ms)
plain_object n ms h =
    let inside = members_plain n ms h in
    record { utf8 = (IsUtf8-are_ascii (123 ∷ []) refl, inside.utf8); numbers = inside.numbers; shallow = omega (arith, inside.shallow) }

items_plain : {A : Type 0} (n : ℕ) (write : A → Data) (P : A → Type 0) → ((x : A) → P x → IsPlain n (write x)) → (xs : List A) → AllByRecursion P xs → ArePlain n (items_of (map write xs))
items_plain n write P h [] k = record { utf8 = (IsUtf8-are_ascii (93 ∷ []) refl, tt); numbers = tt; shallow = omega arith }
items_plain n write P h (x ∷ xs) k =
    let first = h x k.0 in
    let rest = items_plain n write P h xs k.1 in
    record {
      utf8 = AreUtf8-append _ _ first.utf8 rest.utf8;
      numbers = (first.numbers, rest.numbers);
      shallow = omega (arith, first.shallow, rest.shallow);
    }

pub plain_list : {A : Type 0} (n : ℕ) (write : A → Data) (P : A → Type 0) → ((x : A) → P x → IsPlain n (write x)) → (xs : List A) → AllByRecursion P xs → IsPlain (suc n) (array (items_of (map write xs)))
plain_list n write P h xs k =
    let inside = items_plain n write P h xs k in
    record { utf8 = (IsUtf8-are_ascii (91 ∷ []) refl, inside.utf8); numbers = inside.numbers; shallow = omega (arith, inside.shallow) }
