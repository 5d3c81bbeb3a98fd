use Rattle.std.proofs.Common.{ℤ, pos, negsuc, ◌≡◌, refl, sym, subst, decimal}
use Rattle.std.specs.Prelude.{IfOk}
use Rattle.std.specs.Fmt.{signed_decimal}
use Rattle.std.specs.Int.{w64, cast_signed}
use Rattle.json.specs.Print.{quoted}
use Rattle.serde_json.specs.Data as json
use Rattle.serde_json.specs.Written.{compact_text}
use Rattle.base64.specs.Engines.{standard}
use Rattle.base64.specs.GeneralPurpose.{encode_of}
use Rattle.seg_common.specs.DateText.{date_text}
use Rattle.seg_doc_bytes.specs.FrontReaders as read
use Rattle.seg_doc_bytes.specs.StoredTree as trees
use Rattle.seg_values.specs.AddressText.{address_text}
use Rattle.seg_values.specs.Facets.{path_of}
use Rattle.seg_values.specs.Tree.{null, text, unsigned, signed, boolean, date, facet, byte_string, ip}
use Rattle.seg_text.specs.PrintedFronts.{Printed, Prints}
use Rattle.seg_text.proofs.PrintedFronts.{not_more, leaf_text, prints_leaf}
use Rattle.seg_text.proofs.stored_leaf.push_stored_leaf.Goals as goal

-- an integer by its sign
signed_text : (z : ℤ) → signed_decimal z ≡ leaf_text (signed z)
signed_text (pos n) = refl
signed_text (negsuc n) = refl

pub returns-in_ok-extend_from_slice-in-0 : goal.returns-in_ok-extend_from_slice-in-0
returns-in_ok-extend_from_slice-in-0 c = subst (λ t. Printed (trees.leaf_at t) leaf_text c.args.bytes.now.now c.args.bytes.now.now c.args.out.now.items c.extend_from_slice.new.self.items) (sym c.in-0.is) (record { value = null; is = refl; printed = c.in_ok-extend_from_slice-in-0.ensures.items })

pub returns-in-1 : goal.returns-in-1
returns-in-1 c = prints_leaf c.args.tag 1 text quoted read.text_at c.args.bytes.now.now c.push_stored_text.new.bytes.now c.args.out.now.items c.push_stored_text.new.out.items c.push_stored_text.result c.in-1.is refl (λ x. refl) c.push_stored_text.ensures

pub returns-in-2 : goal.returns-in-2
returns-in-2 c =
    subst (λ t. IfOk c.push_stored_pre_tokenized.result (Prints (trees.leaf_at t) leaf_text c.args.bytes.now.now c.push_stored_pre_tokenized.new.bytes.now c.args.out.now.items c.push_stored_pre_tokenized.new.out.items)) (sym c.in-2.is) c.push_stored_pre_tokenized.ensures

pub returns-in-3 : goal.returns-in-3
returns-in-3 c = prints_leaf c.args.tag 3 unsigned decimal read.number_at c.args.bytes.now.now c.push_stored_unsigned.new.bytes.now c.args.out.now.items c.push_stored_unsigned.new.out.items c.push_stored_unsigned.result c.in-3.is refl (λ x. refl) c.push_stored_unsigned.ensures

pub returns-in-4 : goal.returns-in-4
returns-in-4 c = prints_leaf c.args.tag 4 (λ n. signed (cast_signed w64 n)) (λ n. signed_decimal (cast_signed w64 n)) read.number_at c.args.bytes.now.now c.push_stored_signed.new.bytes.now c.args.out.now.items c.push_stored_signed.new.out.items c.push_stored_signed.result c.in-4.is refl (λ n. signed_text (cast_signed w64 n)) c.push_stored_signed.ensures

pub returns-in-6 : goal.returns-in-6
returns-in-6 c = prints_leaf c.args.tag 6 boolean (λ b. compact_text (json.boolean b)) trees.bit_at c.args.bytes.now.now c.push_stored_bool.new.bytes.now c.args.out.now.items c.push_stored_bool.new.out.items c.push_stored_bool.result c.in-6.is refl (λ x. refl) c.push_stored_bool.ensures

pub returns-in-7 : goal.returns-in-7
returns-in-7 c = prints_leaf c.args.tag 7 (λ n. date (cast_signed w64 n)) (λ n. quoted (date_text (cast_signed w64 n))) read.number_at c.args.bytes.now.now c.push_stored_date.new.bytes.now c.args.out.now.items c.push_stored_date.new.out.items c.push_stored_date.result c.in-7.is refl (λ x. refl) c.push_stored_date.ensures

pub returns-in-8 : goal.returns-in-8
returns-in-8 c = prints_leaf c.args.tag 8 facet (λ t. quoted (path_of t)) read.text_at c.args.bytes.now.now c.push_stored_facet.new.bytes.now c.args.out.now.items c.push_stored_facet.new.out.items c.push_stored_facet.result c.in-8.is refl (λ x. refl) c.push_stored_facet.ensures

pub returns-in-9 : goal.returns-in-9
returns-in-9 c = prints_leaf c.args.tag 9 byte_string (λ b. quoted (encode_of standard b)) read.sized_at c.args.bytes.now.now c.push_stored_bytes.new.bytes.now c.args.out.now.items c.push_stored_bytes.new.out.items c.push_stored_bytes.result c.in-9.is refl (λ x. refl) c.push_stored_bytes.ensures

pub returns-in-12 : goal.returns-in-12
returns-in-12 c = prints_leaf c.args.tag 12 ip (λ o. quoted (address_text o)) (read.front 16) c.args.bytes.now.now c.push_stored_address.new.bytes.now c.args.out.now.items c.push_stored_address.new.out.items c.push_stored_address.result c.in-12.is refl (λ x. refl) c.push_stored_address.ensures

pub returns-in_default : goal.returns-in_default
returns-in_default c = not_more c.args.out.now.items
