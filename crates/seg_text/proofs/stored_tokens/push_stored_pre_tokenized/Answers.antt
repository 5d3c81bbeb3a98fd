use Rattle.std.proofs.Common.{codes, refl, subst}
use Rattle.json.specs.Print.{quoted}
use Rattle.serde_json.specs.Data.{array}
use Rattle.serde_json.specs.Written.{compact_text}
use Rattle.seg_doc_bytes.specs.FrontReaders as read
use Rattle.seg_doc_bytes.specs.StoredTree as trees
use Rattle.seg_values.specs.Tree.{pre_tokenized}
use Rattle.seg_values.specs.ValueJson.{tokens_items}
use Rattle.seg_text.specs.PrintedFronts.{Prints}
use Rattle.seg_text.proofs.PrintedFronts.{not_more, more_by, more_then}
use Rattle.seg_text.proofs.PrintedTokens.{pre_tokenized_pieces}
use Rattle.seg_text.proofs.stored_tokens.push_stored_pre_tokenized.Goals as goal

pub returns-in_default : goal.returns-in_default
returns-in_default c = not_more c.args.out.now.items

pub returns-in_default-2 : goal.returns-in_default-2
returns-in_default-2 c =
    let out = c.args.out.now.items in
    let a = c.extend_from_slice.new.self.items in
    let b = c.push_quoted.new.out.items in
    let d = c.extend_from_slice-2.new.self.items in
    let after = c.push_stored_tokens.new.out.items in
    let more = subst (Prints (read.counted_at trees.token_at) (λ ts. compact_text (array (tokens_items ts))) c.take_text.new.bytes.now c.push_stored_tokens.new.bytes.now d after) c.in_default-2.is c.in_ok-push_stored_tokens.ensures in
    more_then out a after (more_by out a (codes "{\"text\":") c.in_ok-extend_from_slice.ensures.items)
    (more_then a b after (more_by a b (quoted c.in-Some.text.now) c.in_ok-push_quoted.ensures)
    (more_then b d after (more_by b d (codes ",\"tokens\":") c.in_ok-extend_from_slice-2.ensures.items) more))

pub returns : goal.returns
returns c =
    let p = subst (Prints (read.counted_at trees.token_at) (λ ts. compact_text (array (tokens_items ts))) c.take_text.new.bytes.now c.push_stored_tokens.new.bytes.now c.extend_from_slice-2.new.self.items c.push_stored_tokens.new.out.items) c.in-Some-2.is c.in_ok-push_stored_tokens.ensures in
    record {
      value = pre_tokenized (record { text = c.in-Some.text.now; tokens = p.value });
      is = rw c.in-Some.ensures (rw p.is refl);
      printed = pre_tokenized_pieces c.args.out.now.items c.extend_from_slice.new.self.items c.push_quoted.new.out.items c.extend_from_slice-2.new.self.items c.push_stored_tokens.new.out.items c.push.new.self.items (record { text = c.in-Some.text.now; tokens = p.value })
          c.in_ok-extend_from_slice.ensures.items c.in_ok-push_quoted.ensures c.in_ok-extend_from_slice-2.ensures.items p.printed c.in_ok-push.ensures.items;
    }
