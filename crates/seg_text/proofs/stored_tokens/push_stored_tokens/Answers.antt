use Rattle.std.proofs.Common.{◌∷◌, [], subst}
use Rattle.serde_json.specs.Data.{array}
use Rattle.serde_json.specs.Written.{comma_if, compact_text}
use Rattle.seg_doc_bytes.specs.FrontReaders as read
use Rattle.seg_doc_bytes.specs.StoredTree as trees
use Rattle.seg_values.specs.ValueJson.{token_json, tokens_items}
use Rattle.seg_text.specs.PrintedFronts.{Prints}
use Rattle.seg_text.proofs.PrintedFronts.{not_more, printed_text}
use Rattle.seg_text.proofs.PrintedCounts.{no_item, one_item, item_given_up, all_items, listed_text, tokens_listed}
use Rattle.seg_text.proofs.stored_tokens.push_stored_tokens.Goals as goal

pub returns-in_default : goal.returns-in_default
returns-in_default c = not_more c.args.out.now.items

pub loop-init : goal.loop-init
loop-init c = no_item trees.token_at token_json c.in-Some.count c.take_varint.new.bytes.now c.push.new.self.items

pub loop-preserved : goal.loop-preserved
loop-preserved c =
    let printed = subst (Prints trees.token_at (λ t. compact_text (token_json t)) c.loop.bytes.now c.push_stored_token.new.bytes.now c.push_comma_if.new.out.items c.push_stored_token.new.out.items) c.in-Some-2.is c.in_ok-push_stored_token.ensures in
    one_item trees.token_at token_json c.in-Some.count c.take_varint.new.bytes.now c.loop.counter c.loop.bytes.now c.push_stored_token.new.bytes.now c.push.new.self.items c.loop.out.items c.push_comma_if.new.out.items c.push_stored_token.new.out.items c.loop.later c.loop-test.true c.loop.invariant c.in_ok-push_comma_if.ensures printed

pub returns-in_default-2 : goal.returns-in_default-2
returns-in_default-2 c =
    let more = subst (Prints trees.token_at (λ t. compact_text (token_json t)) c.loop.bytes.now c.push_stored_token.new.bytes.now c.push_comma_if.new.out.items c.push_stored_token.new.out.items) c.in_default-2.is c.in_ok-push_stored_token.ensures in
    item_given_up c.args.out.now.items c.push.new.self.items c.loop.out.items c.push_comma_if.new.out.items c.push_stored_token.new.out.items (91 ∷ []) (comma_if c.loop.later) c.in_ok-push.ensures.items c.loop.invariant.grown c.in_ok-push_comma_if.ensures more

pub returns : goal.returns
returns c =
    printed_text (read.counted_at trees.token_at) (listed_text token_json) (λ ts. compact_text (array (tokens_items ts))) c.args.bytes.now.now c.loop.bytes.now c.args.out.now.items c.push-2.new.self.items tokens_listed
    (all_items trees.token_at token_json c.args.bytes.now.now c.in-Some.count c.take_varint.new.bytes.now c.loop.counter c.loop.bytes.now c.args.out.now.items c.push.new.self.items c.loop.out.items c.push-2.new.self.items c.loop.later c.in-Some.ensures c.in_ok-push.ensures.items c.loop-test.false c.loop.invariant c.in_ok-push-2.ensures.items)
