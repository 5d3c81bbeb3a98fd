use Rattle.std.proofs.Common.{◌∷◌, [], subst}
use Rattle.json.specs.Print.{quoted}
use Rattle.seg_doc_bytes.specs.StoredDocument.{most_levels_read}
use Rattle.seg_doc_bytes.specs.StoredTree as trees
use Rattle.seg_text.specs.DocumentText.{name_at}
use Rattle.seg_text.specs.PrintedFronts.{Prints}
use Rattle.seg_text.proofs.PrintedFronts.{not_more, more_by, more_then, tree_text}
use Rattle.seg_text.proofs.PrintedStored.{pair_printed}
use Rattle.seg_text.proofs.stored_pairs.push_stored_pair.Goals as goal

pub returns-in_default : goal.returns-in_default
returns-in_default c = not_more c.args.out.now.items

pub returns-in_default-2 : goal.returns-in_default-2
returns-in_default-2 c =
    let more = subst (Prints (trees.stored_tree_at most_levels_read) tree_text c.take_field.new.bytes.now c.push_stored_tree.new.bytes.now c.push-2.new.self.items c.push_stored_tree.new.out.items) c.in_default-2.is c.in_ok-push_stored_tree.ensures in
    let out = c.args.out.now.items in
    let a = c.push.new.self.items in
    let b = c.push_name.new.out.items in
    let d = c.push-2.new.self.items in
    let after = c.push_stored_tree.new.out.items in
    more_then out a after (more_by out a (91 ∷ []) c.in_ok-push.ensures.items)
    (more_then a b after (more_by a b (quoted (name_at c.args.schema.now c.from_field_id.result)) c.in_ok-push_name.ensures)
    (more_then b d after (more_by b d (44 ∷ []) c.in_ok-push-2.ensures.items) more))

pub returns : goal.returns
returns c =
    let printed = subst (Prints (trees.stored_tree_at most_levels_read) tree_text c.take_field.new.bytes.now c.push_stored_tree.new.bytes.now c.push-2.new.self.items c.push_stored_tree.new.out.items) c.in-Some-2.is c.in_ok-push_stored_tree.ensures in
    pair_printed c.args.schema.now c.in-Some.field c.from_field_id.result c.args.bytes.now.now c.take_field.new.bytes.now c.push_stored_tree.new.bytes.now c.args.out.now.items c.push.new.self.items c.push_name.new.out.items c.push-2.new.self.items c.push_stored_tree.new.out.items c.push-3.new.self.items
    c.in-Some.ensures c.from_field_id.ensures c.in_ok-push.ensures.items c.in_ok-push_name.ensures c.in_ok-push-2.ensures.items printed c.in_ok-push-3.ensures.items
