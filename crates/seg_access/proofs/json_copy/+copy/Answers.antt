use Rattle.std.proofs.Common.{◌≡◌, map, ap, ◌∙◌, arith}
use Rattle.std.proofs.lemmas.Grind.{common_steps}
use Rattle.seg_values.specs.Tree.{trees_from, members_from}
use Rattle.seg_access.proofs.JsonCopies.{seen_tree, seen_member, trees_seen, members_seen}
use Rattle.seg_access.proofs.json_copy.+copy.Goals as goal

pub copy_items-returns-clause-ok : goal.copy_items-returns-clause-ok
copy_items-returns-clause-ok t c =
    let all : c.loop-item.copies ≡ map seen_tree c.args.items.now.items = grind (arith, common_steps) in
    ap trees_from all ∙ trees_seen c.args.items.now.items

pub copy_members-returns-clause-ok : goal.copy_members-returns-clause-ok
copy_members-returns-clause-ok t c =
    let all : c.loop-key.copies ≡ map seen_member c.args.members.now.entries = grind (arith, common_steps) in
    ap members_from all ∙ members_seen c.args.members.now.entries
