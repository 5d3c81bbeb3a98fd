use Rattle.std.proofs.Common.{sym}
use Rattle.serde_json.specs.View.{view}
use Rattle.seg_values.proofs.LentLists.{list_grown, grown_other}
use Rattle.seg_values.proofs.document_json.push_item.Goals as goal

pub returns-in_ok-push-in-Some : goal.returns-in_ok-push-in-Some
returns-in_ok-push-in-Some c = list_grown (view c.args.list.now) c.in-Some.items.now.items c.push.new.self c.args.item c.in-Some.ensures.value c.in_ok-push-in-Some.ensures.items

pub returns-in-None : goal.returns-in-None
returns-in-None c = sym (grown_other (view c.args.list.now) (view c.args.item) c.in-None.ensures.value)
