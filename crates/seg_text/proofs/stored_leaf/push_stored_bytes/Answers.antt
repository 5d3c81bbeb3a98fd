use Rattle.seg_text.proofs.PrintedFronts.{not_more}
use Rattle.seg_text.proofs.stored_leaf.push_stored_bytes.Goals as goal

pub returns-in_default : goal.returns-in_default
returns-in_default c = not_more c.args.out.now.items

pub returns : goal.returns
returns c = record { value = c.in-Some.stored.now; is = c.in-Some.ensures; printed = c.in_ok-push_base64.ensures }
