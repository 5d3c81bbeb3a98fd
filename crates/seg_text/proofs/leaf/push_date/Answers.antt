use Rattle.seg_text.proofs.QuotedDates.{quoted_date}
use Rattle.seg_text.proofs.leaf.push_date.Goals as goal

pub returns : goal.returns
returns c = quoted_date c.args.out.now.items c.push.new.self.items c.push_rfc3339.new.out.items c.push-2.new.self.items c.args.date c.in_ok-push.ensures.items c.in_ok-push_rfc3339.ensures c.in_ok-push-2.ensures.items
