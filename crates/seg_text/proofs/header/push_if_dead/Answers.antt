use Rattle.std.proofs.Common.{sym, ◌∙◌}
use Rattle.std.proofs.lemmas.Bool.{not-true}
use Rattle.seg_text.proofs.DeadIds.{word_at}
use Rattle.seg_text.proofs.header.push_if_dead.Goals as goal

pub returns-in_ok-push_decimal : goal.returns-in_ok-push_decimal
returns-in_ok-push_decimal c =
    word_at c.args.alive.now c.args.doc c.from.result c.args.out.now.items c.push.new.self.items c.push_decimal.new.out.items c.requires
    (not-true _ (sym c.is_deleted.ensures ∙ c.if-is_deleted.true)) c.from.ensures c.in_ok-push.ensures.items c.in_ok-push_decimal.ensures
