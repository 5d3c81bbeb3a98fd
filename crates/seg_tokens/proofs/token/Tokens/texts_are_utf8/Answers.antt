use Rattle.std.proofs.Common.{IsUtf8}
use Rattle.seg_tokens.specs.declared.token.Token.{Token}
use Rattle.seg_tokens.proofs.PassedItems.{one_more, all_passed}
use Rattle.seg_tokens.proofs.token.Tokens.texts_are_utf8.Goals as goal

pub loop-token-preserved : goal.loop-token-preserved
loop-token-preserved c =
    (c.loop-token.invariant.0, one_more (λ (t : Token). IsUtf8 t.text) c.as_slice-token-items.result.now c.loop-token.token-index c.token-item.result c.loop-token-test.true c.token-item.is c.text_is_utf8.ensures c.loop-token.invariant.1)

pub returns : goal.returns
returns c = rw (← c.loop-token.invariant.0) (all_passed (λ (t : Token). IsUtf8 t.text) c.as_slice-token-items.result.now c.loop-token.token-index c.loop-token-test.false c.loop-token.invariant.1)
