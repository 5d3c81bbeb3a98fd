use Rattle.std.proofs.Common.{subst}
use Rattle.seg_tokens.specs.declared.token.Token.{Token}
use Rattle.seg_doc_bytes.specs.FrontValues.{Makes}
use Rattle.seg_doc_bytes.specs.StoredTree as trees
use Rattle.seg_doc_bytes.proofs.GatheredValues.{one_more}
use Rattle.seg_doc_bytes.proofs.leaf_reader.read_tokens.Goals as goal

pub loop-preserved : goal.loop-preserved
loop-preserved c =
    let made = subst (Makes trees.token_at (λ (t : Token). t) c.loop.bytes.now c.read_token.new.bytes.now) c.in-Some-2.is c.in_ok-token.ensures in
    one_more trees.token_at c.in-Some.count c.take_varint.new.bytes.now c.loop.tokens c.push.new.self c.in-Some-2.token c.loop.counter c.loop.bytes.now c.read_token.new.bytes.now c.loop-test.true c.loop.invariant made c.in_ok-push.ensures.ok
