use Rattle.seg_common.proofs.FlatMapTurns.{in_turn, are_pieces}
use Rattle.seg_common.proofs.flat_map_with_buffer.FlatMapWithBufferIter.flat_map_with_buffer.Goals as goal

pub returns-clause-in_turn : goal.returns-clause-in_turn
returns-clause-in_turn g c = in_turn (goal.F-post g c.args.fill_buffer) g.Self.Iterator.next_gives c.args.self

pub returns-clause-without_refusal : goal.returns-clause-without_refusal
returns-clause-without_refusal g c = λ all gives oks.
    let turn = in_turn (goal.F-post g c.args.fill_buffer) g.Self.Iterator.next_gives c.args.self all gives in
    are_pieces (goal.F-post g c.args.fill_buffer) g.Self.Iterator.next_gives c.args.self all turn oks
