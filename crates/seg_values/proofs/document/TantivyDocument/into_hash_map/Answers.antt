use Rattle.std.proofs.Common.{◌≡◌, [], map, sym, ap, ◌∙◌, rules}
use Rattle.std.proofs.lemmas.List.{nil_from_length}
use Rattle.std.specs.Vec.Iter.{into_iter_items}
use Rattle.seg_values.specs.ValueTrees.{entry_pair, pair_of}
use Rattle.seg_values.proofs.LastValues.{begun, ended, one_less}
use Rattle.seg_values.proofs.document.TantivyDocument.into_hash_map.Goals as goal

pub loop-pair-init : goal.loop-pair-init
loop-pair-init c =
    let left = map pair_of (into_iter_items c.into_iter-pair-iterator.result) in
    let same : left ≡ c.args.self = search rules in
    begun (map entry_pair c.new-values.result.entries) left c.args.self (ap (map entry_pair) c.new-values.ensures.empty) same

pub loop-pair-preserved : goal.loop-pair-preserved
loop-pair-preserved c =
    one_less (map entry_pair c.loop-pair.values.entries) (map entry_pair c.put_hashed.new.values.entries) (pair_of c.in-Some.pair) (map pair_of (into_iter_items c.loop-pair.pair-iterator)) (map pair_of (into_iter_items c.next.new.self)) c.args.self
    (ap (map pair_of) c.in-Some.ensures.steps.0) c.in_ok-put_hashed.ensures c.loop-pair.invariant

pub returns : goal.returns
returns c =
    let left = c.loop-pair.pair-iterator in
    let none : into_iter_items left ≡ [] = nil_from_length (into_iter_items left) (sym left.rest.ok.0 ∙ c.in-None.ensures.steps.0) in
    ended (map entry_pair c.loop-pair.values.entries) (map pair_of (into_iter_items left)) c.args.self (ap (map pair_of) none) c.loop-pair.invariant
