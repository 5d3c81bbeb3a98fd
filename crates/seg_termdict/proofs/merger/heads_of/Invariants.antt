use Rattle.std.proofs.Common.{◌≡◌, ◌++◌, false, map}
use Rattle.std.specs.Prelude.{All}
use Rattle.std.specs.List.{AllByRecursion}
use Rattle.std.specs.Vec.Iter.{into_iter_items}
use Rattle.seg_termdict.specs.TermStreams.{Stream}
use Rattle.seg_termdict.specs.MergedStreams.{Ascends, terms_of_stream}
use Rattle.seg_termdict.proofs.merger.heads_of.Given as goal

-- what came, with what is left, is all
abbrev pub invariant-loop-stream : goal.invariant-loop-stream
invariant-loop-stream l = record {
  terms : l.heads.items ++ map terms_of_stream (into_iter_items l.stream-iterator) ≡ map terms_of_stream (into_iter_items l.initial.stream-iterator);
  order : AllByRecursion Ascends l.heads.items;
  fresh : All (λ (s : Stream). s.taken ≡ 0) (into_iter_items l.stream-iterator);
  forward : All (λ (s : Stream). s.backward ≡ false) (into_iter_items l.stream-iterator);
}
