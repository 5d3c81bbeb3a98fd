use Rattle.std.proofs.Common.{◌≡◌, suc, ◌∙◌, ◌++◌, ◌∷◌, false, map, sym, ap, subst, arith}
use Rattle.std.specs.Prelude.{All}
use Rattle.std.specs.List.{AllByRecursion}
use Rattle.std.specs.Vec.Iter.{into_iter_items}
use Rattle.seg_common.proofs.Lists.{all_push}
use Rattle.seg_termdict.specs.TermStreams.{Stream}
use Rattle.seg_termdict.specs.MergedStreams.{Ascends, terms_of_stream}
use Rattle.seg_termdict.proofs.MergerViews.{one_head}
use Rattle.seg_termdict.proofs.merger.heads_of.Goals as goal

pub loop-stream-preserved : goal.loop-stream-preserved
loop-stream-preserved c =
    let fresh : All (λ (s : Stream). s.taken ≡ 0) (c.in-Some.stream ∷ into_iter_items c.next.new.self) = subst (All (λ (s : Stream). s.taken ≡ 0)) c.in-Some.ensures.steps.0 c.loop-stream.invariant.fresh in
    let forward : All (λ (s : Stream). s.backward ≡ false) (c.in-Some.stream ∷ into_iter_items c.next.new.self) = subst (All (λ (s : Stream). s.backward ≡ false)) c.in-Some.ensures.steps.0 c.loop-stream.invariant.forward in
    record {
      terms = ap (λ hs. hs ++ map terms_of_stream (into_iter_items c.next.new.self)) c.in_ok-push.ensures.items ∙ one_head c.loop-stream.heads.items c.new.result c.in-Some.stream _ _ c.new.ensures.terms c.in-Some.ensures.steps.0 ∙ c.loop-stream.invariant.terms;
      order = subst (AllByRecursion Ascends) (sym c.in_ok-push.ensures.items) (all_push Ascends c.loop-stream.heads.items c.new.result c.loop-stream.invariant.order c.new.ensures.order);
      fresh = λ k d lt. fresh (suc k) d (omega (arith, lt));
      forward = λ k d lt. forward (suc k) d (omega (arith, lt));
    }
