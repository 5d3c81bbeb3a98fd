use Rattle.std.proofs.Common.{◌∙◌, sym}
use Rattle.std.proofs.lemmas.List.Sorted.{list_any-IsPermutation}
use Rattle.std.proofs.lemmas.Result.{IfOk-weaker}
use Rattle.seg_column_format.specs.PathStarts.{AreApart, AreStarts, TellSame, begins}
use Rattle.seg_column_format.proofs.path_starts.path_starts.Goals as goal

pub returns : goal.returns
returns c =
    let sorted = c.sort.new.starts.items in
    IfOk-weaker c.outermost.result (λ starts. AreApart starts.items × TellSame starts.items sorted)
    (λ starts. AreStarts c.args.schema.now starts.items)
    (λ starts h. record {
      apart = h.0;
      tell = λ path. h.1 path
          ∙ (sym (list_any-IsPermutation (begins path) c.in_ok-starts.starts.items sorted c.sort.ensures.permutation)
          ∙ c.in_ok-starts.ensures path);
    }) c.outermost.ensures
