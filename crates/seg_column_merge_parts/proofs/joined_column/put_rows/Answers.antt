use Rattle.std.proofs.Common.{◌≡◌, ◌++◌, ◌∷◌, List, ℕ, get_or, ap, subst, ◌∙◌}
use Rattle.std.specs.Prelude.{All}
use Rattle.std.specs.List.{flat_map}
use Rattle.std.proofs.lemmas.List.{get_or_default}
use Rattle.std.proofs.lemmas.List.Elements.{All-head, All-rest}
use Rattle.seg_column_file.specs.RowOrders.{Place}
use Rattle.seg_column_merge_parts.specs.SourceRows.{IsPut, joined, row_codes}
use Rattle.seg_column_merge_parts.specs.declared.source.Source.{Source}
use Rattle.seg_column_merge_parts.specs.declared.source.Source.TheVariants.{Nothing}
use Rattle.seg_column_merge_parts.proofs.JoinedBytes.{put_next}
use Rattle.seg_column_merge_parts.proofs.joined_column.put_rows.Goals as goal

abbrev bytes_of : List (List ℕ) → List ℕ
bytes_of codes = flat_map {X = List ℕ} {A = ℕ} (λ code. code) codes

pub loop-file-preserved : goal.loop-file-preserved
loop-file-preserved c =
    let so_far = c.loop-file.invariant in
    let sources = c.args.sources.now in
    let file = c.in-Some.file in
    let place : Place = (file, c.in-Some.row) in
    let steps = c.in-Some.ensures.steps in
    let put : IsPut sources place =
    All-head (IsPut sources) place c.next.new.self (subst (All (IsPut sources)) steps so_far.left) in
    let old = joined sources c.loop-file.file-iterator in
    let new = joined sources c.next.new.self in
    let row = row_codes (get_or sources file Nothing) c.in-Some.row in
    let is : old ≡ row ∷ new = ap (joined sources) steps in
    let found : c.index-sources-file.result ≡ get_or sources file Nothing =
    c.index-sources-file.is ∙ get_or_default sources file c.index-sources-file.result Nothing put.file in
    let out = c.loop-file.out.items in
    record {
      can = tt;
      finite = tt;
      left = All-rest (IsPut sources) place c.next.new.self c.loop-file.file-iterator steps so_far.left;
      all = put_next bytes_of out (c.args.out.now.items ++ flat_map bytes_of (joined sources c.args.rows)) old new row
          c.put.new.out.items is
          (c.in_ok-put.ensures ∙ ap (λ (s : Source). out ++ bytes_of (row_codes s c.in-Some.row)) found) so_far.all;
    }
