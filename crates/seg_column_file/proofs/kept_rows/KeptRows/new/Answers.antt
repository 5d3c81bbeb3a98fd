use Rattle.std.proofs.Common.{◌<◌, List, [], Bool, false, ◌||◌, length, get_or, set, true, ap, sym, subst, ◌∙◌, arith}
use Rattle.std.specs.Prelude.{All}
use Rattle.std.proofs.lemmas.List.{length-set}
use Rattle.std.proofs.lemmas.List.Elements.{All-head, All-rest}
use Rattle.seg_column_file.specs.RowOrders.{Place, IsRow}
use Rattle.seg_column_file.specs.KeptRows.{is_kept}
use Rattle.seg_column_file.proofs.KeptMarks.{file_below, one_marked, same_lengths, none_files, none_rows, none_marked}
use Rattle.seg_column_file.proofs.kept_rows.KeptRows.new.Goals as goal

pub loop-file-init : goal.loop-file-init
loop-file-init c =
    let counts = c.args.counts.now in
    let rows = c.into_iter-file-iterator.result in
    let gives = c.into_iter-file-iterator.ensures.into_iter_gives in
    let none = c.in_ok-kept.ensures in
    record {
      can = tt;
      finite = tt;
      left = subst (All (IsRow counts)) (sym gives) c.requires;
      files = ap length none ∙ none_files counts;
      rows = λ f. ap (λ (k : List (List Bool)). length (get_or k f [])) none ∙ none_rows counts f;
      marks = λ f r lt.
          ap (λ (k : List (List Bool)). get_or (get_or k f []) r false || is_kept rows f r) none
          ∙ ap (λ b. b || is_kept rows f r) (none_marked counts f r lt)
          ∙ ap (λ (l : List Place). is_kept l f r) gives;
    }

pub mark-requires : goal.mark-requires
mark-requires c =
    let so_far = c.loop-file.invariant in
    let place : Place = (c.in-Some.file, c.in-Some.row) in
    let is : IsRow c.args.counts.now place =
    All-head (IsRow c.args.counts.now) place c.next.new.self
    (subst (All (IsRow c.args.counts.now)) c.in-Some.ensures.steps so_far.left) in
    omega (arith, is, so_far.rows c.in-Some.file)

pub loop-file-preserved : goal.loop-file-preserved
loop-file-preserved c =
    let so_far = c.loop-file.invariant in
    let counts = c.args.counts.now in
    let kept = c.loop-file.kept in
    let file = c.in-Some.file in
    let row = c.in-Some.row in
    let place : Place = (file, row) in
    let new = c.next.new.self in
    let steps = c.in-Some.ensures.steps in
    let is : IsRow counts place = All-head (IsRow counts) place new (subst (All (IsRow counts)) steps so_far.left) in
    let there : file < length kept = omega (arith, file_below counts file row is, so_far.files) in
    let within : row < length (get_or kept file []) = omega (arith, is, so_far.rows file) in
    let marked = c.mark.ensures in
    record {
      can = tt;
      finite = tt;
      left = All-rest (IsRow counts) place new c.loop-file.file-iterator steps so_far.left;
      files = ap length marked ∙ length-set kept file (set (get_or kept file []) row true) ∙ so_far.files;
      rows = λ f. ap (λ (k : List (List Bool)). length (get_or k f [])) marked
          ∙ same_lengths kept file row there within f ∙ so_far.rows f;
      marks = λ f r lt.
          ap (λ (k : List (List Bool)). get_or (get_or k f []) r false || is_kept new f r) marked
          ∙ one_marked kept file row there within f r new
          ∙ ap (λ (l : List Place). get_or (get_or kept f []) r false || is_kept l f r) (sym steps)
          ∙ so_far.marks f r lt;
    }
