use Rattle.std.proofs.Common.{lit<, ◌++◌, [], ◌∷◌, Some, string_bytes, sym, ap, ◌∙◌, append_assoc, rules}
use Rattle.std.proofs.lemmas.Str.Pattern.{split_parts}
use Rattle.seg_common.proofs.Results.{when_ok}
use Rattle.seg_field_metadata.specs.ListedNames.{dotted_path, escaped_path}
use Rattle.seg_field_metadata.proofs.EscapedPaths.{escaped_cut, escaped_last}
use Rattle.seg_field_metadata.proofs.listed_names.push_escaped.Goals as goal

pub loop-part-preserved : goal.loop-part-preserved
loop-part-preserved c =
    let cut = split_parts 46 c.loop-part.rest.now (Some (c.in-Some.part, c.in-Some.others)) c.in-Some.ensures.cases (lit< tt) in (
      search rules,
      ap (λ l. l ++ escaped_path c.in-Some.others.now) c.in_ok-push_part.ensures
          ∙ append_assoc (string_bytes c.loop-part.name) (dotted_path c.in-Some.part.now ++ 92 ∷ 46 ∷ []) (escaped_path c.in-Some.others.now)
          ∙ ap (λ l. string_bytes c.loop-part.name ++ l) (sym (escaped_cut c.loop-part.rest.now c.in-Some.part.now c.in-Some.others.now cut.0 cut.1))
          ∙ c.loop-part.invariant.1,
    )

pub returns : goal.returns
returns c =
    let cases = split_parts 46 c.loop-part.rest.now c.split_once.result c.split_once.ensures.cases (lit< tt) in
    let plain = rw c.in_default.is at cases in
    when_ok c.push_replaced.result c.push_replaced.ensures.ok
    (λ told. told ∙ ap (λ l. string_bytes c.loop-part.name ++ l) (sym (escaped_last c.loop-part.rest.now plain)) ∙ c.loop-part.invariant.1)
