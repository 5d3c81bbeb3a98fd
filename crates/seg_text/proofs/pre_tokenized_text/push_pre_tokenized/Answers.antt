use Rattle.std.proofs.Common.{◌++◌, ap, ◌∙◌}
use Rattle.json.specs.Print.{quoted}
use Rattle.serde_json.specs.Data.{array}
use Rattle.serde_json.specs.Written.{compact_text}
use Rattle.seg_values.specs.ValueJson.{tokens_items}
use Rattle.seg_text.proofs.PrintedTokens.{pre_tokenized_pieces}
use Rattle.seg_text.proofs.pre_tokenized_text.push_pre_tokenized.Goals as goal

pub returns : goal.returns
returns c =
    let text = c.in_ok-push_quoted.ensures ∙ ap (λ s. c.extend_from_slice.new.self.items ++ quoted s) c.as_str.ensures in
    let tokens = c.in_ok-push_tokens.ensures ∙ ap (λ ts. c.extend_from_slice-2.new.self.items ++ compact_text (array (tokens_items ts))) c.as_slice.ensures in
    pre_tokenized_pieces c.args.out.now.items c.extend_from_slice.new.self.items c.push_quoted.new.out.items c.extend_from_slice-2.new.self.items c.push_tokens.new.out.items c.push.new.self.items c.args.text.now c.in_ok-extend_from_slice.ensures.items text c.in_ok-extend_from_slice-2.ensures.items tokens c.in_ok-push.ensures.items
