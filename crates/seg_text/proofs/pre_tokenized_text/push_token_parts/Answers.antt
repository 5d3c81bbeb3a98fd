use Rattle.std.proofs.Common.{◌++◌, ap, ◌∙◌, decimal}
use Rattle.seg_text.proofs.PrintedTokens.{token_pieces}
use Rattle.seg_text.proofs.pre_tokenized_text.push_token_parts.Goals as goal

pub returns : goal.returns
returns c =
    token_pieces c.args.out.now.items c.extend_from_slice.new.self.items c.push_decimal.new.out.items c.extend_from_slice-2.new.self.items c.push_decimal-2.new.out.items c.extend_from_slice-3.new.self.items c.push_decimal-3.new.out.items c.extend_from_slice-4.new.self.items c.push_decimal-4.new.out.items c.extend_from_slice-5.new.self.items c.push_quoted.new.out.items c.push.new.self.items
    (record { offset_from = c.args.offset_from; offset_to = c.args.offset_to; position = c.args.position; position_length = c.args.position_length; text = c.args.text.now })
    c.in_ok-extend_from_slice.ensures.items c.in_ok-push_decimal.ensures c.in_ok-extend_from_slice-2.ensures.items c.in_ok-push_decimal-2.ensures
    c.in_ok-extend_from_slice-3.ensures.items (c.in_ok-push_decimal-3.ensures ∙ ap (λ n. c.extend_from_slice-3.new.self.items ++ decimal n) c.from.ensures)
    c.in_ok-extend_from_slice-4.ensures.items (c.in_ok-push_decimal-4.ensures ∙ ap (λ n. c.extend_from_slice-4.new.self.items ++ decimal n) c.from-2.ensures)
    c.in_ok-extend_from_slice-5.ensures.items c.in_ok-push_quoted.ensures c.in_ok-push.ensures.items
