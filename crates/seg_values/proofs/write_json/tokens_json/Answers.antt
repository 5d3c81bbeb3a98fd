use Rattle.std.proofs.Common.{◌+◌, drop, map, refl, sym, ap, ◌∙◌, arith}
use Rattle.std.proofs.lemmas.List.{drop_all}
use Rattle.serde_json.proofs.Views.{view-Array}
use Rattle.serde_json.specs.Data.{array, item}
use Rattle.serde_json.specs.View.{view}
use Rattle.seg_common.proofs.Lists.{drop-get_or}
use Rattle.seg_values.specs.ValueJson.{tokens_items}
use Rattle.seg_values.proofs.WrittenJson.{followed, followed_none, item_more}
use Rattle.seg_values.proofs.write_json.tokens_json.Goals as goal

pub loop-token-preserved : goal.loop-token-preserved
loop-token-preserved c =
    let tokens = c.args.tokens.now in
    let at = c.loop-token.token-index in
    let done = c.loop-token.items.items in
    item_more view done c.push.new.self.items c.in_ok-token_json.field-0 (tokens_items (drop (at + 1) tokens)) (tokens_items tokens) c.in_ok-push.ensures.items
    (ap (λ d. followed (map view done) (item d (tokens_items (drop (at + 1) tokens)))) c.in_ok-token_json.ensures
    ∙ sym (ap (λ ts. followed (map view done) (tokens_items ts)) (drop-get_or tokens at (at + 1) c.token-item.result c.loop-token-test.true refl c.token-item.is))
    ∙ c.loop-token.invariant)

pub returns : goal.returns
returns c =
    view-Array c.loop-token.items
    ∙ ap array (sym (followed_none (map view c.loop-token.items.items))
    ∙ sym (ap (λ ts. followed (map view c.loop-token.items.items) (tokens_items ts)) (drop_all c.loop-token.token-index c.args.tokens.now (omega (arith, c.loop-token-test.false))))
    ∙ c.loop-token.invariant)
