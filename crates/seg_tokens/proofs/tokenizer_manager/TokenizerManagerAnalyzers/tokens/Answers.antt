use Rattle.std.proofs.Common.{◌≡◌, ◌∙◌, Some, ap}
use Rattle.std.specs.Prelude.{position}
use Rattle.std.specs.Str.{bytes_eq}
use Rattle.seg_tokens.specs.RegisteredTokenizers.{item_named}
use Rattle.seg_tokens.proofs.RegisteredTokenizers.{found_at}
use Rattle.seg_tokens.proofs.tokenizer_manager.TokenizerManagerAnalyzers.tokens.Goals as goal

pub returns-clause-ok : goal.returns-clause-ok
returns-clause-ok g c =
    let found : item_named (λ v. v.name) c.args.self.now.tokenizers.items c.args.name.now ≡ Some c.index.result.now =
    found_at (λ v. v.name) c.args.self.now.tokenizers.items c.args.name.now c.place_of.result c.unwrap-place.result c.index.result.now c.unwrap-place.ensures
    (c.place_of.ensures.place ∙ ap (position (λ v. bytes_eq v.name c.args.name.now)) c.deref.ensures.value) c.index.ensures in
    rw found c.push_tokens.ensures.ok
