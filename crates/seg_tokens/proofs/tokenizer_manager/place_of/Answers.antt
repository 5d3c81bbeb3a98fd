use Rattle.std.proofs.Common.{rules, tests}
use Rattle.std.specs.Str.{bytes_eq}
use Rattle.std.proofs.lemmas.Iterator.{YieldsList-from_slice}
use Rattle.std.proofs.lemmas.Iterator.Search.{position_from_yields_List}
use Rattle.seg_tokens.proofs.RegisteredTokenizers.{item_named-place}
use Rattle.seg_tokens.proofs.tokenizer_manager.place_of.Goals as goal

pub returns-clause-place : goal.returns-clause-place
returns-clause-place g c = position_from_yields_List (λ v. bytes_eq v.name c.args.name.now) _ _ c.position.result c.position.ensures.ran (YieldsList-from_slice _ c.iter.ensures.rest) (λ x b q k. search (rules, tests))

pub returns-clause-found : goal.returns-clause-found
returns-clause-found g c = item_named-place (λ v. v.name) c.args.values.now c.args.name.now c.position.result (returns-clause-place g c)
