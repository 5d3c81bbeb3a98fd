use Rattle.std.proofs.Common.{lit<, ◌≡◌, ◌++◌, [], ◌∷◌, Some, map, string_bytes, refl, sym, ap, subst, ◌∙◌, rules}
use Rattle.std.proofs.lemmas.Str.Pattern.{split_parts}
use Rattle.seg_common.specs.JsonPaths.{written_key}
use Rattle.seg_common.proofs.Results.{when_ok}
use Rattle.seg_values.specs.JsonPathTexts.{before_first, keys_in}
use Rattle.seg_values.proofs.JsonPathTexts.{before_none, taken_last}
use Rattle.seg_values.proofs.json_path.push_keys.Goals as goal

pub loop-part-init : goal.loop-part-init
loop-part-init c = (
  search rules,
  refl,
  ap (λ l. c.args.path.now.keys ++ map (written_key c.args.path.now.expand_dots) (before_first l (keys_in c.args.text.now))) c.new-key.ensures.bytes
      ∙ ap (λ keys. c.args.path.now.keys ++ map (written_key c.args.path.now.expand_dots) keys) (before_none c.args.text.now),
)

pub take_part-requires : goal.take_part-requires
take_part-requires c = (split_parts 46 c.loop-part.rest.now (Some (c.in-Some.part, c.in-Some.others)) c.in-Some.ensures.cases (lit< tt)).1

pub loop-part-preserved : goal.loop-part-preserved
loop-part-preserved c =
    let cut = split_parts 46 c.loop-part.rest.now (Some (c.in-Some.part, c.in-Some.others)) c.in-Some.ensures.cases (lit< tt) in
    let before = c.loop-part.invariant in
    let taken = c.in_ok-take_part.ensures.keys c.in-Some.others.now in (
      search rules,
      c.in_ok-take_part.ensures.same ∙ before.1,
      subst (λ e. c.take_part.new.path.keys ++ map (written_key e) (before_first (string_bytes c.take_part.new.key) (keys_in c.in-Some.others.now)) ≡ c.loop-part.path.keys ++ map (written_key e) (before_first (string_bytes c.loop-part.key) (keys_in (c.in-Some.part.now ++ 46 ∷ c.in-Some.others.now)))) before.1 taken
          ∙ ap (λ l. c.loop-part.path.keys ++ map (written_key c.args.path.now.expand_dots) (before_first (string_bytes c.loop-part.key) (keys_in l))) (sym cut.0)
          ∙ before.2,
    )

pub returns : goal.returns
returns c =
    let before = c.loop-part.invariant in
    let cases = split_parts 46 c.loop-part.rest.now c.split_once.result c.split_once.ensures.cases (lit< tt) in
    let plain = rw c.in_default.is at cases in
    let key = string_bytes c.loop-part.key ++ c.loop-part.rest.now in
    when_ok c.end_key.result c.end_key.ensures.keys
    (λ told. taken_last (written_key c.args.path.now.expand_dots) c.loop-part.path.keys c.end_key.new.path.keys (string_bytes c.loop-part.key) key c.loop-part.rest.now plain refl (ap (λ p. p.keys) told ∙ ap (λ e. c.loop-part.path.keys ++ written_key e key ∷ []) before.1) ∙ before.2)
