use Rattle.std.proofs.Common.{rules, ◌≡◌, ◌≢◌, true, false, ◌++◌, [], ◌∷◌, Some, sym, ap, ◌∙◌, string_bytes, append_assoc}
use Rattle.seg_common.specs.JsonPaths.{joined_path}
use Rattle.seg_values.specs.JsonPathTexts.{path_keys}
use Rattle.seg_model.specs.Fields.{is_json}
use Rattle.seg_fastfield.proofs.JsonColumnPaths.{path_below, no_path}
use Rattle.seg_fastfield.proofs.column_name.column_path.Goals as goal

pub returns-then-not-is_json : goal.returns-then-not-is_json
returns-then-not-is_json c =
    let some : c.args.path.now ≢ [] = search rules in
    let other : is_json c.args.entry.now.kind ≡ false = search rules in
    sym (no_path c.args.entry.now c.args.path.now some other)

pub returns : goal.returns
returns c =
    let some : c.args.path.now ≢ [] = search rules in
    let json : is_json c.args.entry.now.kind ≡ true = search rules in
    let one : string_bytes c.push.new.self ≡ c.args.entry.now.name ++ 1 ∷ [] = search rules in
    let all : string_bytes c.push_str.new.self ≡ (c.args.entry.now.name ++ 1 ∷ []) ++ joined_path c.args.entry.now.expand_dots (path_keys c.args.path.now) = search (rules, one) in
    ap Some (all ∙ append_assoc c.args.entry.now.name (1 ∷ []) (joined_path c.args.entry.now.expand_dots (path_keys c.args.path.now)))
    ∙ sym (path_below c.args.entry.now c.args.path.now some json)
