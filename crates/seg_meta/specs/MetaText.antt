-- The text of a meta, which is the content of its file.
use Rattle.std.specs.Prelude.{ℕ, List, [], ◌∷◌, ◌++◌}
use Rattle.json.specs.Layout.{pretty}
use Rattle.json.specs.Tree.{json_tokens}
use Rattle.serde_json.specs.Data.{Data}
use Rattle.serde_json.specs.Written.{outline}
use Rattle.seg_meta.specs.IndexOfFiles.{Meta}
use Rattle.seg_meta.specs.MetaJson.{meta_json}

-- a JSON value with a line for each item and member, two spaces deeper for each bracket
abbrev pub pretty_text : Data → List ℕ
pretty_text d = pretty (json_tokens (outline d))

-- the meta so, and a line feed
abbrev pub meta_text : Meta → List ℕ
meta_text m = pretty_text (meta_json m) ++ 10 ∷ []
