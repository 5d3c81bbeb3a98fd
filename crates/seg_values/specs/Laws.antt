-- What the definitions say together.
use Rattle.std.specs.Prelude.{◌≡◌, Some}
use Rattle.seg_values.specs.JsonTrees.{json_tree}
use Rattle.seg_values.specs.LosslessJsonTrees.{IsToldByJson}
use Rattle.seg_values.specs.Tree.{Tree}
use Rattle.seg_values.specs.ValueJson.{value_json}

-- a tree that JSON tells as it is is read from its JSON value
abbrev pub JsonReadsBack : Type 0
JsonReadsBack = (t : Tree) → IsToldByJson t → json_tree (value_json t) ≡ Some t
