-- What an index is built from, as it is handed in.
use Rattle.std.specs.Prelude.{ℕ, List, map, Option}
use Rattle.seg_values.specs.Tree.{Document}
use Rattle.seg_model.specs.Fields.{Schema}
use Rattle.seg_model.specs.Input.{Filter, Input}
use Rattle.seg_meta.specs.MetaMeaning.{settings_of}
use Rattle.seg_meta.specs.declared.index_settings.IndexSettings.{IndexSettings}
use Rattle.seg_check.specs.UserOperations.{operation_of}
use Rattle.seg_check.specs.declared.user_operation.UserOperation.{UserOperation}

-- what is handed in, as the definitions have it
abbrev pub input_of : Schema → IndexSettings → List (UserOperation Document) → List ℕ
    → List (Option Filter) → List ℕ → Input
input_of schema settings operations cuts filters ids = record {
  schema = schema;
  settings = settings_of settings;
  operations = map operation_of operations;
  cuts = cuts;
  filters = filters;
  ids = ids;
}
