use Rattle.std.proofs.Common.{rules, ◌≡◌, ◌<◌, ◌+◌, ◌-◌, ◌^◌, length, Some, None, ◌∙◌, subst}
use Rattle.std.specs.HashMap.{UpdatesBy}
use Rattle.std.specs.Str.{bytes_eq}
use Rattle.std.specs.String.{string_bytes, string_eq}
use Rattle.seg_values.specs.FieldNames.{field_named}
use Rattle.seg_values.proofs.SchemaEntries.{is_schema-push}
use Rattle.seg_values.proofs.FieldPlaces.{places-push}
use Rattle.seg_values.proofs.schema_fields.SchemaFields.push.Goals as goal

pub invariant_of-self-in-Ok : goal.invariant_of-self-in-Ok
invariant_of-self-in-Ok c =
    let none : field_named c.self.inside.entries.items c.args.entry.name ≡ None = rw c.self.view_is c.requires.new in
    let named : string_bytes c.in_ok-name.name ≡ c.args.entry.name = c.in_ok-name.ensures.ok ∙ c.as_str.ensures in
    let at_end : c.len-id.result ≡ length c.self.inside.entries.items = search rules in
    let few : length c.self.inside.entries.items + 1 < 2 ^ 32 - 1 = rw c.self.view_is c.requires.few in
    let updates : UpdatesBy string_eq (λ s. bytes_eq (string_bytes c.in_ok-name.name) (string_bytes s)) c.self.inside.places c.insert.new.self (Some (length c.self.inside.entries.items)) =
    subst (λ n. UpdatesBy string_eq (λ s. bytes_eq (string_bytes c.in_ok-name.name) (string_bytes s)) c.self.inside.places c.insert.new.self (Some n)) at_end c.in-Ok.ensures.updates in
    rw c.in_ok-push.ensures.items (
      is_schema-push c.self.inside.entries.items c.args.entry c.self.invariant.0 c.requires.entry none few,
      places-push c.self.inside.entries.items c.args.entry c.self.inside.places c.insert.new.self c.in_ok-name.name c.self.invariant.1 none named updates,
    )
