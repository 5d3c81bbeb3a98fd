use Rattle.std.proofs.Common.{ℤ, List, ℕ, pos, of_z, to_z, rules, sym, subst}
use Rattle.std.specs.Int.{w64}
use Rattle.std.proofs.lemmas.Int.{to_z-of_z}
use Rattle.std.specs.Net.Addr.{ipv6_octets}
use Rattle.std.specs.Prelude.{FitsSigned}
use Rattle.seg_model.specs.Columns.{number, bytes_value, text_value, boolean_value, ip_value, date_value}
use Rattle.seg_paths.specs.NumberedLeaves.{leaf_in}
use Rattle.seg_values.specs.ValueTrees.{tree_of}
use Rattle.seg_fastfield.specs.FieldColumns.{IsLeafColumn}
use Rattle.seg_fastfield.specs.RecordedLeaves.{MayLeafCome}
use Rattle.seg_fastfield.specs.FastFieldWriters.{MayCome}
use Rattle.seg_fastfield.proofs.LeafRecords.{may_be_recorded, still_under_way}
use Rattle.seg_fastfield.proofs.row_recorder.RowRecorder.record_leaf.Goals as goal

pub put_number-requires-clause-may : goal.put_number-requires-clause-may
put_number-requires-clause-may g c =
    let may = subst (λ v. MayLeafCome c.args.self.now.schema.now c.args.path.now (leaf_in
    (tree_of v))) c.in-U64.is c.requires.can.may_come in
    may_be_recorded c.args.self.now.schema.now c.args.self.now.row c.args.path.now (number (pos c.in-U64.number))
    may
    c.args.columns.now c.requires.can.under_way

pub returns-in-U64-clause-under_way : goal.returns-in-U64-clause-under_way
returns-in-U64-clause-under_way g c =
    let may = subst (λ v. MayLeafCome c.args.self.now.schema.now c.args.path.now (leaf_in
    (tree_of v))) c.in-U64.is c.requires.can.may_come in
    still_under_way c.args.self.now.schema.now c.args.self.now.row c.args.path.now (number (pos c.in-U64.number))
    may
    c.args.columns.now c.put_number.new.columns c.put_number.result c.put_number.ensures.ok c.put_number.ensures.kept
    c.requires.can.under_way

pub put_number-requires-in-I64-clause-may : goal.put_number-requires-in-I64-clause-may
put_number-requires-in-I64-clause-may g c =
    let may = subst (λ v. MayLeafCome c.args.self.now.schema.now c.args.path.now (leaf_in
    (tree_of v))) c.in-I64.is c.requires.can.may_come in
    let fits : FitsSigned w64 c.in-I64.number = search rules in
    may_be_recorded c.args.self.now.schema.now c.args.self.now.row c.args.path.now (number (to_z w64
    (of_z w64 c.in-I64.number)))
    (subst (λ (z : ℤ). MayCome c.args.self.now.schema.now c.args.path.now (number z)) (sym
    (to_z-of_z w64 c.in-I64.number fits)) (may fits))
    c.args.columns.now c.requires.can.under_way

pub returns-in-I64-clause-under_way : goal.returns-in-I64-clause-under_way
returns-in-I64-clause-under_way g c =
    let may = subst (λ v. MayLeafCome c.args.self.now.schema.now c.args.path.now (leaf_in
    (tree_of v))) c.in-I64.is c.requires.can.may_come in
    let fits : FitsSigned w64 c.in-I64.number = search rules in
    still_under_way c.args.self.now.schema.now c.args.self.now.row c.args.path.now (number (to_z w64
    (of_z w64 c.in-I64.number)))
    (subst (λ (z : ℤ). MayCome c.args.self.now.schema.now c.args.path.now (number z)) (sym
    (to_z-of_z w64 c.in-I64.number fits)) (may fits))
    c.args.columns.now c.put_number-in-I64.new.columns c.put_number-in-I64.result c.put_number-in-I64.ensures.ok
    c.put_number-in-I64.ensures.kept c.requires.can.under_way

pub put_bool-requires-clause-may : goal.put_bool-requires-clause-may
put_bool-requires-clause-may g c =
    let may = subst (λ v. MayLeafCome c.args.self.now.schema.now c.args.path.now (leaf_in
    (tree_of v))) c.in-Bool.is c.requires.can.may_come in
    may_be_recorded c.args.self.now.schema.now c.args.self.now.row c.args.path.now (boolean_value c.in-Bool.truth)
    may
    c.args.columns.now c.requires.can.under_way

pub returns-in-Bool-clause-under_way : goal.returns-in-Bool-clause-under_way
returns-in-Bool-clause-under_way g c =
    let may = subst (λ v. MayLeafCome c.args.self.now.schema.now c.args.path.now (leaf_in
    (tree_of v))) c.in-Bool.is c.requires.can.may_come in
    still_under_way c.args.self.now.schema.now c.args.self.now.row c.args.path.now (boolean_value c.in-Bool.truth)
    may
    c.args.columns.now c.put_bool.new.columns c.put_bool.result c.put_bool.ensures.ok c.put_bool.ensures.kept
    c.requires.can.under_way

pub put_moment-requires-clause-may : goal.put_moment-requires-clause-may
put_moment-requires-clause-may g c =
    let may = subst (λ v. MayLeafCome c.args.self.now.schema.now c.args.path.now (leaf_in
    (tree_of v))) c.in-Date.is c.requires.can.may_come in
    may_be_recorded c.args.self.now.schema.now c.args.self.now.row c.args.path.now (date_value c.cut.result)
    (may c.cut.result)
    c.args.columns.now c.requires.can.under_way

pub returns-in-Date-clause-under_way : goal.returns-in-Date-clause-under_way
returns-in-Date-clause-under_way g c =
    let may = subst (λ v. MayLeafCome c.args.self.now.schema.now c.args.path.now (leaf_in
    (tree_of v))) c.in-Date.is c.requires.can.may_come in
    still_under_way c.args.self.now.schema.now c.args.self.now.row c.args.path.now (date_value c.cut.result)
    (may c.cut.result)
    c.args.columns.now c.put_moment.new.columns c.put_moment.result c.put_moment.ensures.ok c.put_moment.ensures.kept
    c.requires.can.under_way

pub put_text-requires-clause-may : goal.put_text-requires-clause-may
put_text-requires-clause-may g c =
    let may = subst (λ v. MayLeafCome c.args.self.now.schema.now c.args.path.now (leaf_in
    (tree_of v))) c.in-Facet.is c.requires.can.may_come in
    may_be_recorded c.args.self.now.schema.now c.args.self.now.row c.args.path.now (text_value c.encoded_str.result.now)
    (subst (λ (s : List ℕ). MayCome c.args.self.now.schema.now c.args.path.now (text_value s))
    (sym c.encoded_str.ensures) may)
    c.args.columns.now c.requires.can.under_way

pub returns-in-Facet-clause-under_way : goal.returns-in-Facet-clause-under_way
returns-in-Facet-clause-under_way g c =
    let may = subst (λ v. MayLeafCome c.args.self.now.schema.now c.args.path.now (leaf_in
    (tree_of v))) c.in-Facet.is c.requires.can.may_come in
    still_under_way c.args.self.now.schema.now c.args.self.now.row c.args.path.now (text_value c.encoded_str.result.now)
    (subst (λ (s : List ℕ). MayCome c.args.self.now.schema.now c.args.path.now (text_value s))
    (sym c.encoded_str.ensures) may)
    c.args.columns.now c.put_text.new.columns c.put_text.result c.put_text.ensures.ok c.put_text.ensures.kept
    c.requires.can.under_way

pub put_bytes-requires-clause-may : goal.put_bytes-requires-clause-may
put_bytes-requires-clause-may g c =
    let may = subst (λ v. MayLeafCome c.args.self.now.schema.now c.args.path.now (leaf_in
    (tree_of v))) c.in-Bytes.is c.requires.can.may_come in
    may_be_recorded c.args.self.now.schema.now c.args.self.now.row c.args.path.now
    (bytes_value c.as_slice-in-Bytes.result.now)
    (subst (λ (s : List ℕ). MayCome c.args.self.now.schema.now c.args.path.now (bytes_value s))
    (sym c.as_slice-in-Bytes.ensures) may)
    c.args.columns.now c.requires.can.under_way

pub returns-in-Bytes-clause-under_way : goal.returns-in-Bytes-clause-under_way
returns-in-Bytes-clause-under_way g c =
    let may = subst (λ v. MayLeafCome c.args.self.now.schema.now c.args.path.now (leaf_in
    (tree_of v))) c.in-Bytes.is c.requires.can.may_come in
    still_under_way c.args.self.now.schema.now c.args.self.now.row c.args.path.now
    (bytes_value c.as_slice-in-Bytes.result.now)
    (subst (λ (s : List ℕ). MayCome c.args.self.now.schema.now c.args.path.now (bytes_value s))
    (sym c.as_slice-in-Bytes.ensures) may)
    c.args.columns.now c.put_bytes.new.columns c.put_bytes.result c.put_bytes.ensures.ok c.put_bytes.ensures.kept
    c.requires.can.under_way

pub put_address-requires-clause-may : goal.put_address-requires-clause-may
put_address-requires-clause-may g c =
    let may = subst (λ v. MayLeafCome c.args.self.now.schema.now c.args.path.now (leaf_in
    (tree_of v))) c.in-IpAddr.is c.requires.can.may_come in
    may_be_recorded c.args.self.now.schema.now c.args.self.now.row c.args.path.now (ip_value
    (ipv6_octets c.in-IpAddr.address))
    may
    c.args.columns.now c.requires.can.under_way

pub returns-in-IpAddr-clause-under_way : goal.returns-in-IpAddr-clause-under_way
returns-in-IpAddr-clause-under_way g c =
    let may = subst (λ v. MayLeafCome c.args.self.now.schema.now c.args.path.now (leaf_in
    (tree_of v))) c.in-IpAddr.is c.requires.can.may_come in
    still_under_way c.args.self.now.schema.now c.args.self.now.row c.args.path.now (ip_value
    (ipv6_octets c.in-IpAddr.address))
    may
    c.args.columns.now c.put_address.new.columns c.put_address.result c.put_address.ensures.ok
    c.put_address.ensures.kept c.requires.can.under_way

pub put_number-requires-clause-column : goal.put_number-requires-clause-column
put_number-requires-clause-column g c =
    subst (λ v. IsLeafColumn c.args.place.column c.args.path.now (leaf_in (tree_of v)) c.args.columns.now)
    c.in-U64.is c.requires.column

pub put_number-requires-in-I64-clause-column : goal.put_number-requires-in-I64-clause-column
put_number-requires-in-I64-clause-column g c =
    subst (λ v. IsLeafColumn c.args.place.column c.args.path.now (leaf_in (tree_of v)) c.args.columns.now)
    c.in-I64.is c.requires.column

pub put_bool-requires-clause-column : goal.put_bool-requires-clause-column
put_bool-requires-clause-column g c =
    subst (λ v. IsLeafColumn c.args.place.column c.args.path.now (leaf_in (tree_of v)) c.args.columns.now)
    c.in-Bool.is c.requires.column

pub put_moment-requires-clause-column : goal.put_moment-requires-clause-column
put_moment-requires-clause-column g c =
    subst (λ v. IsLeafColumn c.args.place.column c.args.path.now (leaf_in (tree_of v)) c.args.columns.now)
    c.in-Date.is c.requires.column

pub put_text-requires-clause-column : goal.put_text-requires-clause-column
put_text-requires-clause-column g c =
    subst (λ v. IsLeafColumn c.args.place.column c.args.path.now (leaf_in (tree_of v)) c.args.columns.now)
    c.in-Facet.is c.requires.column

pub put_bytes-requires-clause-column : goal.put_bytes-requires-clause-column
put_bytes-requires-clause-column g c =
    subst (λ v. IsLeafColumn c.args.place.column c.args.path.now (leaf_in (tree_of v)) c.args.columns.now)
    c.in-Bytes.is c.requires.column

pub put_address-requires-clause-column : goal.put_address-requires-clause-column
put_address-requires-clause-column g c =
    subst (λ v. IsLeafColumn c.args.place.column c.args.path.now (leaf_in (tree_of v)) c.args.columns.now)
    c.in-IpAddr.is c.requires.column
