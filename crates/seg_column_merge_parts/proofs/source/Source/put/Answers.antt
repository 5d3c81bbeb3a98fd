use Rattle.std.proofs.Common.{◌≡◌, ◌++◌, List, ℕ, [], get_or, sym, ap, subst, ◌∙◌}
use Rattle.std.specs.Prelude.{OnOk}
use Rattle.std.specs.List.{flat_map}
use Rattle.std.specs.Net.Addr.{ipv6_octets}
use Rattle.seg_column_merge_parts.specs.declared.source.Source.{Source}
use Rattle.seg_column_merge_parts.specs.SourceRows.{number_code, row_codes}
use Rattle.seg_column_merge_parts.proofs.JoinedBytes.{flat_map-map}
use Rattle.seg_column_merge_parts.proofs.source.Source.put.Goals as goal

abbrev bytes_of : Source → ℕ → List ℕ
bytes_of source row = flat_map {X = List ℕ} {A = ℕ} (λ code. code) (row_codes source row)

pub returns-in-Numbers : goal.returns-in-Numbers
returns-in-Numbers c =
    let written = c.in-Numbers.source.written in
    let row = get_or c.in-Numbers.source.numbers c.args.row [] in
    let same : flat_map (number_code written) c.values_for_doc.result ≡ bytes_of c.args.self.now c.args.row =
    ap (flat_map (number_code written)) c.values_for_doc.ensures
    ∙ sym (flat_map-map {X = ℕ} {Y = List ℕ} (λ code. code) (number_code written) row)
    ∙ ap (λ (s : Source). bytes_of s c.args.row) (sym c.in-Numbers.is) in
    subst (λ (bytes : List ℕ). OnOk c.put_numbers.result (c.put_numbers.new.out.items ≡ c.args.out.now.items ++ bytes))
    same c.put_numbers.ensures

pub returns-in-Addresses : goal.returns-in-Addresses
returns-in-Addresses c =
    let row = get_or c.in-Addresses.column c.args.row [] in
    let same : flat_map ipv6_octets c.values_for_doc-in-Addresses.result ≡ bytes_of c.args.self.now c.args.row =
    ap (flat_map ipv6_octets) c.values_for_doc-in-Addresses.ensures
    ∙ sym (flat_map-map {Y = List ℕ} (λ code. code) ipv6_octets row)
    ∙ ap (λ (s : Source). bytes_of s c.args.row) (sym c.in-Addresses.is) in
    subst
    (λ (bytes : List ℕ). OnOk c.put_addresses.result (c.put_addresses.new.out.items ≡ c.args.out.now.items ++ bytes))
    same c.put_addresses.ensures
