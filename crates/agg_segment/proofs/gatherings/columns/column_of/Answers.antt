use Rattle.std.proofs.Common.{◌≡◌, length, get_or, ap, subst, ◌∙◌}
use Rattle.std.specs.List.{All}
use Rattle.agg_segment.specs.storage.Columns.{StoredColumn, encoded_key}
use Rattle.agg_segment.specs.storage.GatheredNumbers.{raw_key, keyed_rows, IsEncodable}
use Rattle.agg_segment.specs.storage.GatheredNumbers.{kind_of, IsRaw}
use Rattle.agg_segment.proofs.OrdinalKeys.{encodable_itself, numbers_all, all_numbers, named_rows}
use Rattle.agg_segment.proofs.EncodedColumns.{wide_rows}
use Rattle.agg_segment.proofs.gatherings.columns.column_of.Goals as goal

pub keys_of-requires-clause-kept : goal.keys_of-requires-clause-kept
keys_of-requires-clause-kept c =
    rw c.numbers.ensures (numbers_all (IsRaw (length c.args.listed.now.texts.now)
    (length c.args.listed.now.addresses.now) c.args.gathering.class) c.args.gathering.rows
    c.requires.kept)

pub encode-requires : goal.encode-requires
encode-requires c k d l =
    let texts = c.args.listed.now.texts.now in
    let ordinals = c.keys_of.new.ordinals in
    let addresses = c.args.listed.now.addresses.now in
    encodable_itself texts ordinals addresses c.in_ok-keys.keys (get_or c.args.gathering.rows k d).1
    (all_numbers (IsEncodable texts ordinals addresses c.in_ok-keys.keys) c.args.gathering.rows
    (subst (All (IsEncodable texts ordinals addresses c.in_ok-keys.keys)) c.numbers.ensures
    c.in_ok-keys.ensures.encodable) k d l)

-- what the numbers stand for
keys_are : (c : goal.In_ok-into_rows)
    → keyed_rows (encoded_key c.in_ok-keys.keys) c.in_ok-into_rows.field-0
    ≡ keyed_rows (raw_key c.args.listed.now.texts.now c.args.listed.now.addresses.now
    (kind_of c.args.sign c.args.gathering.class)) c.args.gathering.rows
keys_are c =
    let texts = c.args.listed.now.texts.now in
    let ordinals = c.keys_of.new.ordinals in
    let addresses = c.args.listed.now.addresses.now in
    let keys = c.in_ok-keys.keys in
    let rows = c.args.gathering.rows in
    ap (keyed_rows (encoded_key keys)) c.in_ok-into_rows.ensures ∙ c.encode.ensures.keys
    ∙ named_rows texts ordinals addresses keys rows
    (all_numbers (IsEncodable texts ordinals addresses keys) rows
    (subst (All (IsEncodable texts ordinals addresses keys)) c.numbers.ensures
    c.in_ok-keys.ensures.encodable))
    ∙ ap (λ k. keyed_rows (raw_key texts addresses k) rows) c.in_ok-keys.ensures.kind

pub new-requires-clause-wide : goal.new-requires-clause-wide
new-requires-clause-wide c is =
    wide_rows c.args.listed.now.texts.now c.args.listed.now.addresses.now c.args.sign
    c.args.gathering c.args.gathering.field c.in_ok-keys.keys c.in_ok-into_rows.field-0
    c.requires.wide is c.in_ok-keys.ensures.kind (keys_are c)

pub returns-clause-cells : goal.returns-clause-cells
returns-clause-cells c =
    ap (λ (column : StoredColumn). keyed_rows (encoded_key column.keys) column.cells)
    c.new.ensures ∙ keys_are c.before
