use Rattle.std.proofs.Common.{◌≡◌, ◌-◌, ◌++◌, length, get_or, arith, ap, ◌∙◌}
use Rattle.std.specs.List.{range_with_len}
use Rattle.std.proofs.lemmas.List.{with_items_is}
use Rattle.agg_segment.specs.storage.Columns.{encoded_key, type_of, named_texts, StandsForKey}
use Rattle.agg_segment.specs.storage.GatheredNumbers.{raw_key, IsEncodable}
use Rattle.agg_segment.specs.storage.Growing.{many_docs}
use Rattle.agg_segment.proofs.lemmas.storage.GrowingNumbers.{docs_length, all_seconds, seconds_all}
use Rattle.agg_segment.proofs.lemmas.storage.GrowingNumbers.{encoded_rows}
use Rattle.agg_segment.proofs.storage.rows.growing.encode_many.Goals as goal

pub encode_numbers-requires : goal.encode_numbers-requires
encode_numbers-requires c =
    let m = c.args.many.now in
    let keys = c.args.keys.now in
    let ordinals = c.args.ordinals.now in
    rw c.deref_mut.ensures.value
    (all_seconds (IsEncodable (named_texts keys ordinals) ordinals c.args.addresses.now keys)
    (many_docs m) m.numbers.items (docs_length 0 m.numbers.items m.docs.items c.requires.many.0)
    c.requires.encodable)

-- the numbers are as many as before
as_long : (c : goal.After-many-1) → length c.encode_numbers.new.numbers
    ≡ length c.args.many.now.numbers.items
as_long c = c.encode_numbers.auto.numbers ∙ ap length c.deref_mut.ensures.value

fills : (c : goal.After-many-1) → length c.encode_numbers.new.numbers ≡ c.args.many.now.numbers.len
fills c = omega (arith, c.encode_numbers.auto.numbers, c.deref_mut.ensures.len)

docs_same : (c : goal.After-many-1)
    → range_with_len 0 (length c.encode_numbers.new.numbers - length c.args.many.now.docs.items)
    ++ c.args.many.now.docs.items ≡ many_docs c.args.many.now
docs_same c = ap (λ n. range_with_len 0 (n - length c.args.many.now.docs.items)
    ++ c.args.many.now.docs.items) (as_long c)

pub returns-clause-many : goal.returns-clause-many
returns-clause-many c =
    let m = c.args.many.now in
    rw (with_items_is m.numbers c.encode_numbers.new.numbers (fills c), docs_same c)
    (omega (arith, as_long c, c.requires.many.0), c.requires.many.1)

pub returns-clause-keys : goal.returns-clause-keys
returns-clause-keys c =
    let m = c.args.many.now in
    let keys = c.args.keys.now in
    let e = c.encode_numbers.ensures in
    rw (with_items_is m.numbers c.encode_numbers.new.numbers (fills c), docs_same c)
    (encoded_rows (many_docs m) m.numbers.items c.encode_numbers.new.numbers (encoded_key keys)
    (raw_key (named_texts keys c.args.ordinals.now) c.args.addresses.now (type_of keys))
    (as_long c) (λ k l. e.keys k (omega (arith, l, ap length c.deref_mut.ensures.value))
    ∙ ap (λ ns. raw_key (named_texts keys c.args.ordinals.now) c.args.addresses.now (type_of keys)
    (get_or ns k 0)) c.deref_mut.ensures.value))

pub returns-clause-stand : goal.returns-clause-stand
returns-clause-stand c =
    let m = c.args.many.now in
    let e = c.encode_numbers.ensures in
    rw (with_items_is m.numbers c.encode_numbers.new.numbers (fills c), docs_same c)
    (seconds_all (StandsForKey c.args.keys.now) (many_docs m) c.encode_numbers.new.numbers
    (λ k l. e.stand k (omega (arith, l, c.encode_numbers.auto.numbers))))
