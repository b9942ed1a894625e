use Rattle.std.proofs.Common.{◌≡◌, ◌∷◌, ◌-◌, ◌∙◌, [], Some, None, ap, arith, rules, sym, true}
use Rattle.std.specs.Prelude.{is_some, option_and_then}
use Rattle.std.proofs.lemmas.Grind.{common_steps}
use Rattle.json.specs.Json.{after_end_array, if_last, max_depth, value}
use Rattle.json.specs.Lex.{tokens}
use Rattle.json.specs.Token.{Token}
use Rattle.peslumok_records.specs.held.Causes.{is_fault}
use Rattle.peslumok_records.proofs.lemmas.objects.ArrayItems.{all_items, no_items_yet}
use Rattle.peslumok_records.proofs.lemmas.objects.ArrayItems.{one_item_more}
use Rattle.peslumok_records.proofs.lemmas.objects.NoJsonDocuments.{none_after, none_with}
use Rattle.peslumok_records.proofs.lemmas.objects.NoJsonDocuments.{none_without, some_token}
use Rattle.peslumok_records.proofs.objects.array.read_array.Goals as goal

pub items-init : goal.items-init
items-init c = no_items_yet c.args.asked.now c.take_begin_array.new.reader c.args.into.now

pub items-preserved : goal.items-preserved
items-preserved c =
    let l = c.items in
    let going : (after_end_array l.reader ≡ None) × (c.take_end_array.new.self ≡ l.reader) =
    grind arith in
    let took = c.in_default-read_item.ensures in
    one_item_more c.args.asked.now c.take_begin_array.new.reader l.reader c.read_item.new.reader
    c.args.into.now l.into c.read_item.new.into going.0 (rw (← going.1) took.shorter)
    l.invariant (rw (← going.1) took.holds)

pub returns-clause-ok : goal.returns-clause-ok
returns-clause-ok c =
    let l = c.items in
    let closes : after_end_array l.reader ≡ Some c.take_end_array.new.self = grind arith in
    let ended : c.take_end_array.new.self ≡ [] = grind (arith, common_steps) in
    let opens : tokens c.args.text.now ≡ Token.begin_array ∷ c.take_begin_array.new.reader =
    search rules in
    let (documents, read, added) = l.invariant.adds in (
      documents,
      record {
        objects = l.invariant.objects;
        is = ap (option_and_then (λ p. if_last p.0 p.1)) (ap (value max_depth) opens
            ∙ all_items c.args.asked.now c.take_begin_array.new.reader l.reader c.args.into.now
            l.into l.invariant (closes ∙ ap Some ended));
        read = read;
      },
      added,
    )

pub returns-in-Err-clause-none : goal.returns-in-Err-clause-none
returns-in-Err-clause-none c = λ fault.
    let l = c.items in
    let opens : tokens c.args.text.now ≡ Token.begin_array ∷ c.take_begin_array.new.reader =
    search rules in
    let going : (after_end_array l.reader ≡ None) × (c.take_end_array.new.self ≡ l.reader) =
    grind arith in
    none_with c.args.asked.now c.args.text.now c.take_begin_array.new.reader l.reader
    l.invariant.objects opens l.invariant.read going.0 (λ j rest one.
    c.in-Err.ensures.none (ap is_fault (sym c.fault-in-Err.ensures) ∙ fault) j rest
    (ap (value (max_depth - 1)) going.1 ∙ one))

pub returns-then-is_some-clause-none : goal.returns-then-is_some-clause-none
returns-then-is_some-clause-none c = λ _.
    let l = c.items in
    let opens : tokens c.args.text.now ≡ Token.begin_array ∷ c.take_begin_array.new.reader =
    search rules in
    let closes : after_end_array l.reader ≡ Some c.take_end_array.new.self = grind arith in
    let found : is_some c.next.result ≡ true = search rules in
    let (t, is) = some_token c.take_end_array.new.self c.next.new.self c.next.result
    c.next.ensures.value found in
    none_after c.args.asked.now c.args.text.now c.take_begin_array.new.reader l.reader
    l.invariant.objects opens l.invariant.read t c.next.new.self (closes ∙ ap Some is)

pub returns-then-not-take_begin_array-clause-none :
    goal.returns-then-not-take_begin_array-clause-none
returns-then-not-take_begin_array-clause-none c = λ _.
    none_without c.args.asked.now c.args.text.now (search rules)
