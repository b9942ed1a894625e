-- The items of an array, read one after the other, whose documents were appended.
use Rattle.std.proofs.Common.{◌≡◌, ◌<◌, ◌-◌, List, [], ◌∷◌, ◌++◌, length, ap, ◌∙◌, arith, map}
use Rattle.std.specs.Prelude.{Some, None}
use Rattle.json.specs.Json.{Json, after_end_array, array, max_depth, parse_map, value}
use Rattle.json.specs.Token.{Token}
use Rattle.json.specs.Value.{items_of}
use Rattle.json.proofs.Grammar.{value-begin_array}
use Rattle.peslumok_records.specs.held.Documents.{AreRead}
use Rattle.peslumok_records.specs.held.Held.{Adds}
use Rattle.peslumok_records.specs.declared.held.asked.AskedField.{AskedField}
use Rattle.peslumok_records.specs.declared.held.records.Records.{Records}
use Rattle.peslumok_records.proofs.lemmas.held.HeldDocuments.{adds_none, adds_one}
use Rattle.peslumok_records.specs.objects.JsonRecords.{HoldsNext}
use Rattle.peslumok_records.specs.objects.Objects.{object_document}
use Rattle.peslumok_records.proofs.lemmas.objects.ReadItems as items

-- the items so far were read, and their documents appended
pub record HasItems (asked : List AskedField) (start now : List Token) (old new : Records)
    : Type 0 where
  pub objects : List Json
  pub read : items.HasRead (value (max_depth - 1)) start now objects
  pub adds : Adds (AreRead (map (object_document asked) objects)) old new

pub no_items_yet : (asked : List AskedField) (start : List Token) (records : Records)
    → HasItems asked start start records records
no_items_yet asked start records = record {
  objects = [];
  read = items.no_items_yet (value (max_depth - 1)) start;
  adds = adds_none records;
}

pub one_item_more : (asked : List AskedField) (start here next : List Token)
    (old now new : Records) → after_end_array here ≡ None → length next < length here
    → HasItems asked start here old now → HoldsNext asked here next now new
    → HasItems asked start next old new
one_item_more asked start here next old now new going shorter has took = record {
  objects = has.objects ++ took.object ∷ [];
  read = items.one_item_more (value (max_depth - 1)) start here next has.objects took.object going
      took.is shorter has.read;
  adds = adds_one (object_document asked) has.objects took.object old now new has.adds took.holds;
}

-- the whole array, where its bracket comes next and nothing after it
pub all_items : (asked : List AskedField) (start here : List Token) (old new : Records)
    (has : HasItems asked start here old new) → after_end_array here ≡ Some []
    → value max_depth (Token.begin_array ∷ start) ≡ Some (array (items_of has.objects), [])
all_items asked start here old new has closes =
    value-begin_array max_depth start (omega arith)
    ∙ ap (parse_map array)
    (items.all_items (value (max_depth - 1)) start here [] has.objects has.read closes)
