use Rattle.std.proofs.Common.{◌≡◌, take}
use Rattle.std.specs.Prelude.{option_map}
use Rattle.json.specs.Value.{items_view}
use Rattle.agg_segment.specs.Segment.{IsNameOf, gathered_documents}
use Rattle.peslumok_records.specs.held.Values.{Gains, named_values}
use Rattle.peslumok_records.specs.objects.Objects.{item_values}
use Rattle.peslumok_records.proofs.objects.objects.push_items.Given as goal

-- the values of the items so far were appended
abbrev pub invariant-loop-item : goal.invariant-loop-item
invariant-loop-item l = record {
  numbered : IsNameOf l.builder l.number l.field.name;
  documents : gathered_documents l.builder ≡ gathered_documents l.initial.builder;
  gained : Gains (option_map (named_values l.field.name)
      (item_values l.field.of (items_view (take l.item-index l.items))))
      l.initial.builder l.builder;
}
