use Rattle.std.proofs.Common.{take}
use Rattle.agg_pages.specs.document_json.Fields.{AddsValues}
use Rattle.agg_pages.proofs.lemmas.document_json.FieldValues.{among}
use Rattle.agg_pages.proofs.document_json.document.add_items.Given as goal

-- the values among the items so far were put into the document
abbrev pub invariant-loop-item : goal.invariant-loop-item
invariant-loop-item l =
    AddsValues l.name (among (take l.item-index l.items)) l.initial.document l.document
