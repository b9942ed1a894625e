-- An array of objects has at most one list of documents.
use Rattle.std.proofs.Common.{◌≡◌, ℕ, List, [], ◌∷◌, map, refl, sym, ap, ◌∙◌, subst}
use Rattle.std.specs.Prelude.{Option, Some, None}
use Rattle.json.specs.Json.{Items, Json, array, boolean, item, no_items, null, number}
use Rattle.json.specs.Json.{object, string}
use Rattle.json.specs.Value.{items_of}
use Rattle.agg_segment.specs.storage.Document.{Fields}
use Rattle.peslumok_records.specs.held.Documents.{AreRead}
use Rattle.peslumok_records.specs.declared.held.asked.AskedField.{AskedField}
use Rattle.peslumok_records.proofs.lemmas.held.SoleDocuments.{read_once}
use Rattle.peslumok_records.specs.objects.JsonRecords.{AreItemDocuments}
use Rattle.peslumok_records.specs.objects.Objects.{object_document}

abbrev pub listed : Items → List Json
listed no_items = []
listed (item j js) = j ∷ listed js

pub listed-items_of : (js : List Json) → listed (items_of js) ≡ js
listed-items_of [] = refl
listed-items_of (j ∷ js) = ap (λ l. j ∷ l) (listed-items_of js)

abbrev pub in_array : Option Json → List Json
in_array None = []
in_array (Some null) = []
in_array (Some (boolean b)) = []
in_array (Some (number text)) = []
in_array (Some (string text)) = []
in_array (Some (array items)) = listed items
in_array (Some (object inner)) = []

pub items_once : (asked : List AskedField) (text : List ℕ) (first second : List Fields)
    → AreItemDocuments asked text first → AreItemDocuments asked text second → first ≡ second
items_once asked text first second a b =
    let same : a.objects ≡ b.objects =
    sym (listed-items_of a.objects) ∙ ap in_array (sym a.is ∙ b.is)
    ∙ listed-items_of b.objects in
    read_once (map (object_document asked) b.objects) first second
    (subst (λ js. AreRead (map (object_document asked) js) first) same a.read) b.read
