-- Records of JSON: an object that a text is, or that is the next value among tokens.
use Rattle.std.specs.Prelude.{◌≡◌, ◌-◌, ℕ, List, Option, Some, map, option_and_then}
use Rattle.json.specs.Json.{Json, array, document, max_depth, value}
use Rattle.json.specs.Token.{Token}
use Rattle.json.specs.Value.{items_of}
use Rattle.agg_segment.specs.storage.Document.{Fields}
use Rattle.peslumok_records.specs.held.Documents.{AreRead}
use Rattle.peslumok_records.specs.held.Held.{Holds}
use Rattle.peslumok_records.specs.declared.held.asked.AskedField.{AskedField}
use Rattle.peslumok_records.specs.declared.held.records.Records.{Records}
use Rattle.peslumok_records.specs.objects.Objects.{object_document}

-- the document of the object that a text is
abbrev pub text_document : List AskedField → List ℕ → Option Fields
text_document asked text = option_and_then (object_document asked) (document text)

-- a text is an array of objects, and these are their documents
pub record AreItemDocuments (asked : List AskedField) (text : List ℕ) (documents : List Fields)
    : Type 0 where
  pub objects : List Json
  pub is : document text ≡ Some (array (items_of objects))
  pub read : AreRead (map (object_document asked) objects) documents

-- the document of an object that is the next value among tokens, up to others, stands after those
-- that the records held
pub record HoldsNext (asked : List AskedField) (tokens rest : List Token) (old new : Records)
    : Type 0 where
  pub object : Json
  pub is : value (max_depth - 1) tokens ≡ Some (object, rest)
  pub holds : Holds (object_document asked object) old new
