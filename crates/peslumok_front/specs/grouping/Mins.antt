-- The least values of sources.
use Rattle.std.specs.Prelude.{ℕ, List, Bool, Option, Some, None, Result, Ok, Err}
use Rattle.agg_values.specs.declared.after_key.AfterKey.{AfterKey}
use Rattle.agg_segment.specs.storage.Document.{said_key}
use Rattle.agg_segment.specs.declared.storage.document.FieldValue.{FieldValue}
use Rattle.agg_segment.specs.declared.storage.document.FieldValue.TheVariants as value
use Rattle.peslumok_texts.specs.fields.Values.{text_value}
use Rattle.peslumok_texts.specs.declared.fields.error.ValueError.{ValueError}
use Rattle.peslumok_texts.specs.declared.fields.field_type.FieldType.{FieldType}
use Rattle.peslumok_texts.specs.declared.fields.field_type.FieldType.TheVariants.{Plain}
use Rattle.peslumok_front.specs.grouping.Query.{truth_of}
use Rattle.peslumok_front.specs.declared.grouping.by_fault.ByFault.{ByFault}
use Rattle.peslumok_front.specs.declared.grouping.by_fault.ByFault.TheVariants.{Min}

-- a truth value, or else what was read
abbrev pub truth_or : Option Bool → Result FieldValue ValueError → Result FieldValue ValueError
truth_or (Some truth) read = Ok (value.Bool truth)
truth_or None read = read

-- the value that a text is in a field of a type: a truth value's word is one in a plain field
abbrev pub least_value : FieldType → List ℕ → Result FieldValue ValueError
least_value Plain text = truth_or (truth_of text) (text_value Plain text)
least_value of text = text_value of text

-- the key of a value that was read
abbrev pub least_key : Result FieldValue ValueError → Result (Option AfterKey) ByFault
least_key (Ok value) = Ok (Some (record { 0 = said_key value }))
least_key (Err why) = Err (Min why)

-- the least value of a field of a type, where one is asked for
abbrev pub least_asked : FieldType → Option (List ℕ) → Result (Option AfterKey) ByFault
least_asked of None = Ok None
least_asked of (Some text) = least_key (least_value of text)
