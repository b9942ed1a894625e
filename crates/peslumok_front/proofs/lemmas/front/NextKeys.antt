-- The text that is told of the last page's key.
use Rattle.std.proofs.Common.{◌≡◌, ◌∙◌, ◌∷◌, ◌++◌, ◌<◌, [], ℕ, List, Option, None, Some}
use Rattle.std.proofs.Common.{ap, arith, get_or, length, length-append, map, refl, suc, sym, zero}
use Rattle.std.proofs.lemmas.List.{length-map}
use Rattle.agg_values.specs.Names.{Named}
use Rattle.agg_values.specs.declared.after_key.AfterKey.{AfterKey}
use Rattle.peslumok_texts.specs.declared.fields.field_type.FieldType.{FieldType}
use Rattle.peslumok_front.specs.tables.Columns.{header_of}
use Rattle.peslumok_front.specs.declared.tables.columns.TableColumn.{TableColumn}
use Rattle.peslumok_front.specs.declared.tables.columns.TableColumn.TheVariants.{Count}
use Rattle.peslumok_texts.specs.declared.words.by.BySpec.{BySpec}
use Rattle.peslumok_front.specs.declared.grouping.grouping.Grouping.{Grouping}
use Rattle.peslumok_front.specs.after_text.After.{HaveOwnColumns, NamesFirst}
use Rattle.peslumok_front.specs.front.Answer.{TellsKey, TellsNext}
use Rattle.peslumok_front.specs.front.Columns.{HaveOwnHeaders, columns_asked, key_column}
use Rattle.peslumok_front.specs.front.Columns.{metric_column}

at-source : (types : Named FieldType) (by : List BySpec) (rest : List TableColumn) (i : ℕ)
    (d : BySpec)
    → i < length by
    → get_or (map (key_column types) by ++ rest) i (key_column types d)
    ≡ key_column types (get_or by i d)
at-source types [] rest i d within = absurd (omega (arith, within))
at-source types (b ∷ by) rest zero d within = refl
at-source types (b ∷ by) rest (suc i) d within =
    at-source types by rest i d (omega (arith, within))

-- where no two columns have one name, no two sources are called the same
pub own-columns : (types : Named FieldType) (by : List BySpec) (rest : List TableColumn)
    → HaveOwnHeaders (map (key_column types) by ++ rest) → HaveOwnColumns by
own-columns types by rest own i j d below within same =
    own i j (key_column types d) below
    (omega (
      arith,
      within,
      length-append (map (key_column types) by) rest,
      length-map by (key_column types),
    ))
    (ap header_of (at-source types by rest i d (omega (arith, below, within))) ∙ same
    ∙ sym (ap header_of (at-source types by rest j d within)))

-- the text that is told of the last page's key is read as the key
pub tells-next : (grouping : Grouping) (told : Option (List ℕ)) (next : Named AfterKey)
    → HaveOwnHeaders (columns_asked grouping) → NamesFirst grouping.by.items next
    → TellsKey grouping told next → TellsNext grouping told next
tells-next grouping None next own names told = told
tells-next grouping (Some text) next own names (some, reads) = (
  some,
  reads (own-columns grouping.types grouping.by.items
      (Count ∷ map (metric_column grouping.types) grouping.metrics.items) own) names,
)
