-- Pages that are written one after another.
use Rattle.std.proofs.Common.{◌≡◌, ◌++◌, ◌∷◌, ◌∙◌, ◌+◌, ◌==◌, [], ℕ, List, Bool, true, false}
use Rattle.std.proofs.Common.{ap, refl, suc}
use Rattle.std.proofs.Common.{Err, IfOk, Ok, Result, inl, inr}
use Rattle.std.proofs.Common.{append-nil, append_assoc, add-one, arith, length, subst, sym}
use Rattle.std.specs.Prelude.{MatchBool}
use Rattle.std.proofs.lemmas.Bool.Decides.{eqb_tells}
use Rattle.agg_values.specs.Names.{Named}
use Rattle.agg_values.specs.declared.after_key.AfterKey.{AfterKey}
use Rattle.agg_segment.specs.storage.Document.{Fields}
use Rattle.agg_segment.specs.declared.query.QueryTree.{QueryTree}
use Rattle.agg_results.specs.declared.final_results.types.AggregationResults.{AggregationResults}
use Rattle.peslumok_front.specs.declared.grouping.grouping.Grouping.{Grouping}
use Rattle.peslumok_front.specs.declared.tables.columns.TableColumn.{TableColumn}
use Rattle.peslumok_texts.specs.declared.formats.OutputFormat.{OutputFormat}
use Rattle.peslumok_front.specs.front.Answer.{AreWritten}
use Rattle.peslumok_front.specs.front.Pages.{ArePages, IsPageOf, is_end, is_last, last_after}
use Rattle.peslumok_front.specs.front.Pages.{next_after, room_of}
use Rattle.peslumok_front.specs.front.Written.{IsPageText, IsTextOf, ends}
use Rattle.peslumok_front.specs.declared.front.asked.Pages.{Pages}

module _ (grouping : Grouping) (query : QueryTree) (documents : List Fields) (asked : Pages)
    (format : OutputFormat) (columns : List TableColumn) where
  -- the pages after a key that are asked for
  abbrev After : Named AfterKey → List AggregationResults → Type 0
  After = ArePages grouping query documents asked.is_all (room_of asked)

  -- pages after a key and all pages: what is written before their text
  pub record Whole (first : Named AfterKey) (pages : List AggregationResults) (whole : List ℕ)
      : Type 0 where
    pub all : List AggregationResults
    pub are_pages : After first all
    pub is_text : IsTextOf columns format true all whole
    pub same_last : last_after all ≡ last_after pages

  -- what is written before leads from the first key to one: with the text of the pages after that,
  -- whatever they are, it is the whole text
  pub record Leads (first after : Named AfterKey) (is_first : Bool) (before : List ℕ)
      : Type 0 where
    pub goes : (pages : List AggregationResults) (text : List ℕ) → After after pages
        → IsTextOf columns format is_first pages text → Whole first pages (before ++ text)

  -- nothing is written before the first page
  pub leads-start : (first : Named AfterKey) → Leads first first true []
  leads-start first = record {
    goes = λ pages text are is. record {
      all = pages;
      are_pages = are;
      is_text = is;
      same_last = refl;
    };
  }

  -- there is a page after a key
  ends-not : (after : Named AfterKey) (pages : List AggregationResults) → After after pages
      → ends pages ≡ false
  ends-not after [] none = absurd none
  ends-not after (page ∷ pages) are = refl

  last-later : (after : Named AfterKey) (page : AggregationResults)
      (pages : List AggregationResults) → After after pages
      → last_after (page ∷ pages) ≡ last_after pages
  last-later after page [] none = absurd none
  last-later after page (later ∷ pages) are = refl

  module _ (first after : Named AfterKey) (is_first : Bool) (before own : List ℕ)
      (page : AggregationResults) (leads : Leads first after is_first before)
      (is_page : IsPageOf grouping query documents
      (record { size = room_of asked; after = after }) page) where
    -- one page more, after which others come
    pub leads-more : is_last asked.is_all (next_after page) ≡ false
        → IsPageText columns format is_first false page own
        → Leads first (next_after page) false (before ++ own)
    leads-more more is_text = record {
      goes = λ pages text are is.
          let whole = leads.goes (page ∷ pages) (own ++ text) (
            is_page,
            subst (λ b. MatchBool b (pages ≡ []) (After (next_after page) pages)) (sym more)
                are,
          ) (
            own,
            text,
            subst (λ b. IsPageText columns format is_first b page own)
                (sym (ends-not (next_after page) pages are)) is_text,
            is,
            refl,
          ) in
          record {
            all = whole.all;
            are_pages = whole.are_pages;
            is_text = subst (IsTextOf columns format true whole.all)
                (sym (append_assoc before own text)) whole.is_text;
            same_last = whole.same_last ∙ last-later (next_after page) page pages are;
          };
    }

    -- the last page
    pub leads-end : is_last asked.is_all (next_after page) ≡ true
        → IsPageText columns format is_first true page own
        → AreWritten grouping query documents asked format columns first (next_after page)
        (before ++ own)
    leads-end end is_text =
        let whole = leads.goes (page ∷ []) (own ++ []) (
          is_page,
          subst (λ (b : Bool). let none : List AggregationResults = [] in
              MatchBool b (none ≡ []) (After (next_after page) none)) (sym end) refl,
        )
        (own, [], is_text, refl, refl) in
        record {
          pages = whole.all;
          are_pages = whole.are_pages;
          is_text = subst (λ text. IsTextOf columns format true whole.all (before ++ text))
              (append-nil own) whole.is_text;
          shown = sym whole.same_last;
        }

suc-not_zero : (n : ℕ) → (suc n == 0) ≡ false
suc-not_zero n =
    elim (eqb_tells (suc n) 0) [ inl same ↦ absurd (omega (arith, same.1)) | inr other ↦ other.0 ]

-- a key is the end where it has no entries
pub is_end-length : (after : Named AfterKey) → (length after == 0) ≡ is_end after
is_end-length [] = refl
is_end-length (key ∷ after) = suc-not_zero (length after)

-- a number after another isn't the first
not-first : (number : ℕ) → ((number + 1) == 0) ≡ false
not-first number = ap (λ n. n == 0) (add-one number) ∙ suc-not_zero number

-- ---- in the loop

module _ (grouping : Grouping) (query : QueryTree) (documents : List Fields) (asked : Pages)
    (format own_format : OutputFormat) (columns own_columns : List TableColumn)
    (same_format : own_format ≡ format) (same_columns : own_columns ≡ columns)
    (first after shown : Named AfterKey) (page : AggregationResults)
    (shows : shown ≡ next_after page) (number : ℕ) (last : Bool)
    (is : last ≡ is_last asked.is_all shown) (before own : List ℕ)
    (leads : Leads grouping query documents asked format columns first after (number == 0) before)
    (is_page : IsPageOf grouping query documents (record { size = room_of asked; after = after })
    page)
    (is_text : IsPageText own_columns own_format (number == 0) last page own) where
  shown-last : (b : Bool) → last ≡ b → is_last asked.is_all (next_after page) ≡ b
  shown-last b so = ap (is_last asked.is_all) (sym shows) ∙ sym is ∙ so

  text-as : (b : Bool) → last ≡ b → IsPageText columns format (number == 0) b page own
  text-as b so =
      subst (λ l. IsPageText columns format (number == 0) l page own) so
      (subst (λ f. IsPageText columns f (number == 0) last page own) same_format
      (subst (λ cs. IsPageText cs own_format (number == 0) last page own) same_columns is_text))

  -- the loop goes on after a page that isn't the last
  pub run-more : last ≡ false
      → Leads grouping query documents asked format columns first shown ((number + 1) == 0)
      (before ++ own)
  run-more more =
      subst (λ b. Leads grouping query documents asked format columns first shown b (before ++ own))
      (sym (not-first number))
      (subst (λ key. Leads grouping query documents asked format columns first key false
      (before ++ own)) (sym shows)
      (leads-more grouping query documents asked format columns first after (number == 0) before own
      page leads is_page (shown-last false more) (text-as false more)))

  -- it ends with the last one
  pub run-end : last ≡ true
      → AreWritten grouping query documents asked format columns first shown (before ++ own)
  run-end end =
      subst (λ key. AreWritten grouping query documents asked format columns first key
      (before ++ own)) (sym shows)
      (leads-end grouping query documents asked format columns first after (number == 0) before own
      page leads is_page (shown-last true end) (text-as true end))

-- ---- what is asked

-- what holds of a value holds otherwise
pub ok-weaker : {T E : Type 0} (P Q : T → Type 0) → ((value : T) → P value → Q value)
    → (result : Result T E) → IfOk result P → IfOk result Q
ok-weaker P Q weaker (Ok value) is = weaker value is
ok-weaker P Q weaker (Err error) is = is

-- pages are written in the columns and the format that are asked for
pub written-as : (grouping : Grouping) (query : QueryTree) (documents : List Fields)
    (pages : Pages) (format asked : OutputFormat) (columns all : List TableColumn)
    (first next : Named AfterKey) (text : List ℕ) → format ≡ asked → columns ≡ all
    → AreWritten grouping query documents pages format columns first next text
    → AreWritten grouping query documents pages asked all first next text
written-as grouping query documents pages format asked columns all first next text same are
    written =
    subst (λ (cs : List TableColumn). AreWritten grouping query documents pages asked cs first next
    text)
    are
    (subst (λ (f : OutputFormat). AreWritten grouping query documents pages f columns first next
    text) same written)
