-- The values of a field that were taken into the open document, one by one.
use Rattle.std.proofs.Common.{◌≡◌, ℕ, ◌-◌, ◌<◌, ◌≤◌, List, [], ◌∷◌, ◌++◌, length, Bool, true, false}
use Rattle.std.proofs.Common.{inl, inr, None, Some, Result, Ok, Err, IfOk, IsTrue, cond}
use Rattle.std.proofs.Common.{bytes_eq, refl, sym, ap, ◌∙◌, subst, arith, append-nil, append_assoc}
use Rattle.std.proofs.lemmas.Slice.Eq.{bytes_eq-Decides}
use Rattle.std.specs.Option.{is_some}
use Rattle.json.specs.Token.{Token}
use Rattle.json.specs.Json.{after_end_array, items, parse_map, value}
use Rattle.json.proofs.Grammar.{after_end_array-shorter, value_is, value-begin_array}
use Rattle.serde_json.specs.Data.{Data, array, boolean, item, no_items, null, number, object}
use Rattle.serde_json.specs.Data.{string}
use Rattle.serde_json.specs.Find.{as_array, as_null}
use Rattle.serde_json.specs.Read.{converted, of_items, of_json}
use Rattle.agg_values.specs.TypedKey.{CompositeIntermediateKey}
use Rattle.agg_segment.specs.storage.Document.{Fields, by_class}
use Rattle.agg_segment.specs.Segment.{Gathered, IsNameOf, open_document, with_key}
use Rattle.agg_segment.proofs.lemmas.storage.Classes.{by_class_more}
use Rattle.agg_pages.specs.document_json.DocumentLine.{HasKey, field_values, values_among}
use Rattle.agg_pages.specs.declared.document_json.token_reader.LineToken.{LineToken}
use Rattle.agg_pages.specs.declared.document_json.token_reader.LineToken.TheVariants as line
use Rattle.agg_pages.specs.document_json.LineTokens.{StandsFor}
use Rattle.agg_pages.specs.document_json.Tokens.{GainsKeys, TakesItem, TakesItems, TakesValue}
use Rattle.agg_pages.specs.document_json.Tokens.{TakesValues}
use Rattle.agg_pages.proofs.lemmas.document_json.Beside.{AllZip-append}
use Rattle.agg_pages.proofs.lemmas.document_json.Documents.{none_is_some}
use Rattle.agg_pages.proofs.lemmas.document_json.TokenTurns.{converted-array, item_read}
use Rattle.agg_pages.proofs.lemmas.document_json.TokenTurns.{items_before, items_over, none_before}
use Rattle.agg_pages.proofs.lemmas.document_json.TokenTurns.{one_more_item}

-- ---- keys in the open document

pub same_name : (a : Gathered) (b : Gathered) (field : ℕ) (name : List ℕ) → b.names ≡ a.names
    → IsNameOf a field name → IsNameOf b field name
same_name a b field name same = subst (λ names. IsNameOf (record {
  count = 0;
  names = names;
  cells = [];
}) field name) (sym same)

pub GainsKeys-none : (field : ℕ) (builder : Gathered) → GainsKeys field [] builder builder
GainsKeys-none field builder = record {
  keys = [];
  has = tt;
  here = λ name before known is. is ∙ ap by_class (sym (append-nil before));
  elsewhere = λ name other known apart. refl;
  names = refl;
}

pub GainsKeys-then : (field : ℕ) (written more : List Data) (old now new : Gathered)
    → GainsKeys field written old now → GainsKeys field more now new
    → GainsKeys field (written ++ more) old new
GainsKeys-then field written more old now new first next = record {
  keys = first.keys ++ next.keys;
  has = AllZip-append HasKey written more first.keys next.keys first.has next.has;
  here = λ name before known is.
      next.here name (before ++ first.keys) (same_name old now field name first.names known)
      (first.here name before known is)
      ∙ ap by_class (append_assoc before first.keys next.keys);
  elsewhere = λ name other known apart.
      next.elsewhere name other (same_name old now field name first.names known) apart
      ∙ first.elsewhere name other known apart;
  names = next.names ∙ first.names;
}

key_here : (name : List ℕ) (key : CompositeIntermediateKey) (document : Fields)
    (before : List CompositeIntermediateKey) → document name ≡ by_class before
    → with_key name key document name ≡ by_class (before ++ key ∷ [])
key_here name key document before is =
    rw ((bytes_eq-Decides name name).1 refl)
    (ap (λ keys. by_class (keys ++ key ∷ [])) is ∙ by_class_more before (key ∷ []))

key_elsewhere : (name other : List ℕ) (key : CompositeIntermediateKey) (document : Fields)
    → bytes_eq name other ≡ false → with_key name key document other ≡ document other
key_elsewhere name other key document apart = rw apart refl

pub GainsKeys-one : (field : ℕ) (d : Data) (key : CompositeIntermediateKey) (old new : Gathered)
    → HasKey d key
    → ((name : List ℕ) → IsNameOf old field name
    → open_document new ≡ with_key name key (open_document old))
    → new.names ≡ old.names → GainsKeys field (d ∷ []) old new
GainsKeys-one field d key old new has pushed names = record {
  keys = key ∷ [];
  has = (has, tt);
  here = λ name before known is.
      ap (λ document. document name) (pushed name known)
      ∙ key_here name key (open_document old) before is;
  elsewhere = λ name other known apart.
      ap (λ document. document other) (pushed name known)
      ∙ key_elsewhere name other key (open_document old) apart;
  names = names;
}

-- ---- one value

-- what has a key is a value, and no array
pub keyed_alone : (d : Data) (key : CompositeIntermediateKey) → HasKey d key
    → (as_array d ≡ None) × (values_among (item d no_items) ≡ d ∷ [])
keyed_alone null key (inl plain) = none_is_some key plain
keyed_alone null key (inr address) = none_is_some address.0 address.2
keyed_alone (boolean b) key has = (refl, refl)
keyed_alone (number n) key has = (refl, refl)
keyed_alone (string s) key has = (refl, refl)
keyed_alone (array ds) key (inl plain) = none_is_some key plain
keyed_alone (array ds) key (inr address) = none_is_some address.0 address.2
keyed_alone (object ms) key has = (refl, refl)

pub one_item : (field : ℕ) (old new : List Token) (key : CompositeIntermediateKey)
    (before after : Gathered) → TakesValue old key new
    → ((name : List ℕ) → IsNameOf before field name
    → open_document after ≡ with_key name key (open_document before))
    → after.names ≡ before.names → TakesItem field old new before after
one_item field old new key before after one pushed names =
    let alone = keyed_alone one.seen key one.has in
    record {
      seen = one.seen;
      single = alone.0;
      gains = subst (λ written. GainsKeys field written before after) (sym alone.1)
          (GainsKeys-one field one.seen key before after one.has pushed names);
      read = one.read;
      shorter = one.shorter;
    }

pub null_item : (field : ℕ) (rest : List Token) (builder : Gathered)
    → TakesItem field (Token.null ∷ rest) rest builder builder
null_item field rest builder = record {
  seen = null;
  single = refl;
  gains = GainsKeys-none field builder;
  read = λ depth some. ap (converted of_json) (value_is depth (Token.null ∷ rest));
  shorter = omega arith;
}

-- ---- the values of a field

values_alone : (d : Data) → as_array d ≡ None → field_values d ≡ values_among (item d no_items)
values_alone null alone = refl
values_alone (boolean b) alone = refl
values_alone (number n) alone = refl
values_alone (string s) alone = refl
values_alone (array ds) alone = none_is_some ds (sym alone)
values_alone (object ms) alone = refl

pub item_values : (field : ℕ) (old new : List Token) (before after : Gathered)
    → TakesItem field old new before after → TakesValues field old new before after
item_values field old new before after one = record {
  seen = one.seen;
  gains = subst (λ written. GainsKeys field written before after)
      (sym (values_alone one.seen one.single)) one.gains;
  read = λ depth some. one.read depth (omega (arith, some));
  shorter = one.shorter;
}

pub array_values : (field : ℕ) (ts new : List Token) (before after : Gathered)
    → TakesItems field ts new before after
    → TakesValues field (Token.begin_array ∷ ts) new before after
array_values field ts new before after all = record {
  seen = array all.seen;
  gains = all.gains;
  read = λ depth some.
      ap (converted of_json) (value-begin_array depth ts (omega (arith, some)))
      ∙ converted-array (items (value (depth - 1)) (length ts) ts)
      ∙ ap (parse_map array) (all.read (depth - 1) (omega (arith, some)));
  shorter = omega (arith, all.shorter);
}

-- ---- the items of an array, one by one

-- what begins a value ends no array
pub no_array_end : (token : LineToken) (first : Token) (rest : List Token)
    → StandsFor token first → after_end_array (first ∷ rest) ≡ None
no_array_end line.BeginObject first rest is = ap (λ t. after_end_array (t ∷ rest)) is
no_array_end line.BeginArray first rest is = ap (λ t. after_end_array (t ∷ rest)) is
no_array_end line.Null first rest is = ap (λ t. after_end_array (t ∷ rest)) is
no_array_end (line.Bool b) first rest is = ap (λ t. after_end_array (t ∷ rest)) is
no_array_end (line.Text text) first rest is = ap (λ t. after_end_array (t ∷ rest)) is
no_array_end (line.Number n) first rest stands =
    ap (λ t. after_end_array (t ∷ rest)) stands.1

-- the items before these were taken
pub record HasTakenItems (field : ℕ) (old now : List Token) (before after : Gathered) : Type 0 where
  pub turns : ℕ
  pub seen : List Data
  pub enough : length now ≤ turns
  pub gains : GainsKeys field (values_among (items_before seen no_items)) before after
  pub read : (depth : ℕ) → 0 < depth
      → converted of_items (items (value depth) (length old) old)
      ≡ parse_map (items_before seen) (converted of_items (items (value depth) turns now))
  pub no_longer : length now ≤ length old

pub no_items_yet : (field : ℕ) (ts : List Token) (builder : Gathered)
    → HasTakenItems field ts ts builder builder
no_items_yet field ts builder = record {
  turns = length ts;
  seen = [];
  enough = omega arith;
  gains = GainsKeys-none field builder;
  read = λ depth some. none_before _;
  no_longer = omega arith;
}

first_of : (b : Bool) (d : Data) (xs ys : List Data)
    → cond b (xs ++ ys) (d ∷ (xs ++ ys)) ≡ cond b xs (d ∷ xs) ++ ys
first_of true d xs ys = refl
first_of false d xs ys = refl

among_push : (ds : List Data) (d : Data)
    → values_among (items_before (ds ++ d ∷ []) no_items)
    ≡ values_among (items_before ds no_items) ++ values_among (item d no_items)
among_push [] d = refl
among_push (e ∷ ds) d =
    ap (λ l. cond (is_some (as_null e)) l (e ∷ l)) (among_push ds d)
    ∙ first_of (is_some (as_null e)) e (values_among (items_before ds no_items))
    (values_among (item d no_items))

pub one_more : (field : ℕ) (old ts r : List Token) (before now after : Gathered)
    → HasTakenItems field old ts before now → after_end_array ts ≡ None
    → TakesItem field ts r now after → HasTakenItems field old r before after
one_more field old ts r before now after l going one = record {
  turns = l.turns - 1;
  seen = l.seen ++ one.seen ∷ [];
  enough = omega (arith, l.enough, one.shorter);
  gains = subst (λ written. GainsKeys field written before after) (sym (among_push l.seen one.seen))
      (GainsKeys-then field (values_among (items_before l.seen no_items))
      (values_among (item one.seen no_items)) before now after l.gains one.gains);
  read = λ depth some.
      l.read depth some
      ∙ ap (parse_map (items_before l.seen))
      (item_read (value depth) l.turns ts r one.seen (omega (arith, l.enough, one.shorter)) going
      (one.read depth some))
      ∙ one_more_item l.seen one.seen _;
  no_longer = omega (arith, l.no_longer, one.shorter);
}

pub all_items : (field : ℕ) (old ts r : List Token) (before after : Gathered)
    → HasTakenItems field old ts before after → after_end_array ts ≡ Some r
    → TakesItems field old r before after
all_items field old ts r before after l over = record {
  seen = items_before l.seen no_items;
  gains = l.gains;
  read = λ depth some.
      l.read depth some
      ∙ ap (parse_map (items_before l.seen)) (items_over (value depth) l.turns ts r l.enough over);
  shorter = omega (arith, l.no_longer, after_end_array-shorter ts r over);
}

-- ---- where values were taken

pub if_array : {E : Type 0} (field : ℕ) (ts s r : List Token) (before after : Gathered)
    (answer : Result Bool E) → ts ≡ Token.begin_array ∷ s
    → IfOk answer (λ taken. IsTrue taken → TakesItems field s r before after)
    → IfOk answer (λ taken. IsTrue taken → TakesValues field ts r before after)
if_array field ts s r before after (Err x) is h = tt
if_array field ts s r before after (Ok b) is h = λ taken.
    subst (λ us. TakesValues field us r before after) (sym is)
    (array_values field s r before after (h taken))
