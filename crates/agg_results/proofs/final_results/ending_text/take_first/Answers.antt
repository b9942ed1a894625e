use Rattle.std.proofs.Common.{◌≡◌, ◌∷◌, [], ◌∙◌, List, ℕ, Option, Some, refl, ap, arith, subst, sym}
use Rattle.std.proofs.Common.{true}
use Rattle.std.proofs.lemmas.Grind.{common_steps}
use Rattle.std.specs.BTreeMap.{is_at}
use Rattle.std.specs.Map.{keys_of}
use Rattle.std.proofs.lemmas.Map.Entries.{lookup_head}
use Rattle.std.proofs.lemmas.Map.Text.{is_eq-slice_cmp}
use Rattle.std.proofs.lemmas.Slice.Eq.{bytes_eq-Decides}
use Rattle.agg_values.specs.Names.{Named, name_cmp, value_of, without}
use Rattle.agg_results.specs.declared.final_results.types.AggregationResult.{AggregationResult}
use Rattle.agg_results.proofs.final_results.ending_text.take_first.Goals as goal

-- maps without names are empty
none-left : {T : Type 0} (entries : Named T) (names : List (List ℕ)) → names ≡ keys_of entries
    → names ≡ [] → entries ≡ []
none-left [] names k n = refl
none-left (e ∷ entries) names k n = absurd (cc)

-- the first entry is taken out by its name
first-taken : {T : Type 0} (entries rest : Named T) (names later : List (List ℕ))
    (least name : List ℕ) (value : Option T)
    → names ≡ keys_of entries
    → names ≡ least ∷ later
    → name ≡ least
    → value ≡ value_of name entries
    → rest ≡ without name entries
    → (v : T) × (value ≡ Some v) × (entries ≡ (name, v) ∷ rest)
first-taken [] rest names later least name value k n same v r = absurd (cc)
first-taken (e ∷ entries) rest names later least name value k n same v r =
    let first : name ≡ e.0 = cc in
    let is : is_at (name_cmp name) e.0 ≡ true =
    subst (λ other. is_at (name_cmp name) other ≡ true) first
    (is_eq-slice_cmp name name ∙ (bytes_eq-Decides name name).1 refl) in
    let left : rest ≡ entries = r ∙ rw is refl in (
      e.1,
      v ∙ lookup_head (is_at (name_cmp name)) e entries is,
      ap (λ es. e ∷ es) (sym left) ∙ ap (λ other. (other, e.1) ∷ rest) (sym first),
    )

pub returns-in_default : goal.returns-in_default
returns-in_default c =
    none-left c.args.results.now c.keys.result c.keys.ensures.names c.in_default.ensures.steps.0

pub returns : goal.returns
returns c =
    let first = first-taken {T = AggregationResult} c.args.results.now c.remove.new.self
    c.keys.result c.next.new.self c.in-Some.least.now c.in_ok-name.name c.remove.result
    c.keys.ensures.names c.in-Some.ensures.steps c.in_ok-name.ensures c.remove.ensures.value
    c.remove.ensures.rest in
    let found : c.remove.result ≡ Some first.0 = first.1 in
    let split : c.args.results.now ≡ (c.in_ok-name.name, first.0) ∷ c.remove.new.self = first.2 in
    grind (arith, common_steps, found, split)
