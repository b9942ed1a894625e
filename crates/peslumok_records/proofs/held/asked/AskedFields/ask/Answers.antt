use Rattle.std.proofs.Common.{◌≡◌, ◌∙◌, inl, inr, refl, rules, sym, tests}
use Rattle.std.specs.List.{list_any}
use Rattle.std.proofs.lemmas.Iterator.{YieldsList-from_slice}
use Rattle.std.proofs.lemmas.Iterator.Search.{any_from_yields_List}
use Rattle.peslumok_records.proofs.lemmas.held.AskedNames.{asked_by_test, is_named, unasked_by_test}
use Rattle.peslumok_records.proofs.held.asked.AskedFields.ask.Goals as goal

pub returns-then-any-clause-ok : goal.returns-then-any-clause-ok
returns-then-any-clause-ok c =
    let found : c.any.result ≡ list_any (is_named c.args.name) c.args.self.now =
    any_from_yields_List (is_named c.args.name) _ _ c.any.result c.any.ensures.ran
    (YieldsList-from_slice c.args.self.now cc) (λ x b q k. search (rules, tests)) in
    inl (asked_by_test c.args.name c.args.self.now (sym found ∙ c.if-any.true), refl)

pub returns-clause-ok : goal.returns-clause-ok
returns-clause-ok c =
    let found : c.any.result ≡ list_any (is_named c.args.name) c.args.self.now =
    any_from_yields_List (is_named c.args.name) _ _ c.any.result c.any.ensures.ran
    (YieldsList-from_slice c.args.self.now cc) (λ x b q k. search (rules, tests)) in
    let path = c.in_ok-path.path in
    inr (
      unasked_by_test c.args.name c.args.self.now (sym found ∙ c.if-any.false),
      record {
        field = record { name = c.args.name; path = path; of = c.args.of };
        named = refl;
        holds = refl;
        added = search rules;
      },
    )
