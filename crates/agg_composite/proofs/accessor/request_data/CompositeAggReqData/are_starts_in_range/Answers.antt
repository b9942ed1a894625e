use Rattle.std.proofs.Common.{List, Bool, true, false, length, refl, sym, ap, ◌∙◌, subst}
use Rattle.std.proofs.lemmas.Slice.Zip.{AllZip-long}
use Rattle.std.specs.Prelude.{◌↔◌, IsTrue, MatchBool}
use Rattle.agg_request_tree.specs.Source.{Sources, after_of}
use Rattle.agg_composite.specs.accessor.Accessors.{AllFit, AreAccessorsOf}
use Rattle.agg_composite.specs.accessor.Ranges.{AreAllInRange}
use Rattle.agg_composite.specs.declared.accessor.accessor.CompositeSourceAccessors.{
  CompositeSourceAccessors,
}
use Rattle.agg_composite.proofs.accessor.request_data.CompositeAggReqData.are_starts_in_range.Goals
    as goal

-- a test that tells a fact
told : (b : Bool) (fact : Type 0) → (IsTrue b ↔ fact) → MatchBool b fact (¬ fact)
told true fact is = is.0 refl
told false fact is = λ holds. absurd (cc (is.1 holds))

pub are_sources_in_range-requires : goal.are_sources_in_range-requires
are_sources_in_range-requires c =
    let req = c.args.self.now in
    let fits = c.requires in
    ap length c.as_slice-sources.ensures
    ∙ sym (AllZip-long (λ source a. AreAccessorsOf fits.0 source (after_of fits.1 source) a)
    req.req.now.sources req.composite_accessors fits.2)
    ∙ ap length (sym c.as_slice.ensures)

pub returns : goal.returns
returns c = λ segment after fit.
    let req = c.args.self.now in
    let docs = c.args.docs.now in
    let result = c.are_sources_in_range.result in
    told result (AreAllInRange segment req.req.now.sources docs)
    (subst (λ (p : Sources × List CompositeSourceAccessors). AllFit segment after p.0 p.1
    → IsTrue result ↔ AreAllInRange segment p.0 docs)
    (λ x. (c.as_slice-sources.ensures x, c.as_slice.ensures x))
    (c.are_sources_in_range.ensures segment after) fit)
