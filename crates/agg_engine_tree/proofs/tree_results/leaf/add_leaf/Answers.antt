use Rattle.std.proofs.Common.{[], ap, ◌∙◌}
use Rattle.std.proofs.lemmas.Result.{on_ok_weaker}
use Rattle.agg_values.specs.Names.{put, value_of}
use Rattle.agg_results.specs.intermediate_results.Intermediate.{as_composite}
use Rattle.agg_engine_tree.proofs.lemmas.tree_results.LeafPages.{alone-stands, lowest-ascend}
use Rattle.agg_engine_tree.proofs.tree_results.leaf.add_leaf.Goals as goal

pub leaf_page-requires : goal.leaf_page-requires
leaf_page-requires c =
    let page = c.requires.page in
    record {
      encoded = page.3.encoded;
      ascending = lowest-ascend page.0 page.1 c.args.req.now page.2 c.args.entries page.3;
    }

pub put_result-requires : goal.put_result-requires
put_result-requires c = ap (value_of c.args.req.now.name) c.requires.empty

pub returns : goal.returns
returns c =
    let req = c.args.req.now in
    on_ok_weaker c.put_result.result (λ put_is segment after docs lowest a asked leaf.
    alone-stands segment after req docs c.args.entries lowest a asked leaf
    c.put_result.new.results.results
    (put_is ∙ ap (put req.name c.page_result.result) c.requires.empty
    ∙ ap (λ v. put req.name v []) (c.page_result.ensures
    ∙ ap as_composite c.in_ok-buckets.ensures))) c.put_result.ensures
