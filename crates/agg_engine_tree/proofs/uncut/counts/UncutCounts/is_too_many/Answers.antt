use Rattle.std.proofs.Common.{◌≤◌, ◌^◌, ◌↔◌, Any, IsTrue, sym, rules, subst}
use Rattle.agg_segment.specs.Query.{matches}
use Rattle.agg_request_tree.specs.Uncut.{uncut_lists_of}
use Rattle.agg_engine_tree.proofs.lemmas.uncut.JoinedBlocks.{long-lists}
use Rattle.agg_engine_tree.proofs.uncut.counts.UncutCounts.is_too_many.Goals as goal

pub returns-clause-documents : goal.returns-clause-documents
returns-clause-documents c request documents is =
    let limit : IsTrue c.any.result ↔ Any (λ count. 2 ^ 32 ≤ count) c.args.self.now =
    search rules in
    let lists = long-lists (uncut_lists_of matches request documents) in (
      λ many. lists.0 (subst (Any (λ count. 2 ^ 32 ≤ count)) is (limit.0 many)),
      λ some. limit.1 (subst (Any (λ count. 2 ^ 32 ≤ count)) (sym is) (lists.1 some)),
    )
