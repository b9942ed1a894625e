use Rattle.std.proofs.Common.{◌≡◌, [], ◌∷◌, ◌++◌, map, refl, ap, ◌∙◌, subst}
use Rattle.agg_request_tree.specs.Source.{rules_of}
use Rattle.agg_composite.specs.PageEntries.{page_entries}
use Rattle.agg_composite.proofs.BucketPages.{first-encoded, next-entries}
use Rattle.agg_results.specs.intermediate_results.Intermediate.{composite_of}
use Rattle.agg_engine_tree.specs.tree_results.Leaves.{leaf_entry}
use Rattle.agg_engine_tree.proofs.lemmas.tree_results.HeldLeaves.{leaves-below, leaves-more}
use Rattle.agg_engine_tree.proofs.lemmas.tree_results.YieldedItems.{all-yielded, next-split}
use Rattle.agg_engine_tree.proofs.lemmas.tree_results.YieldedItems.{next-yielded}
use Rattle.agg_engine_tree.proofs.tree_results.leaf.leaf_page.Goals as goal

pub loop-buckets-init : goal.loop-buckets-init
loop-buckets-init c = record {
  gone = [];
  split = refl;
  encoded = c.requires.encoded;
  holds = c.reserve.ensures ∙ c.in_ok-buckets.ensures;
}

pub add_last-requires : goal.add_last-requires
add_last-requires c =
    let req = c.args.req.now in
    let so_far = c.loop-buckets.invariant in
    let next = rw c.in-Some.is at c.in_ok-entry.ensures in
    leaves-below req.req.now.sources req.size so_far.gone c.loop-buckets.buckets so_far.holds
    (page_entries req c.args.entries) c.in-Some.entry (page_entries req c.next_entry.new.self)
    (next-split (page_entries req c.args.entries) so_far.gone
    (page_entries req c.loop-buckets.entries) so_far.split c.in-Some.entry
    (page_entries req c.next_entry.new.self)
    (next-entries req c.loop-buckets.entries c.next_entry.new.self c.in-Some.entry next))
    c.requires.ascending

pub loop-buckets-preserved : goal.loop-buckets-preserved
loop-buckets-preserved c =
    let req = c.args.req.now in
    let so_far = c.loop-buckets.invariant in
    let next = rw c.in-Some.is at c.in_ok-entry.ensures in
    record {
      gone = so_far.gone ++ c.in-Some.entry ∷ [];
      split = next-yielded (page_entries req c.args.entries) so_far.gone
          (page_entries req c.loop-buckets.entries) so_far.split c.in-Some.entry
          (page_entries req c.next_entry.new.self)
          (next-entries req c.loop-buckets.entries c.next_entry.new.self c.in-Some.entry next);
      encoded = (first-encoded req c.loop-buckets.entries c.next_entry.new.self next.bucket
          next.split so_far.encoded).1;
      holds = leaves-more req.req.now.sources req.size so_far.gone c.loop-buckets.buckets
          so_far.holds c.in-Some.entry c.new-below.result c.add_last.new.buckets c.new-below.ensures
          c.in_ok-add_last.ensures;
    }

pub returns : goal.returns
returns c =
    let req = c.args.req.now in
    let so_far = c.loop-buckets.invariant in
    let none = rw c.in_default.is at c.in_ok-entry.ensures in
    subst (λ page. c.loop-buckets.buckets
    ≡ composite_of (rules_of req.req.now.sources) req.size (map leaf_entry page))
    (all-yielded (page_entries req c.args.entries) so_far.gone
    (page_entries req c.loop-buckets.entries) so_far.split (ap (page_entries req) none.0))
    so_far.holds
