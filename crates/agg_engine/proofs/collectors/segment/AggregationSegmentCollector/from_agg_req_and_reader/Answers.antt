use Rattle.std.proofs.Common.{[], false, inr, length, refl, sym, ap, ◌∙◌, subst, arith}
use Rattle.agg_values.proofs.KeyTexts.{passed_on}
use Rattle.agg_cache.specs.Limits.{charged}
use Rattle.agg_segment.specs.Segment.{documents_of}
use Rattle.agg_request_tree.specs.Request.{with_builders}
use Rattle.agg_engine_tree.specs.segment_context.Pages.{paged}
use Rattle.agg_engine_tree.specs.segment_context.SetupError.{error_from_request}
use Rattle.agg_engine.specs.snapshot_results.ChargeErrors.{setup_error}
use Rattle.agg_engine.specs.snapshot_results.ChargedTrees.{IsFixedCause}
use Rattle.agg_engine.proofs.lemmas.snapshot_results.AskedNames.{names-asked}
use Rattle.agg_engine.specs.collectors.Segment.{IsSetupCause}
use Rattle.agg_engine.proofs.lemmas.collectors.FixedCharges.{fixed-paged}
use Rattle.agg_engine.proofs.lemmas.collectors.MemoryCauses.{cause-fault, cause-fixed}
use Rattle.agg_engine.proofs.lemmas.collectors.NewCollectors.{collector-new}
use Rattle.agg_engine.proofs.collectors as proofs
use proofs.segment.AggregationSegmentCollector.from_agg_req_and_reader.Goals as goal

pub uncut_lengths-requires-clause-context : goal.uncut_lengths-requires-clause-context
uncut_lengths-requires-clause-context g c =
    let is = c.in_ok-aggregations.ensures.ok c.requires.trees.0 c.requires.trees.1 in
    (is.0, _, is.1, is.2)

pub returns-clause-ok : goal.returns-clause-ok
returns-clause-ok g c = λ made trees.
    let page = c.args.context.now.page in
    let request = paged page (with_builders made c.args.agg.now) in
    let is = c.in_ok-aggregations.ensures.ok made trees in
    collector-new request (record {
      alloc = c.args.alloc;
      reader = c.args.reader;
      aggregations = c.in_ok-aggregations.aggregations;
      tree = c.in_ok-tree.tree;
      counts = c.new-counts.result;
      has_failed = false;
      num_docs = c.num_docs.result;
    }) is.0 is.1 is.2
    (record {
      nodes = c.in_ok-tree.ensures.nodes;
      fits = c.in_ok-tree.ensures.fits;
      right = c.in_ok-tree.ensures.right;
    })
    c.in_ok-tree.ensures.exact (c.in_ok-tree.ensures.fixed is.0 request is.1 is.2)
    (names-asked page made c.args.agg.now c.in_ok-check_paged.ensures.names)
    c.num_docs.ensures.numbers
    (c.new-counts.ensures ∙ c.in_ok-uncut_lengths.ensures is.0 request is.1 is.2) refl

pub returns-in_err-check_paged-clause-cause : goal.returns-in_err-check_paged-clause-cause
returns-in_err-check_paged-clause-cause g c =
    let request = paged c.args.context.now.page c.args.agg.now in
    let documents = length (documents_of c.args.reader.now) in
    passed_on c.from_residual.result (error_from_request c.in_err-check_paged.field-0.0)
    (IsSetupCause request documents c.args.limits.now) c.from_residual.ensures.1
    (cause-fault request documents c.args.limits.now c.in_err-check_paged.field-0.0
    c.in_err-check_paged.ensures.err)

pub new-requires : goal.new-requires
new-requires g c =
    let is = c.in_ok-aggregations.ensures.ok c.requires.trees.0 c.requires.trees.1 in
    (is.0, _, is.1, is.2)

pub returns-in_err-tree-clause-cause : goal.returns-in_err-tree-clause-cause
returns-in_err-tree-clause-cause g c =
    let page = c.args.context.now.page in
    let request = paged page c.args.agg.now in
    let documents = length (documents_of c.args.reader.now) in
    let is = c.in_ok-aggregations.ensures.ok c.requires.trees.0 c.requires.trees.1 in
    passed_on c.from_residual-in_err-tree.result (setup_error c.in_err-tree.field-0.0)
    (IsSetupCause request documents c.args.limits.now) c.from_residual-in_err-tree.ensures.1
    (cause-fixed request documents c.args.limits.now c.in_ok-check_paged.ensures.ok
    c.in_err-tree.field-0.0
    (subst (λ fixed. IsFixedCause fixed c.args.limits.now c.in_err-tree.field-0.0)
    (fixed-paged c.requires.trees.0 documents page c.args.agg.now)
    (c.in_err-tree.ensures.cause is.0 _ is.1 is.2)))

pub returns-clause-guard : goal.returns-clause-guard
returns-clause-guard g c =
    let is = c.in_ok-aggregations.ensures.ok c.requires.trees.0 c.requires.trees.1 in
    c.in_ok-tree.ensures.guard ∙ c.in_ok-tree.ensures.fixed is.0 _ is.1 is.2
    ∙ fixed-paged c.requires.trees.0 (length (documents_of c.args.reader.now))
    c.args.context.now.page c.args.agg.now

pub returns-clause-ledger : goal.returns-clause-ledger
returns-clause-ledger g c =
    c.in_ok-tree.ensures.ledger
    ∙ ap (λ bytes. charged bytes c.args.limits.now)
    (sym c.in_ok-tree.ensures.guard ∙ returns-clause-guard g c)

pub returns-clause-within : goal.returns-clause-within
returns-clause-within g c =
    let ledger = returns-clause-ledger g c in
    omega (
      arith,
      ap (λ limits. limits.in_use) ledger,
      ap (λ limits. limits.memory_limit) ledger,
      c.in_ok-tree.ensures.within,
    )

pub returns-clause-usable : goal.returns-clause-usable
returns-clause-usable g c =
    let trees = c.requires.trees in
    let page = c.args.context.now.page in
    let right = returns-clause-ok g c trees.0 trees.1 in
    inr (paged page (with_builders trees.0 c.args.agg.now), c.args.reader.now, [], 0, right.right)
