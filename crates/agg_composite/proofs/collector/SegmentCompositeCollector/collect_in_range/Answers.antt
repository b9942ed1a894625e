use Rattle.std.proofs.Common.{◌++◌, Ok, Err, length, sym, ap, ◌∙◌, refl, subst}
use Rattle.std.proofs.lemmas.Slice.Zip.{AllZip-long}
use Rattle.agg_cache.specs.Waiting.{docs_of, is_id}
use Rattle.agg_request_tree.specs.Source.{after_of}
use Rattle.agg_composite.specs.accessor.Accessors.{AreAccessorsOf}
use Rattle.agg_composite.specs.accessor.Encoding.{encoded_tuple_order}
use Rattle.agg_composite.specs.buckets.Node.{TooManyVisits}
use Rattle.agg_composite.specs.declared.buckets.visit_error.VisitError.TheVariants.{OutOfMemory}
use Rattle.agg_composite.specs.HeldTuples.{AreTuplesOf}
use Rattle.agg_composite.specs.TupleBuckets.{node_of}
use Rattle.agg_composite.specs.Visits.{visits_past}
use Rattle.agg_composite.proofs.CollectorAnswers.{collector-takes, too_many-visits, walked-begun}
use Rattle.agg_composite.proofs.lemmas.accessor.SegmentRanges.{range-everywhere}
use Rattle.agg_composite.proofs.VisitsInRow.{passed-on}
use Rattle.agg_composite.proofs.collector.SegmentCompositeCollector.collect_in_range.Goals as goal

pub visit_documents-requires-clause-accessors : goal.visit_documents-requires-clause-accessors
visit_documents-requires-clause-accessors g c =
    let req = c.args.req.now in
    let fits = c.requires.in_range in
    sym (AllZip-long (λ source a. AreAccessorsOf fits.0 source (after_of fits.1 source) a)
    req.req.now.sources req.composite_accessors fits.2)

pub returns-in_err-visit_documents-clause-visits : goal.returns-in_err-visit_documents-clause-visits
returns-in_err-visit_documents-clause-visits g c = rw (← c.self.view_is) (λ segment after fit.
    let req = c.args.req.now in
    let docs = c.args.docs.now in
    let typed = visits_past req.req.now.sources segment after c.args.parent_bucket_id docs in
    let range = range-everywhere req docs c.requires.in_range segment after fit in
    let old = node_of c.self.inside.buckets in
    let error = c.in_err-visit_documents.field-0.0 in
    let walked = walked-begun req docs old c.args.parent_bucket_id
    (node_of c.begin_parent.new.self) (node_of c.visit_documents.new.self) c.args.steps.now
    c.visit_documents.new.steps (Err error) c.begin_parent.ensures.node
    c.in_err-visit_documents.ensures.answers segment after fit range typed refl in
    passed-on _ (TooManyVisits encoded_tuple_order (length typed) old) (length typed)
    c.args.steps.now c.visit_documents.new.steps error c.from_residual.result walked.too_many
    walked.later walked.most c.from_residual.ensures.1)

pub returns-in_err-visit_documents-clause-many : goal.returns-in_err-visit_documents-clause-many
returns-in_err-visit_documents-clause-many g c = λ segment after fit.
    let req = c.args.req.now in
    too_many-visits g.C.SubAggCache.waiting req
    (visits_past req.req.now.sources segment after c.args.parent_bucket_id c.args.docs.now)
    c.args.self.now _ c.args.steps.now _ _
    (returns-in_err-visit_documents-clause-visits g c segment after fit)

pub returns-in_err-push_all-clause-visits : goal.returns-in_err-push_all-clause-visits
returns-in_err-push_all-clause-visits g c = rw (← c.self.view_is) (λ segment after fit.
    let req = c.args.req.now in
    let docs = c.args.docs.now in
    let typed = visits_past req.req.now.sources segment after c.args.parent_bucket_id docs in
    let range = range-everywhere req docs c.requires.in_range segment after fit in
    let old = node_of c.self.inside.buckets in
    let walked = walked-begun req docs old c.args.parent_bucket_id
    (node_of c.begin_parent.new.self) (node_of c.visit_documents.new.self) c.args.steps.now
    c.visit_documents.new.steps (Ok tt) c.begin_parent.ensures.node
    c.in_ok-visit_documents.ensures.answers segment after fit range typed refl in
    passed-on _ (TooManyVisits encoded_tuple_order (length typed) old) (length typed)
    c.args.steps.now c.visit_documents.new.steps OutOfMemory
    c.from_residual-in_err-push_all.result (λ e. absurd (cc e)) walked.later walked.most
    c.from_residual-in_err-push_all.ensures.1)

pub returns-in_err-push_all-clause-many : goal.returns-in_err-push_all-clause-many
returns-in_err-push_all-clause-many g c = λ segment after fit.
    let req = c.args.req.now in
    too_many-visits g.C.SubAggCache.waiting req
    (visits_past req.req.now.sources segment after c.args.parent_bucket_id c.args.docs.now)
    c.args.self.now _ c.args.steps.now _ _
    (returns-in_err-push_all-clause-visits g c segment after fit)

pub returns-in_ok-push_all-clause-visits : goal.returns-in_ok-push_all-clause-visits
returns-in_ok-push_all-clause-visits g c = rw (← c.self.view_is) (λ segment after fit.
    let req = c.args.req.now in
    let docs = c.args.docs.now in
    let typed = visits_past req.req.now.sources segment after c.args.parent_bucket_id docs in
    let range = range-everywhere req docs c.requires.in_range segment after fit in
    let walked = walked-begun req docs (node_of c.self.inside.buckets)
    c.args.parent_bucket_id (node_of c.begin_parent.new.self) (node_of c.visit_documents.new.self)
    c.args.steps.now c.visit_documents.new.steps (Ok tt) c.begin_parent.ensures.node
    c.in_ok-visit_documents.ensures.answers segment after fit range typed refl in
    record {
      ok = collector-takes g.C.SubAggCache.waiting req c.args.parent_bucket_id typed _ _
          walked.ok (c.in_ok-visit_documents.ensures.room ∙ c.begin_parent.ensures.room)
          refl
          (λ hands id. c.in_ok-push_all.ensures id
          ∙ ap (λ ps. g.C.SubAggCache.waiting c.self.inside.cache.0 id ++ docs_of (is_id id) ps)
          c.pushes.ensures)
          (λ none. absurd (cc (sym c.if-self.true ∙ none)));
      least = walked.least;
      too_many = λ e. absurd (cc e);
      later = walked.later;
      most = walked.most;
    })

pub returns-else-self-clause-visits : goal.returns-else-self-clause-visits
returns-else-self-clause-visits g c = rw (← c.self.view_is) (λ segment after fit.
    let req = c.args.req.now in
    let docs = c.args.docs.now in
    let typed = visits_past req.req.now.sources segment after c.args.parent_bucket_id docs in
    let range = range-everywhere req docs c.requires.in_range segment after fit in
    let walked = walked-begun req docs (node_of c.self.inside.buckets)
    c.args.parent_bucket_id (node_of c.begin_parent.new.self) (node_of c.visit_documents.new.self)
    c.args.steps.now c.visit_documents.new.steps (Ok tt) c.begin_parent.ensures.node
    c.in_ok-visit_documents.ensures.answers segment after fit range typed refl in
    record {
      ok = collector-takes g.C.SubAggCache.waiting req c.args.parent_bucket_id typed _ _
          walked.ok (c.in_ok-visit_documents.ensures.room ∙ c.begin_parent.ensures.room)
          refl
          (λ hands id. absurd (cc (sym c.if-self.false ∙ hands)))
          (λ none. refl);
      least = walked.least;
      too_many = λ e. absurd (cc e);
      later = walked.later;
      most = walked.most;
    })

pub returns-in_err-visit_documents-clause-tuples : goal.returns-in_err-visit_documents-clause-tuples
returns-in_err-visit_documents-clause-tuples g c = rw (← c.self.view_is) (λ held.
    let found = c.requires.in_range in
    c.visit_documents.ensures.held found.0 found.1 found.2 found.3
    (subst (AreTuplesOf c.args.req.now) (sym c.begin_parent.ensures.node) held))

pub returns-in_err-push_all-clause-tuples : goal.returns-in_err-push_all-clause-tuples
returns-in_err-push_all-clause-tuples g c = rw (← c.self.view_is) (λ held.
    let found = c.requires.in_range in
    c.visit_documents.ensures.held found.0 found.1 found.2 found.3
    (subst (AreTuplesOf c.args.req.now) (sym c.begin_parent.ensures.node) held))

pub returns-in_ok-push_all-clause-tuples : goal.returns-in_ok-push_all-clause-tuples
returns-in_ok-push_all-clause-tuples g c = rw (← c.self.view_is) (λ held.
    let found = c.requires.in_range in
    c.visit_documents.ensures.held found.0 found.1 found.2 found.3
    (subst (AreTuplesOf c.args.req.now) (sym c.begin_parent.ensures.node) held))

pub returns-else-self-clause-tuples : goal.returns-else-self-clause-tuples
returns-else-self-clause-tuples g c = rw (← c.self.view_is) (λ held.
    let found = c.requires.in_range in
    c.visit_documents.ensures.held found.0 found.1 found.2 found.3
    (subst (AreTuplesOf c.args.req.now) (sym c.begin_parent.ensures.node) held))
