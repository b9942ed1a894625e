use Rattle.std.proofs.Common.{◌≡◌, ◌≢◌, ◌∙◌, ap, subst, length, not, ◌&&◌, rules}
use Rattle.agg_segment.specs.storage.Document.{Fields}
use Rattle.agg_segment.specs.Marks.{AreMarks}
use Rattle.agg_segment.specs.Query.{all_match, matches, some_matches}
use Rattle.agg_segment.proofs.Marks.{without}
use Rattle.agg_segment.proofs.Queries.{matches-should, matches-must}
use Rattle.agg_segment.proofs.query.matches.+marks.Goals as goal

pub tree_marks-returns-then-is_empty : goal.tree_marks-returns-then-is_empty
tree_marks-returns-then-is_empty t c =
    let query = c.in-Boolean in
    let none : length query.must ≡ 0 = search rules in
    let same : (document : Fields)
    → matches c.args.tree.now document ≡ (some_matches matches query.should document && not
    (some_matches matches query.must_not document)) =
    λ document. ap (λ tree. matches tree document) query.is ∙ matches-should query.must query.should
    query.must_not document none in
    let wanted = c.in_ok-marks-in-Boolean in
    let marks : AreMarks (some_matches matches query.should) c.args.segment.now wanted.marks.items =
    subst (λ trees. AreMarks (some_matches matches trees) c.args.segment.now wanted.marks.items)
    c.as_slice-then-is_empty.ensures wanted.ensures in
    without (some_matches matches query.should) (matches c.args.tree.now) c.args.segment.now
    wanted.marks.items c.as_slice-then-is_empty-2.result.now query.must_not
    c.unmatched_marks.result same
    c.as_slice-then-is_empty-2.ensures marks c.unmatched_marks.ensures

pub tree_marks-returns-in_ok-marks-in-Boolean-2 : goal.tree_marks-returns-in_ok-marks-in-Boolean-2
tree_marks-returns-in_ok-marks-in-Boolean-2 t c =
    let query = c.in-Boolean in
    let some : length query.must ≢ 0 = search rules in
    let same : (document : Fields)
    → matches c.args.tree.now document ≡ (all_match matches query.must document && not
    (some_matches matches query.must_not document)) =
    λ document. ap (λ tree. matches tree document) query.is ∙ matches-must query.must query.should
    query.must_not document some in
    let wanted = c.in_ok-marks-in-Boolean-2 in
    let marks : AreMarks (all_match matches query.must) c.args.segment.now wanted.marks.items =
    subst (λ trees. AreMarks (all_match matches trees) c.args.segment.now wanted.marks.items)
    c.as_slice-in-Boolean.ensures wanted.ensures in
    without (all_match matches query.must) (matches c.args.tree.now) c.args.segment.now
    wanted.marks.items c.as_slice-in-Boolean-2.result.now query.must_not
    c.unmatched_marks-in-Boolean.result same
    c.as_slice-in-Boolean-2.ensures marks c.unmatched_marks-in-Boolean.ensures
