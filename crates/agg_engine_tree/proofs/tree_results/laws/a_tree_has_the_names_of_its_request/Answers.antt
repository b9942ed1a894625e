use Rattle.agg_engine_tree.proofs.lemmas.tree_results.ApartNames.{apart-group, names-group}
use Rattle.agg_engine_tree.proofs.tree_results.laws.a_tree_has_the_names_of_its_request.Goals
    as goal

pub returns-clause-names : goal.returns-clause-names
returns-clause-names c = λ meaning ctx request plans h asked group.
    names-group meaning ctx h request plans asked group

pub returns-clause-apart : goal.returns-clause-apart
returns-clause-apart c = λ meaning ctx request plans h asked group up.
    apart-group meaning ctx h request plans asked group up
