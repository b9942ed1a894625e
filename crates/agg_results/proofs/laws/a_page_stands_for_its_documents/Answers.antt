use Rattle.agg_results.proofs.StandingGroups.{above-page, stands-lowest, stands-page}
use Rattle.agg_results.proofs.laws.a_page_stands_for_its_documents.Goals as goal

pub returns-clause-page : goal.returns-clause-page
returns-clause-page c = stands-page

pub returns-clause-groups : goal.returns-clause-groups
returns-clause-groups c = stands-lowest

pub returns-clause-above : goal.returns-clause-above
returns-clause-above c = above-page
