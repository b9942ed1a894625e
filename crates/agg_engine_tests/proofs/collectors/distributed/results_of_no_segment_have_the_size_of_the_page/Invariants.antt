use Rattle.agg_engine_tests.proofs.collectors.distributed as distributed
use distributed.results_of_no_segment_have_the_size_of_the_page.Given as goal

-- the ledger is the one of the blank
abbrev pub ghosts-expect_page : goal.ghosts-expect_page
ghosts-expect_page g a = record { name = a.blank.name; parts = a.blank.parts }
