use Rattle.peslumok_records.specs.held.Held.{held_documents}
use Rattle.peslumok_front.specs.front.Files.{AreDocumentsOfFiles}
use Rattle.peslumok_front.proofs.front.files.records_of.Given as goal

-- the documents so far are those of the files so far
abbrev pub invariant-loop-file : goal.invariant-loop-file
invariant-loop-file l =
    (goal.iterator-loop-file).can_next l.file-iterator
    × (goal.iterator-loop-file).is_finite l.file-iterator
    × AreDocumentsOfFiles l.asked l.yielded (held_documents l.records)
