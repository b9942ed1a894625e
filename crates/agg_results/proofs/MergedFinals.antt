-- What stands for documents in any order is final alike.
use Rattle.std.proofs.Common.{◌≡◌, Bool, List, [], ◌++◌, append_assoc, sym, subst}
use Rattle.std.specs.List.Sorted.{IsPermutation}
use Rattle.std.proofs.lemmas.List.Sorted.{IsPermutation-append_comm, IsPermutation-refl}
use Rattle.agg_segment.specs.storage.Document.{Fields}
use Rattle.agg_request_tree.specs.Request.{Request}
use Rattle.agg_results.specs.intermediate_results.Final.{final_results}
use Rattle.agg_results.specs.intermediate_results.Intermediate.{Held}
use Rattle.agg_results.specs.intermediate_results.Merging.{AreMerged}
use Rattle.agg_results.specs.StandsFor.{StandsFor}
use Rattle.agg_results.proofs.FinalResults.{StandsFor-final}
use Rattle.agg_results.proofs.ListOrders.{IsReordering-from_permutation}
use Rattle.agg_results.proofs.ResultOrders.{AreResults-reordering}
use Rattle.agg_results.proofs.StandingResults.{StandsFor-joined}

module _ {B : Type 0} (is_match : B → Fields → Bool) (request : Request B) where
  -- what stands for the same documents, in any order, is final alike
  pub final-permutation : (documents others : List Fields) (held more : Held)
      → IsPermutation documents others
      → StandsFor is_match request documents held → StandsFor is_match request others more
      → final_results request held ≡ final_results request more
  final-permutation documents others held more moved a b =
      AreResults-reordering is_match request documents others (final_results request held)
      (final_results request more) (IsReordering-from_permutation documents others moved)
      (StandsFor-final is_match request documents held a)
      (StandsFor-final is_match request others more b)

  -- what stands for no documents is neutral
  pub final-neutral : (documents : List Fields) (none held whole : Held)
      → StandsFor is_match request [] none → StandsFor is_match request documents held
      → AreMerged none held whole
      → final_results request whole ≡ final_results request held
  final-neutral documents none held whole empty stand merged =
      final-permutation documents documents whole held (IsPermutation-refl documents)
      (StandsFor-joined is_match request [] documents none held empty stand whole merged) stand

  -- the two sides may be exchanged
  pub final-commutative : (documents others : List Fields) (held more whole turned : Held)
      → StandsFor is_match request documents held → StandsFor is_match request others more
      → AreMerged held more whole → AreMerged more held turned
      → final_results request turned ≡ final_results request whole
  final-commutative documents others held more whole turned a b merged back =
      final-permutation (others ++ documents) (documents ++ others) turned whole
      (IsPermutation-append_comm others documents)
      (StandsFor-joined is_match request others documents more held b a turned back)
      (StandsFor-joined is_match request documents others held more a b whole merged)

  -- of three, either two may be merged first
  pub final-associative : (documents others last : List Fields)
      (held more most first whole second turned : Held)
      → StandsFor is_match request documents held → StandsFor is_match request others more
      → StandsFor is_match request last most
      → AreMerged held more first → AreMerged first most whole
      → AreMerged more most second → AreMerged held second turned
      → final_results request turned ≡ final_results request whole
  final-associative documents others last held more most first whole second turned x y z
      held_more first_most more_most held_second =
      final-permutation ((documents ++ others) ++ last) ((documents ++ others) ++ last) turned whole
      (IsPermutation-refl ((documents ++ others) ++ last))
      (subst (λ ds. StandsFor is_match request ds turned)
      (sym (append_assoc documents others last))
      (StandsFor-joined is_match request documents (others ++ last) held second x
      (StandsFor-joined is_match request others last more most y z second more_most)
      turned held_second))
      (StandsFor-joined is_match request (documents ++ others) last first most
      (StandsFor-joined is_match request documents others held more x y first held_more)
      z whole first_most)
