-- Two lists of one length as pairs: those before an index, the one there, and those after it.
use Rattle.std.proofs.Common.{◌≡◌, ◌<◌, ◌+◌, ◌++◌, ℕ, List, [], ◌∷◌, get_or, length}
use Rattle.std.proofs.Common.{take, drop, zip, sym, ap, ◌∙◌, arith}
use Rattle.std.specs.List.{All}
use Rattle.std.proofs.lemmas.List.{append_assoc, take-append-drop, take_more}
use Rattle.std.proofs.lemmas.List.Elements.{All-cons, All-contains, All-nil}
use Rattle.std.proofs.lemmas.Slice.Zip.{get_or-zip, length-zip}
use Rattle.agg_cache.specs.Waiting.{under}

module _ (ids docs : List ℕ) (same : length ids ≡ length docs) (i id doc : ℕ)
    (inside : i < length ids) (id_is : id ≡ get_or ids i id) (doc_is : doc ≡ get_or docs i doc)
  where
    pair-is : get_or (zip ids docs) i (id, doc) ≡ (id, doc)
    pair-is =
        get_or-zip ids docs i (id, doc) inside (omega (arith, inside, same))
        ∙ ap (λ x. (x, get_or docs i doc)) (sym id_is) ∙ ap (λ x. (id, x)) (sym doc_is)

    -- one more
    pub next-zipped : take (i + 1) (zip ids docs) ≡ take i (zip ids docs) ++ under id (doc ∷ [])
    next-zipped =
        take_more (zip ids docs) i (id, doc) (omega (arith, inside, same, length-zip ids docs))
        ∙ ap (λ pair. take i (zip ids docs) ++ pair ∷ []) pair-is

    -- all of them
    pub split-zipped : take i (zip ids docs) ++ (under id (doc ∷ []) ++ drop (i + 1) (zip ids docs))
        ≡ zip ids docs
    split-zipped =
        sym (append_assoc (take i (zip ids docs)) (under id (doc ∷ []))
        (drop (i + 1) (zip ids docs)))
        ∙ ap (λ pairs. pairs ++ drop (i + 1) (zip ids docs)) (sym next-zipped)
        ∙ take-append-drop (i + 1) (zip ids docs)

    -- what is so of all in the first list is so of that of the pair
    pub first-of : (P : ℕ → Type 0) → All P ids → All P (id ∷ [])
    first-of P all =
        All-cons P id [] (All-contains P ids id all (i, inside, sym id_is)) (All-nil P)
