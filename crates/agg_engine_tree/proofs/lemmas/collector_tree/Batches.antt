-- The pairs of batches, one batch after another.
use Rattle.std.proofs.Common.{◌≡◌, ◌<◌, ◌+◌, ℕ, List, [], ◌∷◌, ◌++◌, get_or, length, map, take}
use Rattle.std.proofs.Common.{drop}
use Rattle.std.proofs.Common.{sym, ap, ◌∙◌, append-nil, subst}
use Rattle.std.specs.List.{All}
use Rattle.std.proofs.lemmas.List.{drop_more, take-append-drop, take_more}
use Rattle.std.proofs.lemmas.List.Concat.{flat_map-append}
use Rattle.std.proofs.lemmas.List.Elements.{All-cons, All-nil}
use Rattle.agg_request_tree.proofs.Lists.{All-from_map}
use Rattle.agg_cache.specs.Waiting.{pairs_of, under}
use Rattle.agg_cache.specs.declared.cache.Batch.{Batch}

pub pairs_of-append : (xs ys : List Batch) → pairs_of (xs ++ ys) ≡ pairs_of xs ++ pairs_of ys
pairs_of-append xs ys = flat_map-append (λ x. under x.bucket_id x.docs) xs ys

-- one more
pub pairs_of-more : (bs : List Batch) (i : ℕ) (b : Batch) → i < length bs → b ≡ get_or bs i b
    → pairs_of (take i bs) ++ under b.bucket_id b.docs ≡ pairs_of (take (i + 1) bs)
pairs_of-more bs i b l at =
    ap (λ ps. pairs_of (take i bs) ++ ps) (sym (append-nil (under b.bucket_id b.docs)))
    ∙ sym (pairs_of-append (take i bs) (b ∷ []))
    ∙ ap (λ (x : Batch). pairs_of (take i bs ++ x ∷ [])) at
    ∙ ap pairs_of (sym (take_more bs i b l))

split_at : {X : Type 0} (xs : List X) (i : ℕ) (d : X) → i < length xs
    → xs ≡ take i xs ++ get_or xs i d ∷ drop (i + 1) xs
split_at xs i d l = sym (take-append-drop i xs) ∙ ap (λ ys. take i xs ++ ys) (drop_more xs i d l)

-- one in the midst of others
pub pairs_of-split : (bs : List Batch) (i : ℕ) (b : Batch) → i < length bs → b ≡ get_or bs i b
    → pairs_of bs
    ≡ pairs_of (take i bs) ++ (under b.bucket_id b.docs ++ pairs_of (drop (i + 1) bs))
pairs_of-split bs i b l at =
    ap pairs_of (split_at bs i b l)
    ∙ pairs_of-append (take i bs) (get_or bs i b ∷ drop (i + 1) bs)
    ∙ ap (λ (x : Batch). pairs_of (take i bs)
    ++ (under x.bucket_id x.docs ++ pairs_of (drop (i + 1) bs))) (sym at)

-- what is so of the buckets of all is so of that of one
pub bucket_of : (P : ℕ → Type 0) (bs : List Batch) (i : ℕ) (b : Batch) → i < length bs
    → b ≡ get_or bs i b → All P (map (λ batch. batch.bucket_id) bs) → All P (b.bucket_id ∷ [])
bucket_of P bs i b l at all =
    All-cons P b.bucket_id []
    (subst (λ (x : Batch). P x.bucket_id) (sym at)
    (All-from_map P (λ batch. batch.bucket_id) bs all i b l)) (All-nil P)
