-- Runs of numbers, and the numbers with their kinds.
use Rattle.std.proofs.Common.{◌≡◌, ◌+◌, ◌≤◌, ◌<◌, ℕ, zero, suc, List, [], ◌∷◌, ◌++◌, length, get_or}
use Rattle.std.proofs.Common.{set, take, drop, map, refl, sym, ap, ◌∙◌, arith, length-append}
use Rattle.std.specs.Prelude.{replicate}
use Rattle.std.specs.List.{Contains, zip}
use Rattle.std.proofs.lemmas.List.{append-nil, append_assoc, replicate_more, length-replicate}
use Rattle.std.proofs.lemmas.List.Elements.{All-contains, All-replicate}
use Rattle.agg_segment.specs.storage.Runs.{kinds, noted}
use Rattle.agg_segment.specs.declared.storage.run.Run.{Run}
use Rattle.agg_segment.specs.declared.storage.run.RunKind.{RunKind}
use Rattle.agg_segment.proofs.lemmas.storage.Members.{first_of}

-- ---- copies of one item

pub in_copies : {X : Type 0} (n : ℕ) (x : X) → 0 < n → Contains (replicate n x) x
in_copies zero x some = absurd (omega (arith, some))
in_copies (suc n) x some = first_of x (replicate n x)

pub from_copies : {X : Type 0} (n : ℕ) (x y : X) → Contains (replicate n x) y → y ≡ x
from_copies {X} n x y has =
    All-contains (λ (z : X). z ≡ x) (replicate n x) y (All-replicate (λ
    (z : X). z ≡ x) n x refl) has

zip_copies : {X Y : Type 0} (n : ℕ) (x : X) (xs : List X) (ys : List Y) → n ≤ length ys
    → zip (replicate n x ++ xs) ys ≡ map {B = X × Y} (λ y. (x, y)) (take n ys) ++ zip xs (drop n ys)
zip_copies zero x xs ys l = refl
zip_copies (suc n) x xs [] l = absurd (omega (arith, l))
zip_copies (suc n) x xs (y ∷ ys) l = ap (λ r. (x, y) ∷ r) (zip_copies n x xs ys (omega (arith, l)))

-- ---- runs

-- the last run has one number more
pub kinds_counted : (runs : List Run) (place : ℕ) (run other : Run) (kind : RunKind)
    → place + 1 ≡ length runs → run.kind ≡ kind → (get_or runs place other).kind ≡ kind
    → run.count ≡ (get_or runs place other).count + 1
    → kinds (set runs place run) ≡ kinds runs ++ kind ∷ []
kinds_counted [] place run other kind last same was more = absurd (omega (arith, last))
kinds_counted (r ∷ []) zero run other kind last same was more =
    append-nil (replicate run.count run.kind)
    ∙ ap (λ k. replicate run.count k) same ∙ ap (λ n. replicate n kind) more
    ∙ sym (replicate_more r.count kind)
    ∙ ap (λ k. replicate r.count k ++ kind ∷ []) (sym was)
    ∙ ap (λ ks. ks ++ kind ∷ []) (sym (append-nil (replicate r.count r.kind)))
kinds_counted (r ∷ s ∷ runs) zero run other kind last same was more = absurd (omega (arith, last))
kinds_counted (r ∷ runs) (suc n) run other kind last same was more =
    ap (λ ks. replicate r.count r.kind ++ ks)
    (kinds_counted runs n run other kind (omega (arith, last)) same was more)
    ∙ sym (append_assoc (replicate r.count r.kind) (kinds runs) (kind ∷ []))

-- the numbers of the first run, and then those of the others
pub noted_first : (run : Run) (runs : List Run) (numbers : List ℕ) → run.count ≤ length numbers
    → noted (run ∷ runs) numbers
    ≡ map {B = RunKind × ℕ} (λ n. (run.kind, n)) (take run.count numbers)
    ++ noted runs (drop run.count numbers)
noted_first run runs numbers l = zip_copies run.count run.kind (kinds runs) numbers l

-- the first run is no longer than all runs
pub kinds_first : (run : Run) (runs : List Run)
    → length (kinds (run ∷ runs)) ≡ run.count + length (kinds runs)
kinds_first run runs = length-append (replicate run.count run.kind) (kinds runs)
    ∙ ap (λ n. n + length (kinds runs)) (length-replicate run.count run.kind)
