-- What comes after a front of ascending counts.
use Rattle.std.proofs.Common.{◌≡◌, ℕ, ◌+◌, List, take, drop, sym, ap, ◌∙◌, arith, Ordering, Less}
use Rattle.std.specs.List.{All}
use Rattle.std.specs.List.Sorted.{IsStrictlySortedBy}
use Rattle.std.specs.Map.{keys_of}
use Rattle.std.proofs.lemmas.List.{get_or-drop, get_or-map, get_or-take, length-drop, length-map}
use Rattle.std.proofs.lemmas.List.{length-take}
use Rattle.std.proofs.lemmas.Map.Keys.{Less-from_sorted}

-- it is above the front
pub above-front : {K : Type 0} (R : K → K → Ordering) (n : ℕ) (es : List (K × ℕ))
    → IsStrictlySortedBy R (keys_of es)
    → All (λ f. All (λ e. R e.0 f.0 ≡ Less) (take n es)) (drop n es)
above-front {K} R n es up j d behind i c before =
    let ends = length-drop n es in
    let fronts = length-take n es in
    let keys = length-map es (λ (e : K × ℕ). e.0) in
    let first = ap (λ e. e.0) (get_or-take n es i c (omega arith))
    ∙ sym (get_or-map (λ e. e.0) es i c c.0 (omega arith)) in
    let second = ap (λ e. e.0) (get_or-drop n es j d)
    ∙ sym (get_or-map (λ e. e.0) es (n + j) d c.0 (omega arith)) in
    (λ k. R (first k) (second k))
    ∙ Less-from_sorted R (keys_of es) i (n + j) c.0 up (omega arith) (omega arith)
