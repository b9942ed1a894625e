use Rattle.std.proofs.Common.{◌≡◌, ◌≤◌, ◌+◌, arith, length, take, drop, ℕ, List, ◌++◌, sym, ap}
use Rattle.std.proofs.Common.{◌∙◌, min, rules, drop-drop, drop_of_length-le, length-take-le}
use Rattle.std.proofs.Common.{take_at, take-append-drop, length-append, length-drop}
use Rattle.std.proofs.lemmas.List.{take_rest}
use Rattle.agg_streams.proofs.source.steady.SteadySourceSource.read.Goals as goal

-- the prefix that is copied, and then the rest
split-prefix : (left given tail : List ℕ) (n : ℕ) → n ≤ length left → given ≡ take n left
    → left ≡ take n (given ++ tail) ++ drop n left
split-prefix left given tail n fits copied =
    let size = ap length copied ∙ length-take-le n left fits in
    let prefix : take n (given ++ tail) ≡ take n left = take_at given tail n size ∙ copied in
    sym (take-append-drop n left) ∙ ap (λ l. l ++ drop n left) (sym prefix)

pub returns-clause-bytes : goal.returns-clause-bytes
returns-clause-bytes c =
    let count = c.min-count.result in
    let items = c.self.inside.bytes.items in
    let at = c.self.inside.at in
    let buf = c.args.buf.now in
    let left = drop at items in
    let given = c.copy_from_slice.new.self in
    let whole = take_rest c.deref.result.now at ∙ ap (drop at) c.deref.ensures.value in
    let size : count ≡ min (length left) (length buf) = c.min-count.ensures
    ∙ ap (λ l. min (length l) (length buf)) whole in
    let fits : count ≤ length left = omega (arith, size) in
    let copied : given ≡ take count left = c.copy_from_slice.ensures.after
    ∙ ap (take count) whole in
    let rest : drop (at + count) items ≡ drop count left = sym (drop-drop count at items) in
    let same : c.args.self.now ≡ left = search rules in (
      same ∙ split-prefix left given (drop count buf) count fits copied
          ∙ ap (λ l. take count (given ++ drop count buf) ++ l) (sym rest),
      λ zero room. rest
          ∙ drop_of_length-le left (omega (
            arith,
            size,
            c.copy_from_slice.ensures.len,
            length-append
                given (drop count buf),
            length-drop count buf,
            length-take-le count buf
                (omega (arith, size)),
          )),
    )
