use Rattle.std.proofs.Common.{◌≡◌, ℕ, ◌-◌, List, ◌++◌, arith, take, drop, length, sym, ap, ◌∙◌}
use Rattle.std.proofs.Common.{subst, append_assoc, take-append-drop}
use Rattle.std.proofs.lemmas.List.{take_rest}
use Rattle.std.proofs.lemmas.Result.{err_from_is_err_and}
use Rattle.std.proofs.Math.Seq.{take-append_seam}
use Rattle.std.specs.Io.KnownBytes.{Appends}
use Rattle.std.proofs.KnownBytes.{Appends-trans, Appends-kept}
use Rattle.agg_streams.proofs.sink.writing.write_all.Goals as goal

-- a prefix that is taken of the rest is done
split-more : (all done rest : List ℕ) (n : ℕ) → all ≡ done ++ rest
    → all ≡ (done ++ take n rest) ++ take (length rest - n) (drop n rest)
split-more all done rest n split =
    split ∙ ap (λ l. done ++ l) (sym (take-append-drop n rest))
    ∙ sym (append_assoc done (take n rest) (drop n rest))
    ∙ ap (λ l. (done ++ take n rest) ++ l) (sym (take_rest rest n))

-- what is done is a prefix of all
done_is_prefix : (all done rest : List ℕ) → all ≡ done ++ rest → done ≡ take (length done) all
done_is_prefix all done rest split = sym (ap (take (length done)) split
    ∙ take-append_seam done rest)

pub loop-rest-preserved : goal.loop-rest-preserved
loop-rest-preserved g c =
    let (done, split, appended) = c.loop-rest.invariant.0 in
    let rest = c.loop-rest.rest.now in
    let n = c.in_ok-count.count in (
      (
        done ++ take n rest,
        split-more _ done rest n split,
        Appends-trans _ _ _ _ _ appended
            c.in_ok-count.ensures.bytes,
      ),
      omega (arith, c.in_ok-count.ensures.cause.later),
    )

pub returns-in_err-count-clause-err : goal.returns-in_err-count-clause-err
returns-in_err-count-clause-err g c =
    let (done, split, appended) = c.loop-rest.invariant.0 in
    let error = err_from_is_err_and c.from_residual.result c.from_residual.ensures.1 in
    rw error.1 (
      length done,
      subst (Appends _ _) (done_is_prefix _ done _ split)
          (Appends-kept _ _ _ done appended c.in_err-count.ensures.bytes),
    )
