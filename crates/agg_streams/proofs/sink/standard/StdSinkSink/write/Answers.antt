use Rattle.std.proofs.Common.{ℕ, List, [], take, Option, Result, Ok, Err, OnErr}
use Rattle.std.specs.Io.KnownBytes.{Appends, Keeps, WriteAppends}
use Rattle.std.proofs.KnownBytes.{Appends-kept, Appends-nil, Keeps-trans}
use Rattle.agg_streams.proofs.sink.standard.StdSinkSink.write.Goals as goal

-- a write and its flush let known bytes grow by a prefix of the piece
flushed : {E : Type 0} (old mid new : Option (List ℕ)) (written : Result ℕ E) (bytes : List ℕ)
    → WriteAppends old mid written bytes → Keeps mid new
    → (count : ℕ) × Appends old new (take count bytes)
flushed old mid new (Ok n) bytes wrote kept =
    (n, Appends-kept old mid new (take n bytes) wrote kept)
flushed old mid new (Err e) bytes wrote kept =
    (0, Appends-kept old old new [] (Appends-nil old) (Keeps-trans old mid new wrote kept))

on_err : {T E P : Type 0} (result : Result T E) → P → OnErr result P
on_err (Ok x) p = tt
on_err (Err e) p = p

pub returns-clause-prefix : goal.returns-clause-prefix
returns-clause-prefix g c =
    let write = c.write-written in
    on_err c.settle.result (
    rw (← c.self.view_is, c.settle.ensures.writer)
    (flushed _ _ _ write.result c.args.bytes.now write.ensures.bytes
    c.flush-flushed.ensures.bytes)
    )
