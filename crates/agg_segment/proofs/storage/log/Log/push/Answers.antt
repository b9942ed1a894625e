use Rattle.std.proofs.Common.{◌≡◌, ◌≤◌, ◌++◌, ◌∷◌, [], List, ℕ, length, map, ap, ◌∙◌, arith}
use Rattle.std.proofs.Common.{length-append}
use Rattle.std.proofs.lemmas.List.{map-append}
use Rattle.std.proofs.lemmas.List.Elements.{All-push}
use Rattle.agg_segment.specs.storage.Cells.{pushed_key}
use Rattle.agg_segment.specs.storage.Runs.{Logged, FieldKey, kinds, noted, noted_key, IsNoted}
use Rattle.agg_segment.specs.declared.storage.run.RunKind.{RunKind}
use Rattle.agg_segment.proofs.lemmas.storage.GrowingNumbers.{zip_more}
use Rattle.agg_segment.proofs.lemmas.storage.Filters.{on_err_given}
use Rattle.agg_segment.proofs.lemmas.storage.KeptNumbers.{still, notes_longer}
use Rattle.agg_segment.proofs.storage.log.Log.push.Goals as goal

pub returns-in_err-kept-clause-err : goal.returns-in_err-kept-clause-err
returns-in_err-kept-clause-err c =
    let t = c.in_err-kept.ensures.texts in
    let a = c.in_err-kept.ensures.addresses in
    on_err_given c.from_residual.result (still c.self.inside.texts t.0
    c.self.inside.addresses.items a.0 (noted c.self.inside.runs.items c.self.inside.numbers.items)
    _ _ t.1 a.1 c.self.invariant.kept ∙ ap (λ (log : Logged). log.keys) c.self.view_is)

pub returns-in_err-reserve-clause-err : goal.returns-in_err-reserve-clause-err
returns-in_err-reserve-clause-err c =
    let t = c.in_ok-kept.ensures.texts in
    let a = c.in_ok-kept.ensures.addresses in
    on_err_given c.from_residual-in_err-reserve.result (rw c.in_err-reserve.ensures.items
    (still c.self.inside.texts t.0 c.self.inside.addresses.items a.0
    (noted c.self.inside.runs.items c.self.inside.numbers.items) _ _ t.1 a.1
    c.self.invariant.kept ∙ ap (λ (log : Logged). log.keys) c.self.view_is))

pub returns-in_err-count_one-clause-err : goal.returns-in_err-count_one-clause-err
returns-in_err-count_one-clause-err c =
    let t = c.in_ok-kept.ensures.texts in
    let a = c.in_ok-kept.ensures.addresses in
    on_err_given c.from_residual-in_err-count_one.result
    (rw (c.in_err-count_one.ensures.err, c.in_ok-reserve.ensures.items)
    (still c.self.inside.texts t.0 c.self.inside.addresses.items a.0
    (noted c.self.inside.runs.items c.self.inside.numbers.items) _ _ t.1 a.1
    c.self.invariant.kept ∙ ap (λ (log : Logged). log.keys) c.self.view_is))

-- the numbers of before with their kinds
abbrev olds : (c : goal.In_ok-push) → List (RunKind × ℕ)
olds c = noted c.self.inside.runs.items c.self.inside.numbers.items

-- the new number with its kind
abbrev one : (c : goal.In_ok-push) → RunKind × ℕ
one c = (
  record {
    field = c.args.field;
    class = c.in_ok-kept.kept.class;
    sign = c.in_ok-kept.kept.sign;
  },
  c.in_ok-kept.kept.number,
)

numbers_are : (c : goal.In_ok-push)
    → c.push.new.self.items ≡ c.self.inside.numbers.items ++ (one c).1 ∷ []
numbers_are c = c.in_ok-push.ensures.items
    ∙ ap (λ ns. ns ++ (one c).1 ∷ []) c.in_ok-reserve.ensures.items

notes_are : (c : goal.In_ok-push)
    → noted c.count_one.new.runs.items c.push.new.self.items ≡ olds c ++ one c ∷ []
notes_are c =
    rw (c.in_ok-count_one.ensures.ok, numbers_are c)
    (zip_more (kinds c.self.inside.runs.items) c.self.inside.numbers.items (one c).0 (one c).1
    c.self.invariant.fit)

pub invariant_of-self-2 : goal.invariant_of-self-2
invariant_of-self-2 c =
    let t = c.in_ok-kept.ensures.texts in
    let a = c.in_ok-kept.ensures.addresses in
    let s = c.self.inside in
    let n = length c.keep_pushed.new.texts in
    let m = length c.keep_pushed.new.addresses.items in
    let up : length s.texts ≤ n = omega (arith, ap length t.1, length-append s.texts t.0) in
    let on : length s.addresses.items ≤ m =
    omega (arith, ap length a.1, length-append s.addresses.items a.0) in
    record {
      some = c.in_ok-count_one.ensures.some c.self.invariant.some;
      fit = omega (
        arith,
        ap length c.in_ok-count_one.ensures.ok,
        length-append (kinds s.runs.items) ((one c).0 ∷ []),
        ap length (numbers_are c),
        length-append s.numbers.items ((one c).1 ∷ []),
        c.self.invariant.fit,
      );
      kept = rw (notes_are c) (All-push (IsNoted n m) (olds c) (one c)
          (notes_longer (length s.texts) (length s.addresses.items) n m (olds c) up on
          c.self.invariant.kept) c.in_ok-kept.ensures.kept);
    }

pub returns-clause-ok : goal.returns-clause-ok
returns-clause-ok c =
    let t = c.in_ok-kept.ensures.texts in
    let a = c.in_ok-kept.ensures.addresses in
    let read = noted_key c.keep_pushed.new.texts c.keep_pushed.new.addresses.items in
    rw (notes_are c) (map-append read (olds c) (one c ∷ [])
    ∙ ap (λ k. let f : FieldKey = record { field = c.args.field; key = k } in
    map read (olds c) ++ f ∷ []) c.in_ok-kept.ensures.key
    ∙ ap (λ ks. let f : FieldKey = record {
      field = c.args.field;
      key = pushed_key c.args.value;
    } in ks ++ f ∷ []) (still c.self.inside.texts t.0 c.self.inside.addresses.items a.0 (olds c) _ _
    t.1 a.1 c.self.invariant.kept ∙ ap (λ (log : Logged). log.keys) c.self.view_is))
