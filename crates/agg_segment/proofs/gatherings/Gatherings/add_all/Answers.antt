use Rattle.std.proofs.Common.{◌≡◌, ◌≤◌, ◌+◌, ◌++◌, ◌∷◌, [], suc, List, drop, length, get_or, map}
use Rattle.std.proofs.Common.{ap, sym, ◌∙◌, arith, refl}
use Rattle.std.specs.Prelude.{filter, nat_lt}
use Rattle.std.proofs.lemmas.Bool.Decides.{nat_tests}
use Rattle.std.proofs.lemmas.List.{append-nil, append_assoc}
use Rattle.std.proofs.lemmas.List.Elements.{All-append}
use Rattle.std.proofs.Math.Seq.{drop-cons}
use Rattle.agg_values.specs.declared.column.ColumnPaginationOrder.TheVariants as class
use Rattle.agg_segment.specs.Gatherings.{Raw, is_raw_of, raw_of}
use Rattle.agg_segment.specs.storage.Runs.{kinds, noted}
use Rattle.agg_segment.specs.declared.storage.run.Run.{Run}
use Rattle.agg_segment.specs.declared.storage.sign.Sign.TheVariants.{Small}
use Rattle.agg_segment.proofs.AlikeNumbers.{alike_all}
use Rattle.agg_segment.proofs.NotedKeys.{note_raw, raws_first}
use Rattle.agg_segment.proofs.Raws.{filter_every, alike_more, doc_last}
use Rattle.agg_segment.proofs.lemmas.storage.NotedRuns.{kinds_first}
use Rattle.agg_segment.proofs.gatherings.Gatherings.add_all.Goals as goal

abbrev none : Run
none = record { kind = record { field = 0; class = class.Bool; sign = Small }; count = 0 }

pub loop-run-init : goal.loop-run-init
loop-run-init c =
    let old = c.args.self.now in
    let doc = c.args.doc in
    record {
      so_far = (
        [],
        λ field rank d. ap (filter (is_raw_of field rank d)) (sym (append-nil old)),
        refl,
      );
      fit = c.requires.fit;
      undone = filter_every (λ (r : Raw). nat_lt r.doc doc) old (λ k d l.
          let low = c.requires.after k d l in grind (arith, nat_tests));
      after = λ k d l. let low = c.requires.after k d l in omega (arith, low);
    }

pub loop-run-preserved : goal.loop-run-preserved
loop-run-preserved c =
    let l = c.loop-run in
    let runs = c.args.runs.now in
    let doc = c.args.doc in
    let rest = l.rest.now in
    let run : Run = get_or runs l.run-index none in
    let others : List Run = drop (l.run-index + 1) runs in
    let own = c.split_at.result.0.now in
    let rs : List Raw = map (raw_of doc run.kind) own in
    let first : drop l.run-index runs ≡ run ∷ others =
    drop-cons runs l.run-index none c.loop-run-test.true
    ∙ ap (λ i. run ∷ drop i runs) (let next : suc l.run-index ≡ l.run-index + 1 = omega arith in
    next) in
    let count : length (kinds (run ∷ others)) ≡ length rest =
    ap (λ rs. length (kinds rs)) (sym first) ∙ l.invariant.fit in
    let low : run.count ≤ length rest = omega (arith, count, kinds_first run others) in
    let (more, alike, is) = l.invariant.so_far in
    let split : map (note_raw doc) (noted (drop l.run-index runs) rest)
    ≡ rs ++ map (note_raw doc) (noted others c.split_at.result.1.now) =
    ap (λ rs. map (note_raw doc) (noted rs rest)) first ∙ raws_first doc run others rest low
    ∙ ap (λ ns. map (raw_of doc run.kind) ns
    ++ map (note_raw doc) (noted others (drop run.count rest))) (sym c.split_at.ensures.front)
    ∙ ap (λ ns. rs ++ map (note_raw doc) (noted others ns)) (sym c.split_at.ensures.back) in
    record {
      so_far = (
        more ++ rs,
        alike_more c.args.self.now l.self c.add_run.new.self more rs alike
            c.in_default.ensures.ok,
        append_assoc more rs _ ∙ ap (λ ts. more ++ ts) (sym split) ∙ is,
      );
      fit = omega (arith, count, kinds_first run others, c.split_at.ensures.back_len);
      undone = c.in_default.ensures.closed ∙ l.invariant.undone;
      after = alike_all (λ (r : Raw). r.doc ≤ doc) c.add_run.new.self (l.self ++ rs)
          c.in_default.ensures.ok (All-append (λ (r : Raw). r.doc ≤ doc) l.self rs
          l.invariant.after (doc_last run.kind.field run.kind.class doc own));
    }
