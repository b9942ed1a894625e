use Rattle.std.proofs.Common.{◌≡◌, ◌+◌, ◌*◌, None, refl, sym, ap, ◌∙◌, subst, arith, rules}
use Rattle.std.proofs.lemmas.List.{take_all}
use Rattle.agg_request_tree.specs.charges.Charges.{bucket_bytes}
use Rattle.agg_engine_tree.specs.collector_tree.Tree.{held_of}
use Rattle.agg_engine_tree.specs.declared.collector_tree.tree.SegmentCollectorTree.{the_lemmas}
use Rattle.agg_composite.specs.Composite.{num_buckets}
use Rattle.agg_engine_tree.specs.held_bytes.Checked.{IsChecked}
use Rattle.agg_engine_tree.specs.held_bytes.HeldBytes.{held_bytes}
use Rattle.agg_engine_tree.proofs.lemmas.held_bytes.Checked.{is-checked, none-checked}
use Rattle.agg_engine_tree.proofs.lemmas.held_bytes.HeldNodes.{composite-bytes, few-sources}
use Rattle.agg_engine_tree.proofs.lemmas.held_bytes.HeldNodes.{group-bytes, group-each}
use Rattle.agg_engine_tree.proofs.lemmas.held_bytes.HeldNodes.{index-within}
use Rattle.agg_engine_tree.proofs.lemmas.held_bytes.HeldSums.{first-most, group_bytes, one-read}
use Rattle.agg_engine_tree.proofs.held_bytes.buckets.+held_bytes.Goals as goal

-- ---- a composite

pub bounds-as_slice-index : goal.bounds-as_slice-index
bounds-as_slice-index t c =
    let x = c.in-Composite in
    index-within c.args.ctx.now c.args.tree.now c.requires.fits x.index x.collector x.below x.is
    c.as_slice.result.now c.as_slice.ensures

pub offset_bounds-as_slice-index : goal.offset_bounds-as_slice-index
offset_bounds-as_slice-index t c =
    let within = bounds-as_slice-index t c in omega (arith, within, c.as_slice.type_inv)

pub bucket_bytes-requires : goal.bucket_bytes-requires
bucket_bytes-requires t c =
    let x = c.in-Composite in
    let meant = c.requires.meant in
    few-sources c.args.ctx.now c.args.tree.now c.requires.fits x.index x.collector x.below x.is
    c.as_slice.result.now c.as_slice.ensures c.index-as_slice-index.result
    c.index-as_slice-index.is meant.0 meant.1

pub returns-in_err-own-in-Composite : goal.returns-in_err-own-in-Composite
returns-in_err-own-in-Composite t c =
    let x = c.in-Composite in
    let req = c.index-as_slice-index.result in
    let own : c.bucket_bytes.result * c.num_buckets.result
    ≡ bucket_bytes req.req.now * num_buckets x.collector =
    λ i. c.bucket_bytes.ensures i * c.num_buckets.ensures.total i in
    none-checked (held_bytes c.args.ctx.now (held_of c.args.tree.now)) c.from_residual.result
    c.from_residual.ensures (omega (
      arith,
      own,
      is-checked (c.bucket_bytes.result * c.num_buckets.result) None
          c.in_err-own-in-Composite.ensures,
      composite-bytes c.args.ctx.now c.args.tree.now c.requires.fits x.index x.collector x.below
          x.is c.as_slice.result.now c.as_slice.ensures req c.index-as_slice-index.is x.below.value
          refl,
    ))

pub returns-in_ok-held_bytes-in-Composite : goal.returns-in_ok-held_bytes-in-Composite
returns-in_ok-held_bytes-in-Composite t c =
    let x = c.in-Composite in
    let req = c.index-as_slice-index.result in
    let all = held_bytes c.args.ctx.now (held_of c.args.tree.now) in
    let own : c.bucket_bytes.result * c.num_buckets.result
    ≡ bucket_bytes req.req.now * num_buckets x.collector =
    λ i. c.bucket_bytes.ensures i * c.num_buckets.ensures.total i in
    let sum : c.in_ok-own-in-Composite.own + c.in_ok-held_bytes-in-Composite.field-0 ≡ all =
    omega (
      arith,
      own,
      c.in_ok-own-in-Composite.ensures.1,
      c.in_ok-held_bytes-in-Composite.ensures,
      composite-bytes c.args.ctx.now c.args.tree.now c.requires.fits x.index x.collector x.below
          x.is c.as_slice.result.now c.as_slice.ensures req c.index-as_slice-index.is
          c.deref.result.now c.deref.ensures,
    ) in
    subst (λ n. IsChecked n c.checked_add.result) sum
    (is-checked (c.in_ok-own-in-Composite.own + c.in_ok-held_bytes-in-Composite.field-0)
    c.checked_add.result c.checked_add.ensures)

-- ---- several

pub held_bytes-requires-in-loop-child : goal.held_bytes-requires-in-loop-child
held_bytes-requires-in-loop-child t c =
    let x = c.in-Group in (
      search (rules, the_lemmas),
      (
        c.requires.meant,
        group-each c.args.ctx.now c.args.tree.now c.requires.fits x.children x.is
            c.deref-child-items.result.now c.deref-child-items.ensures.value
            c.loop-child.child-index c.child-item.result c.loop-child-test.true c.child-item.is,
      ),
    )

pub returns-in_err-held_bytes-in-Group : goal.returns-in_err-held_bytes-in-Group
returns-in_err-held_bytes-in-Group t c =
    let x = c.in-Group in
    let ctx = c.args.ctx.now in
    let trees = c.deref-child-items.result.now in
    let i = c.loop-child.child-index in
    none-checked (held_bytes ctx (held_of c.args.tree.now))
    c.from_residual-in_err-held_bytes-in-Group.result
    c.from_residual-in_err-held_bytes-in-Group.ensures (omega (
      arith,
      c.in_err-held_bytes-in-Group.ensures,
      one-read ctx trees i c.child-item.result c.loop-child-test.true c.child-item.is,
      first-most ctx trees (i + 1),
      group-bytes ctx c.args.tree.now c.requires.fits x.children x.is trees
          c.deref-child-items.ensures.value,
    ))

pub returns-in_err-bytes-in-Group : goal.returns-in_err-bytes-in-Group
returns-in_err-bytes-in-Group t c =
    let x = c.in-Group in
    let ctx = c.args.ctx.now in
    let trees = c.deref-child-items.result.now in
    let i = c.loop-child.child-index in
    none-checked (held_bytes ctx (held_of c.args.tree.now))
    c.from_residual-in_err-bytes-in-Group.result
    c.from_residual-in_err-bytes-in-Group.ensures (omega (
      arith,
      is-checked (c.loop-child.bytes + c.in_ok-held_bytes-in-Group.field-0) None
          c.in_err-bytes-in-Group.ensures,
      c.loop-child.invariant,
      c.in_ok-held_bytes-in-Group.ensures,
      one-read ctx trees i c.child-item.result c.loop-child-test.true c.child-item.is,
      first-most ctx trees (i + 1),
      group-bytes ctx c.args.tree.now c.requires.fits x.children x.is trees
          c.deref-child-items.ensures.value,
    ))

pub loop-child-preserved : goal.loop-child-preserved
loop-child-preserved t c =
    let more = one-read c.args.ctx.now c.deref-child-items.result.now c.loop-child.child-index
    c.child-item.result c.loop-child-test.true c.child-item.is in
    omega (
      arith,
      c.loop-child.invariant,
      more,
      c.in_ok-held_bytes-in-Group.ensures,
      c.in_ok-bytes-in-Group.ensures.1,
    )

pub returns-after-loop-child : goal.returns-after-loop-child
returns-after-loop-child t c =
    let x = c.in-Group in
    let ctx = c.args.ctx.now in
    let trees = c.deref-child-items.result.now in
    c.loop-child.invariant
    ∙ ap (group_bytes ctx) (take_all c.loop-child.child-index trees c.loop-child-test.false)
    ∙ sym (group-bytes ctx c.args.tree.now c.requires.fits x.children x.is trees
    c.deref-child-items.ensures.value)
