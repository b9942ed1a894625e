use Rattle.std.proofs.Common.{arith}
use Rattle.agg_composite.proofs.BucketPages.{encoded-sized}
use Rattle.agg_composite.proofs.page_entries.PageEntries.next_entry.Goals as goal

pub next_of-requires : goal.next_of-requires
next_of-requires c = (
  omega arith,
  encoded-sized c.args.req.now _ _ c.args.self.now c.in-One.is c.self.view_is c.requires,
)

pub next_of-requires-in-Two : goal.next_of-requires-in-Two
next_of-requires-in-Two c = (
  omega arith,
  encoded-sized c.args.req.now _ _ c.args.self.now c.in-Two.is c.self.view_is c.requires,
)

pub next_of-requires-in-Four : goal.next_of-requires-in-Four
next_of-requires-in-Four c = (
  omega arith,
  encoded-sized c.args.req.now _ _ c.args.self.now c.in-Four.is c.self.view_is c.requires,
)

pub next_of-requires-in-Eight : goal.next_of-requires-in-Eight
next_of-requires-in-Eight c = (
  omega arith,
  encoded-sized c.args.req.now _ _ c.args.self.now c.in-Eight.is c.self.view_is c.requires,
)

pub next_of-requires-in-Sixteen : goal.next_of-requires-in-Sixteen
next_of-requires-in-Sixteen c = (
  omega arith,
  encoded-sized c.args.req.now _ _ c.args.self.now c.in-Sixteen.is c.self.view_is c.requires,
)

pub next_listed-requires : goal.next_listed-requires
next_listed-requires c =
    encoded-sized c.args.req.now _ _ c.args.self.now c.in-Listed.is c.self.view_is c.requires
