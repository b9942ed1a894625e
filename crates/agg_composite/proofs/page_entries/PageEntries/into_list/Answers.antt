use Rattle.agg_composite.proofs.BucketPages.{entries-more, first-encoded}
use Rattle.agg_composite.proofs.page_entries.PageEntries.into_list.Goals as goal

pub loop-page-preserved : goal.loop-page-preserved
loop-page-preserved c =
    let req = c.args.req.now in
    let left = c.loop-page.rest in
    let next = rw c.in-Some.is at c.in_ok-entry.ensures in
    record {
      entries = entries-more req left c.next_entry.new.self next.bucket next.split _
          c.loop-page.page.items c.push.new.self.items c.in-Some.entry c.in_ok-push.ensures.items
          next.is c.loop-page.invariant.entries;
      encoded = (first-encoded req left c.next_entry.new.self next.bucket next.split
          c.loop-page.invariant.encoded).1;
    }
