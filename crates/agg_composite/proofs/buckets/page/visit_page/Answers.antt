use Rattle.std.proofs.Common.{◌≡◌, Some, rules, sym, subst}
use Rattle.agg_composite.specs.buckets.Page.{AddsAtMost, HasRoom, IsAbsent, IsCountedMore, opened}
use Rattle.agg_composite.proofs.lemmas.buckets.HeldPages.{adds-room, adds-taken}
use Rattle.agg_composite.proofs.lemmas.buckets.PageRoom.{absent-room, takes-new}
use Rattle.agg_composite.proofs.lemmas.buckets.PageSteps.{takes-more}
use Rattle.agg_composite.proofs.buckets.page.visit_page.Goals as goal

pub returns-in-Some-clause-ok : goal.returns-in-Some-clause-ok
returns-in-Some-clause-ok g c =
    let R = g.S.Ord.cmp in
    let t = c.args.tuple.now in
    let counted : IsCountedMore R t c.in-Some.id c.args.page.now c.count_more.new.page =
    rw c.in-Some.is at c.in_ok-id.ensures.ok in
    takes-more R g.met.S.Ord.total c.args.size c.args.ids.now t c.in-Some.id c.args.page.now
    c.count_more.new.page counted

pub open-requires-clause-absent : goal.open-requires-clause-absent
open-requires-clause-absent g c =
    let R = g.S.Ord.cmp in
    let t = c.args.tuple.now in
    let old = c.args.page.now in
    let mid = c.make_room.new.page in
    let none : (c.count_more.new.page ≡ old) × IsAbsent R old t =
    rw c.in_default.is at c.in_ok-id.ensures.ok in
    let room = subst (λ page. HasRoom R c.args.size t page mid) none.0
    (c.in_ok-make_room.ensures.room (search rules)) in
    absent-room R g.met.S.Ord.total c.args.size t (opened 0) old mid none.1 room

pub returns-clause-ok : goal.returns-clause-ok
returns-clause-ok g c =
    let R = g.S.Ord.cmp in
    let t = c.args.tuple.now in
    let old = c.args.page.now in
    let mid = c.make_room.new.page in
    let none : (c.count_more.new.page ≡ old) × IsAbsent R old t =
    rw c.in_default.is at c.in_ok-id.ensures.ok in
    let room = subst (λ page. HasRoom R c.args.size t page mid) none.0
    (c.in_ok-make_room.ensures.room (search rules)) in
    takes-new R g.met.S.Ord.total c.args.size c.args.ids.now c.next_bucket_id.new.self t
    c.in_ok-id-2.id old mid c.open.new.page none.1 room c.in_ok-id-2.ensures.next
    c.in_ok-id-2.ensures.id c.in_ok-open.ensures.ok

pub returns-in-Some-clause-held : goal.returns-in-Some-clause-held
returns-in-Some-clause-held g c =
    adds-taken g.S.Ord.cmp c.args.size c.args.ids.now c.args.ids.now c.args.tuple.now
    c.args.page.now c.count_more.new.page (Some c.in-Some.id) (returns-in-Some-clause-ok g c)

pub returns-clause-held : goal.returns-clause-held
returns-clause-held g c =
    adds-taken g.S.Ord.cmp c.args.size c.args.ids.now c.next_bucket_id.new.self c.args.tuple.now
    c.args.page.now c.open.new.page (Some c.in_ok-id-2.id) (returns-clause-ok g c)

pub returns-in_err-id-2-clause-held : goal.returns-in_err-id-2-clause-held
returns-in_err-id-2-clause-held g c =
    let R = g.S.Ord.cmp in
    let t = c.args.tuple.now in
    let old = c.args.page.now in
    let mid = c.make_room.new.page in
    let none : (c.count_more.new.page ≡ old) × IsAbsent R old t =
    rw c.in_default.is at c.in_ok-id.ensures.ok in
    adds-room R c.args.size t old mid
    (subst (λ page. HasRoom R c.args.size t page mid) none.0
    (c.in_ok-make_room.ensures.room (search rules)))

pub returns-in_err-open-clause-held : goal.returns-in_err-open-clause-held
returns-in_err-open-clause-held g c =
    let R = g.S.Ord.cmp in
    let t = c.args.tuple.now in
    let old = c.args.page.now in
    let mid = c.make_room.new.page in
    let none : (c.count_more.new.page ≡ old) × IsAbsent R old t =
    rw c.in_default.is at c.in_ok-id.ensures.ok in
    subst (AddsAtMost R t old) (sym c.in_err-open.ensures.err)
    (adds-room R c.args.size t old mid
    (subst (λ page. HasRoom R c.args.size t page mid) none.0
    (c.in_ok-make_room.ensures.room (search rules))))
