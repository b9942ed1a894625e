use Rattle.agg_request_tree.proofs.PageWhole.{with_room}
use Rattle.agg_request_tree.proofs.laws.a_page_with_room_is_the_last.Goals as goal

pub returns : goal.returns
returns c sources size bound documents page is room = with_room sources bound documents size page is
    room
