use Rattle.agg_engine.proofs.PageShown.{full_page-shown}
use Rattle.agg_engine.proofs.laws.a_full_page_shows_its_after_key.Goals as goal

pub returns : goal.returns
returns g c is_match name request documents results composite page are named sources room is_page =
    full_page-shown is_match name request documents results composite are named page sources room
    is_page
