use Rattle.serde_json.specs.View.{view}
use Rattle.agg_pages.proofs.header_text.header_line.Goals as goal

pub returns : goal.returns
returns g c = record {
  value = view c.in_ok-value.value;
  is_header = c.in_ok-value.ensures;
  is_read = c.in_ok-to_string.ensures.reads_back;
}
