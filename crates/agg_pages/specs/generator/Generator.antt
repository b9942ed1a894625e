-- The input that is generated from a seed.
use Rattle.std.specs.Prelude.{ℕ, [], ◌∷◌, None, codes, replicate}
use Rattle.agg_segment.specs.declared.query.QueryTree.TheVariants.{All}
use Rattle.agg_pages.specs.declared.input_text.header.Header.{Header}
use Rattle.agg_pages.specs.input_text.Input.{Input}
use Rattle.agg_pages.specs.generator.Documents.{generated_snapshot}
use Rattle.agg_pages.specs.generator.Request.{generated_request}

-- the header: that request over all documents, with no limits
abbrev pub generated_header : {B : Type 0} → Header B
generated_header = record {
  request = generated_request;
  name = codes "g";
  schema = codes "a" ∷ codes "b" ∷ codes "d" ∷ [];
  query = All;
  memory_limit = None;
  bucket_limit = None;
}

-- the input of a seed: twelve equal snapshots
unfoldable pub generated : {B : Type 0} → ℕ → Input B
generated seed =
    record { header = generated_header; snapshots = replicate 12 (generated_snapshot seed) }
