-- What a request is charged in memory for itself, and what for a bucket, in bytes.
use Rattle.std.specs.Prelude.{◌+◌, ◌*◌, ◌/◌, ℕ, [], ◌∷◌, length, sum}
use Rattle.agg_request_tree.specs.Request.{Request, listed_of}
use Rattle.agg_request_tree.specs.declared.aggregation.AggregationVariants as variants
use variants.{AggregationVariants}
use variants.TheVariants.{Filter, Composite}
use Rattle.agg_request_tree.specs.declared.aggregation.CompositeAggregation.{CompositeAggregation}

-- a node, which is an aggregation at any depth, takes 256 bytes
abbrev pub node_bytes : ℕ
node_bytes = 256

-- each source of a composite takes 256 bytes
abbrev pub source_bytes : ℕ
source_bytes = 256

-- a filter takes a bit for each document of the segment, in whole bytes
abbrev pub filter_bytes : ℕ → ℕ
filter_bytes documents = (documents + 7) / 8

-- a bucket of a composite takes 64 bytes, and 32 for each source
abbrev pub bucket_bytes : CompositeAggregation → ℕ
bucket_bytes composite = 64 + 32 * length composite.sources

-- the charge of a node by itself, in a segment of so many documents
abbrev pub node_charge : {B : Type 0} → ℕ → AggregationVariants B → ℕ
node_charge documents (Filter filter) = node_bytes + filter_bytes documents
node_charge documents (Composite composite) = node_bytes + source_bytes * length composite.sources
node_charge documents _ = node_bytes

-- the fixed charge of a request in such a segment: those of all its nodes, at any depth
abbrev pub fixed_charge : {B : Type 0} → Request B → ℕ → ℕ
fixed_charge request documents = sum (listed_of (λ agg. node_charge documents agg ∷ []) request)
