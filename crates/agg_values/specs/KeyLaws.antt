-- What makes equality and hash of typed keys lawful.
use Rattle.agg_values.specs.contracts.typed_key.CompositeIntermediateKeyEq
    as key_eq
use Rattle.agg_values.specs.contracts.typed_key.CompositeIntermediateKeyHash
    as key_hash
pub use key_eq.TheImpl.Laws as equality
pub use key_hash.TheImpl.Laws as hashes
