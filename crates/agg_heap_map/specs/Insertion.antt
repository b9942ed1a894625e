-- What entries are once a key has a value.
use Rattle.std.specs.Prelude.{◌≡◌, List}
use Rattle.std.specs.BTreeMap.{insert_entry, is_at}
use Rattle.std.specs.Map.{lookup}
use Rattle.std.specs.Option.{UnwrapsOrElse}
use Rattle.std.specs.declared.cmp.Ordering.{Ordering}

-- fs are the entries es with a value at a key: its value in es, or where it has none a made one
abbrev pub HasValueAt : {K X : Type 0} → (K → K → Ordering) → (X → Type 0) → List (K × X) → K
    → List (K × X) → Type 0
HasValueAt {K} {X} R Made es k fs =
    (v : X) × UnwrapsOrElse (lookup (is_at (R k)) es) Made v × (fs ≡ insert_entry R es k v)
