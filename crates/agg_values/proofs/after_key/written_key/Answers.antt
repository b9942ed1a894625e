use Rattle.std.proofs.Common.{subst, sym}
use Rattle.agg_values.specs.KeyText.{value_text, IsValueText}
use Rattle.agg_values.specs.TypedKey.{CompositeIntermediateKey}
use Rattle.agg_values.proofs.after_key.written_key.Goals as goal

pub returns-in-IpAddr-clause-reads_back : goal.returns-in-IpAddr-clause-reads_back
returns-in-IpAddr-clause-reads_back c =
    subst (λ (key : CompositeIntermediateKey). IsValueText (value_text key) key)
    (sym c.in-IpAddr.is) c.ip_text.ensures.reads_back
