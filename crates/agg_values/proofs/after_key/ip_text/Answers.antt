use Rattle.std.proofs.Common.{arith}
use Rattle.agg_values.proofs.AddressTexts.{IsAddressText-address_text}
use Rattle.agg_values.proofs.after_key.ip_text.Goals as goal

pub returns-clause-reads_back : goal.returns-clause-reads_back
returns-clause-reads_back c = IsAddressText-address_text c.args.address.0 (omega arith)
