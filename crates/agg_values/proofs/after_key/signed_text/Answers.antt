use Rattle.std.proofs.Common.{rules}
use Rattle.agg_values.proofs.KeyTexts.{IsSignedText-signed_decimal}
use Rattle.agg_values.proofs.after_key.signed_text.Goals as goal

pub returns-clause-reads_back : goal.returns-clause-reads_back
returns-clause-reads_back c = IsSignedText-signed_decimal c.args.n (search rules)
