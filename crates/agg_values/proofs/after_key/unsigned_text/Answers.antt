use Rattle.std.proofs.Common.{arith}
use Rattle.agg_values.proofs.KeyTexts.{IsUnsignedText-decimal}
use Rattle.agg_values.proofs.after_key.unsigned_text.Goals as goal

pub returns-clause-reads_back : goal.returns-clause-reads_back
returns-clause-reads_back c = IsUnsignedText-decimal c.args.n (omega arith)
