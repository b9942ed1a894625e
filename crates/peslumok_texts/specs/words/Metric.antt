-- The words of metrics.
use Rattle.std.specs.Prelude.{ℕ, List, codes}
use Rattle.peslumok_texts.specs.declared.words.metric.MetricKind.{MetricKind}
use Rattle.peslumok_texts.specs.declared.words.metric.MetricKind.TheVariants.{Count, Sum, Min, Max}

-- the word for what a metric tells
abbrev pub word_of : MetricKind → List ℕ
word_of Count = codes "count"
word_of Sum = codes "sum"
word_of Min = codes "min"
word_of Max = codes "max"
