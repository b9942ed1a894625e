use Rattle.peslumok_command_line.proofs.read.group_options.Goals as goal

pub returns-clause-asked : goal.returns-clause-asked
returns-clause-asked c =
    let page = c.in_ok-page.ensures.asked in
    let records = c.in_ok-records.ensures.asked in
    let columns = c.in_ok-columns.ensures.asked in
    record {
      files = records.files;
      by = c.in_ok-by.ensures.by;
      few = c.in_ok-by.ensures.few;
      conditions = records.conditions;
      query = c.text.ensures;
      metrics = columns.metrics;
      total = c.is_used.ensures;
      size = page.size;
      after = page.after;
      all = page.all;
      top = page.top;
      alone = page.alone;
      dates = columns.dates;
      decimals = columns.decimals;
      texts = columns.texts;
      from = c.from.ensures;
      to = c.to.ensures;
    }
