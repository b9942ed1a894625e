use Rattle.std.proofs.Common.{◌≡◌, ◌∙◌, ap, false, sym, refl, inr}
use Rattle.std.proofs.lemmas.List.Elements.{All-nil}
use Rattle.csv.specs.Reading.{Reached, builder_config, builder_is_flexible}
use Rattle.csv.specs.Reading.{builder_names_headers, builder_trim, strip_bom, with_config}
use Rattle.csv.specs.Reading.{with_names_headers}
use Rattle.csv.specs.Records.{AllText}
use Rattle.csv.specs.declared.parser.Config.{Config}
use Rattle.peslumok_records.proofs.lemmas.cells.RefusedRows.{no_last}
use Rattle.peslumok_records.proofs.cells.rows.CellRows.new.Goals as goal

pub returns : goal.returns
unfolding Reached
returns c =
    let fr = c.from_reader.ensures in
    let parted = with_config c.new.result
    (record (builder_config c.new.result) { delimiter = c.args.delimiter }) in
    let built : c.has_headers.result.now ≡ with_names_headers parted false =
    c.has_headers.ensures ∙ ap (λ b. with_names_headers b false) c.delimiter.ensures in
    record {
      parted = refl;
      whole = refl;
      untrimmed = fr.trim ∙ ap builder_trim built ∙ c.new.ensures.trim;
      ready = inr (inr (fr.has_headers ∙ ap builder_names_headers built, fr.headers));
      config = fr.config ∙ ap builder_config built
          ∙ ap (λ (k : Config). record k { delimiter = c.args.delimiter }) c.new.ensures.config;
      left = strip_bom c.args.text.now;
      source = fr.source;
      reached = (sym fr.state, refl);
      rigid = fr.flexible ∙ ap builder_is_flexible built ∙ c.new.ensures.flexible;
      width = fr.expected;
      even = tt;
      texts = All-nil AllText;
      latest = λ before row is. absurd (no_last before row is);
    }
