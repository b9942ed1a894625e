use Rattle.std.proofs.Common.{[]}
use Rattle.peslumok_command_line.proofs.Zips.{is_among, zip_more}
use Rattle.peslumok_command_line.proofs.readings.read_each.Goals as goal

pub loop-text-preserved : goal.loop-text-preserved
loop-text-preserved g c =
    zip_more g.T.OptionValue.stands_for c.args.texts.now c.loop-text.text-index
    (record { ref_ptr = (0, 0); now = [] }) c.loop-text.read.items c.push.new.self.items
    c.in-Ok.value c.loop-text-test.true c.in_ok-push-in-Ok.ensures.items
    c.loop-text.invariant c.in-Ok.ensures.read

pub returns-in-Err-clause-told : goal.returns-in-Err-clause-told
returns-in-Err-clause-told g c rows given =
    c.in-Err.ensures.told rows
    (is_among c.args.texts.now _ c.loop-text.text-index
    (record { ref_ptr = (0, 0); now = [] }) c.loop-text-test.true given)
