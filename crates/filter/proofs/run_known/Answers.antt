-- What was read is the front of the input, and the text is what is printed for it. Assumes nothing.
use Rattle.std.proofs.Common.{◌≡◌, length, rules}
use Rattle.filter.proofs.Reading.{front_read, consumed, written, at_front}
use Rattle.filter.proofs.run_known.Goals as goal

pub returns : goal.returns
returns g c =
    let got = c.in_ok-got.ensures in
    let print = c.print-length.ensures in
    let long : length c.read_full.new.buffer ≡ 65537 = search rules in
    let front = front_read _ _ c.in_ok-got.got 65537 c.read_full.new.buffer long got.upper_bound got.bytes got.end in
    record {
      read = consumed c.write_all.result _ _ 65537 _ front got.bytes;
      written = written c.write_all.result _ _ _ g.F.KnownFilter.output 65537 _ _ front (at_front c.print-length.result c.print-length.new.text _ _ print.value print.text) c.write_all.ensures.bytes;
    }
