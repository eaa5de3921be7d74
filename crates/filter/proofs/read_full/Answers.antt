-- One read more, or none. Assumes nothing.
use Rattle.std.proofs.Common.{rules}
use Rattle.filter.proofs.Reading.{more_read, none_read, nothing_read, on_err}
use Rattle.filter.proofs.read_full.Goals as goal

pub returns-in_err-count-clause-failed : goal.returns-in_err-count-clause-failed
returns-in_err-count-clause-failed g c =
    let l = c.loop-done in
    on_err c.from_residual.result
    (l.done, search rules, none_read _ _ _ l.buffer c.read.new.buf l.done l.invariant.0 l.invariant.1 c.in_err-count.ensures.bytes)

pub returns-then-count-eq0-clause-bytes : goal.returns-then-count-eq0-clause-bytes
returns-then-count-eq0-clause-bytes g c =
    let l = c.loop-done in
    let r = c.in_ok-count in
    nothing_read _ _ _ l.buffer c.read.new.buf l.done l.invariant.0 l.invariant.1 r.count c.if-count-eq0.true r.ensures.bound.0 r.ensures.bytes.0

pub loop-done-preserved : goal.loop-done-preserved
loop-done-preserved g c =
    let l = c.loop-done in
    let r = c.in_ok-count in
    (search rules, more_read _ _ _ l.buffer c.read.new.buf l.done l.invariant.0 l.invariant.1 r.count r.ensures.bound.0 r.ensures.bytes.0)
