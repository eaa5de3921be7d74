-- The roots that t asks for, the first of them repeated. Assumes nothing.
use Rattle.bch.proofs.tables.TableLoops.{again_as, field_stays, code_filled}
use Rattle.receiver.proofs.tables.fill_roots.Goals as goal

pub returns : goal.returns
returns c =
    let k = c.requires.0.made in
    let l = k.lawful in
    let m = c.args.c.m in
    let t = c.args.c.t in
    let f = c.fill_kappas.ensures in
    let r = again_as k.is_period k.is_roots c.wrap.ensures in
    record {
      fielded = record { made = k; field = field_stays m t _ _ f r };
      tables = code_filled m t _ _ f r l.m_least l.m_most l.t_least l.t_most;
    }
