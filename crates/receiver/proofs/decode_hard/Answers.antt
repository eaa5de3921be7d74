-- What the check lets pass is a word of the code. Assumes nothing.
use Rattle.receiver.proofs.Called.{accepted}
use Rattle.receiver.proofs.decode_hard.Goals as goal

pub decode-requires : goal.decode-requires
decode-requires c = accepted _ _ _ _ _ _ c.in_ok-c.ensures
