use Rattle.ppm.proofs.Heads.{head_made}
use Rattle.ppm.proofs.head.Goals as goal

pub returns : goal.returns
returns c =
    let s = c.in_ok-size.ensures in
    head_made c.args.width c.args.height c.args.output.now s.0 s.1 c.if-output-lt-HEAD_ROOM.false c.put_head.ensures.answer c.put_head.ensures.after
