use Rattle.std.proofs.Common.{rules}
use Rattle.text.proofs.FrontLaw.{front-is_word, behind-drop}
use Rattle.text.proofs.line.behind.Goals as goal

pub returns : goal.returns
returns c =
    let e = front-is_word c.args.word.now c.args.bytes.now in
    let d = behind-drop c.args.word.now c.args.bytes.now in
    rw (← e, d) (search rules)
