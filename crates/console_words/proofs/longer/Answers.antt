-- `longer` meets its contract: a line with room gets the byte, and any other stays and counts as too long.
use Rattle.console_words.proofs.Bytes.{one_more_lem, line_with, too_many, line_stays}
use Rattle.console_words.proofs.longer.Goals as goal

pub returns-then-fits : goal.returns-then-fits
returns-then-fits c =
    let x = c.args in
    record { count = one_more_lem x.filled c.if-fits.true; bytes = line_with x.line.now x.filled x.byte c.if-fits.true }

pub returns : goal.returns
returns c =
    let x = c.args in
    record { count = too_many x.filled c.if-fits.false; bytes = line_stays x.line.now x.filled x.byte c.if-fits.false }
