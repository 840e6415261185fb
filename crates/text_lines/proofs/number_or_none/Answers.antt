-- Each case is laid as its call promises.
use Rattle.text_lines.proofs.number_or_none.Goals as goal

pub returns-in-Some : goal.returns-in-Some
returns-in-Some c = rw c.in-Some.is c.number.ensures

pub returns-in-None : goal.returns-in-None
returns-in-None c = rw c.in-None.is c.put.ensures
