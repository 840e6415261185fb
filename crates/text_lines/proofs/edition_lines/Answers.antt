-- Each edition is laid as its call promises.
use Rattle.text_lines.proofs.edition_lines.Goals as goal

pub returns-in-First : goal.returns-in-First
returns-in-First c = rw c.in-First.is c.put.ensures

pub returns-in-Second : goal.returns-in-Second
returns-in-Second c = rw c.in-Second.is c.number_line.ensures
