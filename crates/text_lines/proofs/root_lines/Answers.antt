-- Each case is laid as its call promises.
use Rattle.text_lines.proofs.root_lines.Goals as goal

pub returns-in-Unissued : goal.returns-in-Unissued
returns-in-Unissued c = rw c.in-Unissued.is c.put.ensures

pub returns-in-Queued : goal.returns-in-Queued
returns-in-Queued c = rw c.in-Queued.is c.pair_line.ensures

pub returns-in-Spent : goal.returns-in-Spent
returns-in-Spent c = rw c.in-Spent.is c.put-in-Spent.ensures
